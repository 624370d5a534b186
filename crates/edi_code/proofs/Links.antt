-- Operators with their right operands, one behind another.
use Rattle.std.proofs.Common.{◌≡◌, ℕ, ◌+◌, ◌++◌, refl, sym, ap, ◌∙◌, arith, append_assoc}
use Rattle.edi_unit.specs.declared.expressions.Operator.{Operator}
use Rattle.edi_unit.specs.Tree.{Expression, Link, link, Links, link_then}
use Rattle.edi_unit.specs.Need.{operator_type}
use Rattle.edi_scheme.specs.Pieces.{Code, code_length, decision, operation}
use Rattle.edi_code.specs.Scope.{types_in}
use Rattle.edi_code.specs.InScope.{operator_of, expression_length, expression_code, link_length, links_length, link_code, links_code}
use Rattle.edi_code.specs.InScope.{LinksAreWritable}
use Rattle.edi_code.specs.declared.scope.Scope.{Scope}

pub link_is : (s : Scope) (at left : ℕ) (o : Operator) (e : Expression) (line right behind : ℕ) → right ≡ at + code_length (decision o 0)
    → behind ≡ right + expression_length s e + code_length (operation (types_in s) left o line) → link_code s at left (link o e line) ≡ decision o behind
    ++ (expression_code s right e ++ operation (types_in s) left o line)
link_is s at left o e line right behind r b =
    let here : at + link_length s left (link o e line) ≡ behind = omega (arith, r, b) in
    ap (λ (k : ℕ). decision o k ++ (expression_code s (at + code_length (decision o 0)) e ++ operation (types_in s) left o line)) here
    ∙ ap (λ (k : ℕ). decision o behind ++ (expression_code s k e ++ operation (types_in s) left o line)) (sym r)

pub links_are : (s : Scope) (at left : ℕ) (l : Link) (ls : Links) → links_code s at left (link_then l ls) ≡ link_code s at left l
    ++ links_code s (at + link_length s left l) (operator_type (operator_of l) left) ls
links_are s at left (link o e line) ls =
    let d : ℕ = code_length (decision o 0) in
    let w : ℕ = expression_length s e in
    let p : ℕ = code_length (operation (types_in s) left o line) in
    let here : at + d + w + p ≡ at + (d + w + p) = omega arith in
    ap (λ (k : ℕ). decision o k ++ (expression_code s (at + d) e ++ (operation (types_in s) left o line ++ links_code s k (operator_type o left) ls))) here
    ∙ ap (λ (c : Code). decision o (at + (d + w + p)) ++ c)
    (sym (append_assoc (expression_code s (at + d) e) (operation (types_in s) left o line) (links_code s (at + (d + w + p)) (operator_type o left) ls)))
    ∙ sym (append_assoc (decision o (at + (d + w + p))) (expression_code s (at + d) e ++ operation (types_in s) left o line)
    (links_code s (at + (d + w + p)) (operator_type o left) ls))

pub links_room : (s : Scope) (left : ℕ) (l : Link) (ls : Links) → links_length s left (link_then l ls) ≡ link_length s left l + links_length s
    (operator_type (operator_of l) left) ls
links_room s left (link o e line) ls = refl

pub links_writable : (s : Scope) (left : ℕ) (l : Link) (ls : Links) → LinksAreWritable s left (link_then l ls)
    → LinksAreWritable s (operator_type (operator_of l) left) ls
links_writable s left (link o e line) ls h = h.2
