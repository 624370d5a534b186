-- The number of what a heading asks.
use Rattle.std.proofs.Common.{◌≡◌, ℕ, suc, ◌+◌, ◌==◌, List, [], ◌∷◌, length, map, refl, ap, ◌∙◌, arith}
use Rattle.std.proofs.lemmas.List.{length-map}
use Rattle.edi_tree.specs.declared.expressions.Expr as code_expr
use Rattle.edi_tree.specs.Tree.{Expr}
use Rattle.edi_tree.specs.View.{exprs, expr_of}
use Rattle.edi_unit.specs.Headings.{Formals, no_formal}
use Rattle.edi_static.specs.declared.headings.Formal as code_formal
use Rattle.edi_static.specs.Environment.{formals_count, same_formals}
use Rattle.edi_static.specs.Expressions.{exprs_count}
use Rattle.edi_static.specs.Views.{One, value, variable, procedure, formals, formal_of}

count_is : (xs : List One) → formals_count (formals xs) ≡ length xs
count_is [] = refl
count_is (value t ∷ xs) = ap suc (count_is xs)
count_is (variable t ∷ xs) = ap suc (count_is xs)
count_is (procedure h ∷ xs) = ap suc (count_is xs)

-- as many formals as items
pub counted : (fs : List code_formal.Formal) (asks : Formals) (n : ℕ) → formals (map formal_of fs) ≡ asks → (length fs == n) ≡ (formals_count asks == n)
counted fs asks n h = ap (λ c. c == n) (grind (arith, ap formals_count h, count_is (map formal_of fs), length-map fs formal_of))

none_is : (xs : List One) → (length xs == 0) ≡ same_formals no_formal (formals xs)
none_is [] = refl
none_is (value t ∷ xs) = grind (arith)
none_is (variable t ∷ xs) = grind (arith)
none_is (procedure h ∷ xs) = grind (arith)

-- no formals are no items
pub no_formals : (fs : List code_formal.Formal) → (length fs == 0) ≡ same_formals no_formal (formals (map formal_of fs))
no_formals fs = ap (λ c. c == 0) (grind (arith, length-map fs formal_of)) ∙ none_is (map formal_of fs)

exprs_are : (es : List Expr) → exprs_count (exprs es) ≡ length es
exprs_are [] = refl
exprs_are (e ∷ es) = ap suc (exprs_are es)

-- as many arguments as items, and the first
pub args_are : (es : List code_expr.Expr) → length es + 1 ≡ suc (exprs_count (exprs (map expr_of es)))
args_are es = grind (arith, exprs_are (map expr_of es), length-map es expr_of)
