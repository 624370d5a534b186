-- A text has one explanation.
use Rattle.std.proofs.Common.{◌≡◌, ◌∙◌, ℕ, Bool, true, false, List, take, ◌++◌, inl, inr, Result, Ok, Err, refl, sym, subst}
use Rattle.edi_lex.specs.declared.symbol.Mark.{Mark}
use Rattle.edi_lex.specs.declared.fault.LexFault.{LexFault}
use Rattle.edi_lex.specs.Symbols.{symbols_of}
use Rattle.edi_syntax.proofs.Once.{same_fault, no_tree}
use Rattle.edi_texts.specs.declared.kind.RefusalKind.{RefusalKind}
use Rattle.edi_explain.specs.expected.Reaches.{May}
use Rattle.edi_explain.specs.told.Advice.{advice_of}
use Rattle.edi_explain.specs.told.Explained.{OneExplanation, IsExplainedBy, IsSyntaxText, index_of, kind_of_fault, wrong_text}

may_same : (before : List Mark) (k : ℕ) (a b : Bool) → May before k a → May before k b → a ≡ b
may_same before k true true x y = refl
may_same before k false false x y = refl
may_same before k true false x y = absurd (y x)
may_same before k false true x y = absurd (x y)

syntax_once : (text : List ℕ) (known : List Mark × ℕ) (one other : List ℕ) → IsSyntaxText text known one → IsSyntaxText text known other → one ≡ other
syntax_once text known one other a b =
    let same = same_fault known.0 known.1 a.fault b.fault a.is b.is in
    let exact = subst (λ f. (k : ℕ) → May (take (index_of f) known.0) k (b.may k)) (sym same) b.exact in
    let may : a.may ≡ b.may = λ i k. may_same (take (index_of a.fault) known.0) k (a.may k) (b.may k) (a.exact k) (exact k) i in
    a.shown_is
    ∙ (λ i. wrong_text text known.0 known.1 (index_of (same i)) (may i) ++ advice_of (kind_of_fault (same i)))
    ∙ sym b.shown_is

known_once : (text : List ℕ) (why : RefusalKind) (line : ℕ) (known : Result (List Mark × ℕ) LexFault) (one other : List ℕ)
    → IsExplainedBy text why line known one → IsExplainedBy text why line known other → one ≡ other
known_once text why line (Err fault) one other a b = a ∙ sym b
known_once text why line (Ok known) one other (inl a) (inl b) = syntax_once text known one other a b
known_once text why line (Ok known) one other (inl a) (inr b) =
    absurd (no_tree known.0 known.1 a.fault b.tree a.is b.tree_is.spells b.tree_is.shallow)
known_once text why line (Ok known) one other (inr a) (inl b) =
    absurd (no_tree known.0 known.1 b.fault a.tree b.is a.tree_is.spells a.tree_is.shallow)
known_once text why line (Ok known) one other (inr a) (inr b) = a.shown_is ∙ sym b.shown_is

pub one_explanation : OneExplanation
one_explanation text why line one other a b = known_once text why line (symbols_of text) one other a b
