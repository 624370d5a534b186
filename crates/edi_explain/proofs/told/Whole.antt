-- From the parts of an explanation to the whole.
use Rattle.std.proofs.Common.{◌≡◌, ◌∙◌, ℕ, Bool, true, false, List, take, inl, inr, Result, Ok, Err, IfOk, Vec, Global, refl, sym, ap, subst}
use Rattle.std.specs.Prelude.{if◌then◌else◌}
use Rattle.edi_lex.specs.declared.symbol.Mark.{Mark}
use Rattle.edi_lex.specs.declared.fault.LexFault.{LexFault}
use Rattle.edi_lex.specs.declared.fault.LexFault.TheVariants as lex
use Rattle.edi_lex.specs.Symbols.{is_too_long, symbols_from, symbols_of}
use Rattle.edi_lex.specs.Limit.{most_fetched}
use Rattle.edi_lex.proofs.Limited.{first_bytes_decide}
use Rattle.edi_tree.specs.Tree.{Program}
use Rattle.edi_grammar.specs.derivation.Faults.{IsTheTree}
use Rattle.edi_texts.specs.declared.kind.RefusalKind.{RefusalKind}
use Rattle.edi_explain.specs.told.Explained.{IsExplained, IsExplainedBy, IsSyntaxText, lexical_text, static_text}
use Rattle.edi_explain.specs.told.Scanned.{HasStray, HasSymbols}

-- ---- what the symbols show of the text

pub scanned : (text : List ℕ) (found : List Mark × ℕ) → symbols_of text ≡ Ok found → HasSymbols text
scanned text found e = by (is_too_long text) e where
  by : (b : Bool) → (if b then Err lex.TooLong else symbols_from text 0 1) ≡ Ok found → HasSymbols text
  by true e = absurd (cc)
  by false e = (found, e)

pub stray_scanned : (text : List ℕ) (fault : LexFault) → (lex.TooLong ≡ fault → ⊥) → symbols_of text ≡ Err fault → HasStray text
stray_scanned text fault other e = by (is_too_long text) e where
  by : (b : Bool) → (if b then Err lex.TooLong else symbols_from text 0 1) ≡ Err fault → HasStray text
  by true e = let same : lex.TooLong ≡ fault = cc in absurd (other same)
  by false e = (fault, e)

-- ---- the whole

module _ {E : Type 0} (text : List ℕ) (why : RefusalKind) (line : ℕ) where
  pub static_whole : (known : List Mark × ℕ) (tree : Program) (r : Result (Vec ℕ Global) E) → symbols_of text ≡ Ok known → IsTheTree known.0 tree
      → IfOk r (λ v. v.items ≡ static_text text known.0 why line) → IfOk r (λ v. IsExplained text why line v.items)
  static_whole known tree (Ok v) e is h =
      subst (λ k. IsExplainedBy text why line k v.items) (sym e) (inr (record { tree = tree; tree_is = is; shown_is = h }))
  static_whole known tree (Err none) e is h = tt

  pub syntax_whole : (known : List Mark × ℕ) (r : Result (Vec ℕ Global) E) → symbols_of text ≡ Ok known
      → IfOk r (λ v. IsSyntaxText text known v.items) → IfOk r (λ v. IsExplained text why line v.items)
  syntax_whole known (Ok v) e h = subst (λ k. IsExplainedBy text why line k v.items) (sym e) (inl h)
  syntax_whole known (Err none) e h = tt

  pub lexical_whole : (fault : LexFault) (r : Result (Vec ℕ Global) E) → IfOk r (λ v. symbols_of text ≡ Err fault)
      → IfOk r (λ v. v.items ≡ lexical_text text fault) → IfOk r (λ v. IsExplained text why line v.items)
  lexical_whole fault (Ok v) e h = subst (λ k. IsExplainedBy text why line k v.items) (sym e) h
  lexical_whole fault (Err none) e h = tt

-- ---- a text of which the first bytes were fetched

pub fetched_explained : (text : List ℕ) (why : RefusalKind) (line : ℕ) (shown : List ℕ) → IsExplained (take most_fetched text) why line shown
    → IsExplained text why line shown
fetched_explained text why line shown h = by (is_too_long (take most_fetched text)) refl where
  by : (b : Bool) → is_too_long (take most_fetched text) ≡ b → IsExplained text why line shown
  by false e = subst (λ t. IsExplained t why line shown) ((first_bytes_decide text).1 e) h
  by true e =
      let first : symbols_of (take most_fetched text) ≡ Err lex.TooLong =
      ap (λ b. if b then Err lex.TooLong else symbols_from (take most_fetched text) 0 1) e in
      let advice : shown ≡ lexical_text text lex.TooLong = subst (λ k. IsExplainedBy (take most_fetched text) why line k shown) first h in
      subst (λ k. IsExplainedBy text why line k shown) (sym first ∙ (first_bytes_decide text).0) advice
