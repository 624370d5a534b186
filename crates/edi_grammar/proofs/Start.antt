-- A whole program, and then the end of the text.
use Rattle.std.proofs.Common.{◌≡◌, ℕ, zero, suc, List, [], ◌∷◌, true, Option, refl, sym, ap, ◌∙◌}
use Rattle.edi_lex.specs.declared.symbol.Mark.{Mark}
use Rattle.edi_grammar.specs.Grammar.{token, Item, plain, Derives}
use Rattle.edi_grammar.specs.Parser.{Why, Stops, has}
use Rattle.edi_grammar.specs.Verdict.{Verdict}
use Rattle.edi_grammar.specs.Kinds as kind
use Rattle.edi_grammar.specs.Kind.{kind_at}
use Rattle.edi_grammar.specs.Edison.{edison, start}
use Rattle.edi_grammar.proofs.Texts.{Good}
use Rattle.edi_grammar.proofs.Exact.{exact}
use Rattle.edi_grammar.proofs.EdisonIsFair.{fair}

pub good : Good edison start
good = (λ n s words items e d. at n s words items e d, (refl, tt)) where
  at : (n : ℕ) (s : Option Mark) (words : List (Option Mark)) (items : List (Item (Option Mark))) → plain items ≡ s ∷ words
      → Derives edison n (token kind.End_of_text ∷ []) items → has (kind_at s) (kind.End_of_text ∷ []) ≡ true
  at zero s words items e d = absurd d
  at (suc n) s words items e d =
      let heads : s ∷ words ≡ d.0 ∷ plain d.1 = sym e ∙ ap plain d.2 in
      let same : s ≡ d.0 = cc in
      rw (ap kind_at same ∙ d.3) refl

pub first_fault : (limit : ℕ) (words : List (Option Mark)) (y : Why) (r : List (Option Mark)) → Stops edison limit start words y r
    → Verdict edison y limit start words r
first_fault limit words y r stops = exact edison fair limit start words y r stops good
