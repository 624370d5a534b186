-- Words of contracts. What each parsing function keeps. It waits for a part of the grammar where n levels are open, before the marks p.
use Rattle.std.specs.Prelude.{◌≡◌, ℕ, List, [], ◌∷◌, ◌++◌, Option}
use Rattle.edi_lex.specs.declared.symbol.Mark.{Mark}
use Rattle.edi_tree.specs.Stands.{StandAsMarks}
use Rattle.edi_tree.specs.Spells.{to_end}
use Rattle.edi_tree.specs.Levels.{Element, marks_among}
use Rattle.edi_grammar.specs.Grammar.{Part, part, level}
use Rattle.edi_grammar.specs.Parser.{Why, Stops}
use Rattle.edi_grammar.specs.Rules.{Sort}
use Rattle.edi_grammar.specs.Edison.{edison}

-- Waiting for the part before p, the predictive parser stops where it stops waiting for x before q; and what stands
-- between p and q are the elements that f puts in front.
pub record Goes (k : Sort) (n : ℕ) (f : List Element → List Element) (x : List (Part Sort)) (p q : List Mark) : Type 0 where
  pub at : (y : List (Part Sort)) (w : Why) (r : List (Option Mark)) → level edison y 0 ≡ n → Stops edison 64 (x ++ y) (to_end q) w r
      → Stops edison 64 (part k ∷ y) (to_end p) w r
  pub reads : (es : List Element) → StandAsMarks (marks_among es) q → StandAsMarks (marks_among (f es)) p

-- the part stands between p and q, and is what f puts in front
abbrev pub Passes : Sort → ℕ → (List Element → List Element) → List Mark → List Mark → Type 0
Passes k n f p q = Goes k n f [] p q
