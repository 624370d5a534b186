-- Words of contracts. Where the parsing of a whole program ends.
use Rattle.std.specs.Prelude.{◌≡◌, List, [], ◌∷◌, ◌++◌, Option, Some, None}
use Rattle.edi_lex.specs.declared.symbol.Mark.{Mark}
use Rattle.edi_grammar.specs.derivation.Faults.{IsMisplaced, IsTooDeepAt}
use Rattle.edi_phrases.specs.declared.stop.Stop.{Stop}
use Rattle.edi_phrases.specs.declared.stop.Stop.TheVariants as stop

-- what stands in front of marks: the first of them, or the end of the text
abbrev pub in_front : List Mark → Option Mark
in_front [] = None
in_front (m ∷ marks) = Some m

-- what stands in front of the rest is misplaced
pub record EndsWrong (marks rest : List Mark) : Type 0 where
  pub before : List Mark
  pub cut : marks ≡ before ++ rest
  pub misplaced : IsMisplaced marks before (in_front rest)

-- the first of the rest is too deep
pub record EndsDeep (marks rest : List Mark) : Type 0 where
  pub before : List Mark
  pub m : Mark
  pub more : List Mark
  pub here : rest ≡ m ∷ more
  pub cut : marks ≡ before ++ rest
  pub deep : IsTooDeepAt marks before m

-- so, unless memory is wanting
abbrev pub EndsAt : List Mark → Stop → Type 0
EndsAt marks (stop.Fault rest) = EndsWrong marks rest.now
EndsAt marks (stop.TooDeep rest) = EndsDeep marks rest.now
EndsAt marks stop.NoMemory = Unit {0}
