-- Words of contracts. What comes of one symbol more, and of marks, in a predictive parser.
use Rattle.std.specs.Prelude.{◌≡◌, ℕ, ◌≤◌, Bool, true, false, List, [], ◌∷◌, ◌++◌, Option, Some, None}
use Rattle.edi_lex.specs.declared.symbol.Mark.{Mark}
use Rattle.edi_grammar.specs.Grammar.{Part}
use Rattle.edi_grammar.specs.Parser.{Why, complete, wrong, too_deep, Stops}
use Rattle.edi_grammar.specs.Kind.{kind_at}
use Rattle.edi_grammar.specs.Rules.{Sort, opens}
use Rattle.edi_grammar.specs.Edison.{edison, start}
use Rattle.edi_grammar.specs.derivation.Faults.{somes}
use Rattle.edi_explain.specs.expected.Awaited.{waits}
use Rattle.edi_explain.specs.expected.MayStand.{Begin, IsWhole}
use Rattle.edi_explain.specs.declared.expected.parser.Step.{Step}
use Rattle.edi_explain.specs.declared.expected.parser.Step.TheVariants as step

-- where the parser that waits for these stops before symbols of which the first is of this kind, so does the one that waits for those
pub record Leads (from to : List (Part Sort)) (kind : ℕ) : Type 0 where
  pub go : (s : Option Mark) → kind_at s ≡ kind → (words : List (Option Mark)) (y : Why) (r : List (Option Mark)) → Stops edison 64 to (s ∷ words) y r
      → Stops edison 64 from (s ∷ words) y r

-- it takes a symbol of this kind, and then waits for those
pub record Takes (from to : List (Part Sort)) (kind : ℕ) : Type 0 where
  pub some : 1 ≤ kind
  pub go : (s : Option Mark) → kind_at s ≡ kind → (words : List (Option Mark)) (y : Why) (r : List (Option Mark)) → Stops edison 64 to words y r
      → Stops edison 64 from (s ∷ words) y r

-- it stops at a symbol of this kind, for this reason
abbrev pub StopsAt : List (Part Sort) → ℕ → Why → Type 0
StopsAt from kind y = (s : Option Mark) → kind_at s ≡ kind → (words : List (Option Mark)) → Stops edison 64 from (s ∷ words) y (s ∷ words)

-- nothing is left to be read after a symbol of this kind, which is the end of the text
pub record Ends (from : List (Part Sort)) (kind : ℕ) : Type 0 where
  pub none : kind ≡ 0
  pub go : (s : Option Mark) → kind_at s ≡ kind → (words : List (Option Mark)) → Stops edison 64 from (s ∷ words) complete words

abbrev pub Advances : (from to : List (Part Sort)) → (kind : ℕ) → Step → Type 0
Advances from to kind step.Taken = Takes from to kind
Advances from to kind step.Wrong = StopsAt from kind wrong
Advances from to kind step.TooDeep = (opens kind ≡ true) × StopsAt from kind too_deep
Advances from to kind step.Whole = Ends from kind

-- whether the symbol may stand, of which this comes
abbrev pub may_be : Step → Bool
may_be step.Taken = true
may_be step.Wrong = false
may_be step.TooDeep = false
may_be step.Whole = true

-- of numbers the last one is taken off, if there is one
abbrev pub Front : (old new : List ℕ) → Option ℕ → Type 0
Front old new (Some number) = old ≡ new ++ number ∷ []
Front old new None = (old ≡ []) × (new ≡ [])

-- after these marks it waits for those
pub record Awaits (marks : List Mark) (numbers : List ℕ) : Type 0 where
  pub go : (words : List (Option Mark)) (y : Why) (r : List (Option Mark)) → Stops edison 64 (waits numbers) words y r
      → Stops edison 64 start (somes marks ++ words) y r

-- so, if they begin a program
abbrev pub Reads : List Mark → Option (List ℕ) → Type 0
Reads marks (Some numbers) = Awaits marks numbers
Reads marks None = (IsWhole marks → ⊥) × (Begin marks → ⊥)
