-- Words of contracts. More turns: with more of them left, permitted steps lead to the same.
use Rattle.std.specs.Prelude.{◌≡◌, ℕ, ◌+◌, List, ⊤}
use Rattle.edi_calls.specs.Names.{Name}
use Rattle.edi_calls.specs.Outcome as outcome
use Rattle.edi_unit.specs.Tree.{ProgramUnit}
use Rattle.edi_meaning.specs.Evaluation.{World}
use Rattle.edi_meaning.specs.Step.{Processes, Stepped, went, ended, step}
use Rattle.edi_meaning.specs.Permitted.{Led, at, over, nowhere, permitted}

-- with so many turns more
abbrev pub richer : (more : ℕ) → World → World
richer more w = record w { turns = w.turns + more }

abbrev pub with_more : (more : ℕ) → Processes → Processes
with_more more s = record s { world = richer more s.world }

-- the same step with more turns; where it ended the program for want of turns nothing is said
abbrev pub StepsSo : (more : ℕ) → Stepped → Stepped → Type 0
StepsSo more (went a n quiet) x = x ≡ went (with_more more a) n quiet
StepsSo more (ended e system turns) x = (e ≡ outcome.turns → ⊥) → x ≡ ended e system (turns + more)

abbrev pub LeadsSo : (more : ℕ) → Led → Led → Type 0
LeadsSo more (at a) led = led ≡ at (with_more more a)
LeadsSo more (over e system turns) led = (e ≡ outcome.turns → ⊥) → led ≡ over e system (turns + more)
LeadsSo more nowhere led = ⊤

-- MORE TURNS CHANGE NOTHING ELSE, in no state and no order
pub record MoreTurnsDoTheSame (unit : ProgramUnit) (more : ℕ) (s : Processes) : Type 0 where
  pub one : (p : Name) → StepsSo more (step unit s p) (step unit (with_more more s) p)
  pub each : (names : List Name) → LeadsSo more (permitted unit names s) (permitted unit names (with_more more s))
