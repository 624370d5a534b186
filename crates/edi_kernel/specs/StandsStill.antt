-- Words of contracts. Where a run of any code comes to a standstill.
use Rattle.std.specs.Prelude.{◌≡◌, ℕ, true, List}
use Rattle.edi_calls.specs.Choice.{Choices}
use Rattle.edi_calls.specs.Names.{Name}
use Rattle.edi_calls.specs.Outcome as outcome
use Rattle.edi_calls.specs.Ready.{has}
use Rattle.edi_calls.specs.State.{State}
use Rattle.edi_target.specs.Reading.{AreWords}
use Rattle.edi_target.specs.Fetch.{fetch}
use Rattle.edi_target.specs.Mach.{at_when, Machine, Ends}
use Rattle.edi_target.specs.segments.Nested.{MayGoOn}

-- a process stands at its `when`, and each process that does not wait for children is marked
pub record StandsStill (m : Machine) : Type 0 where
  pub name : Name
  pub may : MayGoOn m name
  pub arrived : may.activity.standing ≡ at_when
  pub marked : (q : Name) → MayGoOn m q → has m.marks q ≡ true

-- a standstill comes by the marks, never because nobody is ready
abbrev pub StandstillIsMarked : Type 0
StandstillIsMarked =
    (words : List ℕ) (entry : ℕ) (calls : List ℕ) (system : State) (bound : ℕ) (choices : Choices) (m : Machine) (drawn : ℕ) → AreWords words
    → Ends (fetch words) entry calls system bound choices outcome.standstill m drawn → StandsStill m
