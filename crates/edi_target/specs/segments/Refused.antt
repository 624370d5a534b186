-- Words of contracts. Where a run ends by an instruction that has no meaning in the state that it met.
use Rattle.std.specs.Prelude.{◌≡◌, ◌⊎◌, ℕ, List, [], Some}
use Rattle.edi_calls.specs.Choice.{Choices}
use Rattle.edi_calls.specs.Names.{Name, find}
use Rattle.edi_calls.specs.Outcome as outcome
use Rattle.edi_calls.specs.State.{State}
use Rattle.edi_target.specs.Reading.{AreWords}
use Rattle.edi_target.specs.Fetch.{fetch}
use Rattle.edi_target.specs.Mach.{Machine, Ends}
use Rattle.edi_target.specs.segments.Nested.{MayGoOn}

-- a process that may go on has its program counter at this address
pub record StandsAt (m : Machine) (address : ℕ) : Type 0 where
  pub name : Name
  pub may : MayGoOn m name
  pub here : may.activity.pc ≡ address

-- a run of a code is refused at an address only where a process that lives, and does not wait, stands there; or at its entry, before
-- there is any process
abbrev pub RefusedWhereOneStands : Type 0
RefusedWhereOneStands =
    (words : List ℕ) (entry : ℕ) (calls : List ℕ) (system : State) (bound : ℕ) (choices : Choices) (address : ℕ) (m : Machine) (drawn : ℕ)
    → AreWords words → Ends (fetch words) entry calls system bound choices (outcome.bad address) m drawn
    → StandsAt m address ⊎ ((m.activities ≡ []) × (address ≡ entry))
