-- Words of contracts. The endings that a search has found, with choices that bring them about.
use Rattle.std.specs.Prelude.{◌≡◌, ◌≤◌, ℕ, Bool, true, false, List, [], ◌∷◌, length, Contains, Option, Some, None, ⊤}
use Rattle.edi_calls.specs.Choice.{listed}
use Rattle.edi_calls.specs.Outcome as outcome
use Rattle.edi_calls.specs.Outcome.{Outcome}
use Rattle.edi_target.specs.Check.{CodeParts}
use Rattle.edi_trace.specs.Drawn.{Drawn}
use Rattle.edi_unit.specs.Tree.{ProgramUnit}
use Rattle.edi_meaning.specs.Select.{Select}
use Rattle.edi_kernel.specs.declared.ends.Ending.{Ending}
use Rattle.edi_kernel.specs.declared.ends.Ending.TheVariants as ending
use Rattle.edi_explored.specs.Moves.{moves_selected}
use Rattle.edi_explored.specs.machine.Kernels.{ending_of}
use Rattle.edi_waits.specs.Told.{all_of}
use Rattle.edi_waits.specs.Waits.{StandsSo, Waiting}
use Rattle.edi_explore.specs.declared.ends.Found.{Found}
pub use Rattle.edi_explore.specs.Choices.{AreChoices, most_choices, most_turns}
use Rattle.edi_explore.specs.Offline.{offline}

-- the execution that these choices select, of at most so many turns, ends so, after as many turns and moves as are told, and has shown what is told
pub record Selects (most : ℕ) (unit : ProgramUnit) (input : List ℕ) (found : Found) (end : outcome.Ending) : Type 0 where
  pub outcome : Outcome
  pub selects : Select unit (offline input) most (listed found.choices.items) outcome
  pub ends : outcome.ending ≡ end
  pub turns : outcome.turns ≡ found.turns
  pub shown : outcome.shown ≡ found.shown.items
  pub moves : moves_selected unit (offline input) most (listed found.choices.items) outcome selects ≡ found.moves

-- what is found is what the run with these choices, of at most so many turns, came to, unless an object has failed in it
pub record RunsWith (most : ℕ) (unit : ProgramUnit) (input choices : List ℕ) (found : Found) : Type 0 where
  pub choices_are : found.choices.items ≡ choices
  pub small : AreChoices choices
  pub came : (end : outcome.Ending) → ending_of found.ending ≡ Some end → Selects most unit input found end

-- an ending that is told: its bound has not cut the run, and no object has failed in it
abbrev pub IsTold : Ending → Type 0
IsTold ending.Turns = ⊥
IsTold ending.Fault = ⊥
IsTold e = ⊤

-- WHAT IS FOUND IS SO: its choices select an execution that ends so, after so many turns and moves, with this shown, and a record may have them
pub record IsRecorded (unit : ProgramUnit) (input : List ℕ) (found : Found) : Type 0 where
  pub end : outcome.Ending
  pub is : ending_of found.ending ≡ Some end
  pub uncut : end ≡ outcome.turns → ⊥
  pub selects : Selects most_turns unit input found end
  pub few : length found.choices.items ≤ most_choices
  pub small : AreChoices found.choices.items

-- all of them are
abbrev pub AreRecorded : ProgramUnit → (input : List ℕ) → List Found → Type 0
AreRecorded unit input found = (one : Found) → Contains found one → IsRecorded unit input one

-- ---- who waits where

abbrev pub first_of : (choices : List ℕ) → Drawn
first_of choices = record { source = listed choices; drawn = 0 }

-- the run of this code with these choices stands still, and these wait in the machine to which it has come then
abbrev pub StandsWith : CodeParts → (input choices : List ℕ) → List Waiting → Type 0
StandsWith code input choices waits = StandsSo code (offline input) most_turns (first_of choices) waits

abbrev pub is_standstill : Ending → Bool
is_standstill ending.Standstill = true
is_standstill e = false

-- after another ending nobody is told
abbrev pub WaitsBy : (stands : Bool) → CodeParts → (input choices : List ℕ) → List Waiting → Type 0
WaitsBy true code input choices waits = StandsWith code input choices waits
WaitsBy false code input choices waits = waits ≡ []

abbrev pub TellsWaits : CodeParts → (input : List ℕ) → Found → Type 0
TellsWaits code input found = WaitsBy (is_standstill found.ending) code input found.choices.items (all_of found.waits)

abbrev pub AllTellWaits : CodeParts → (input : List ℕ) → List Found → Type 0
AllTellWaits code input found = (one : Found) → Contains found one → TellsWaits code input one

-- ---- all of them

-- none of them is an instruction without a meaning
abbrev pub AreNeverBad : List Found → Type 0
AreNeverBad found = (one : Found) (at : ℕ) → Contains found one → one.ending ≡ ending.Bad at → ⊥

abbrev pub with_ending : Option outcome.Ending → List outcome.Ending → List outcome.Ending
with_ending None es = es
with_ending (Some e) es = e ∷ es

-- the endings that were found
abbrev pub endings_of : List Found → List outcome.Ending
endings_of [] = []
endings_of (one ∷ found) = with_ending (ending_of one.ending) (endings_of found)
