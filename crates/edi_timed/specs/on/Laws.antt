-- Words of contracts. LAWS of timelines: told objects decide the timeline of a text and of a code, and its last stint tells how the run ended.
use Rattle.std.specs.Prelude.{◌≡◌, ◌≤◌, ℕ, ◌-◌, List, [], ◌∷◌, ◌++◌}
use Rattle.edi_calls.specs.Choice.{Choices}
use Rattle.edi_calls.specs.Names.{Name}
use Rattle.edi_calls.specs.Outcome.{Ending}
use Rattle.edi_calls.specs.State.{State, Traced}
use Rattle.edi_unit.specs.Tree.{ProgramUnit}
use Rattle.edi_meaning.specs.Select as selection
use Rattle.edi_target.specs.Check.{CodeParts}
use Rattle.edi_target.specs.Fetch.{fetch}
use Rattle.edi_target.specs.Mach.{Machine, finished, run_from_start}
use Rattle.edi_follows.specs.Theorem.{CanBeCoded}
use Rattle.edi_timeline.specs.Stints.{Stint, over, stints_of}
use Rattle.edi_timeline.specs.Timelines.{Told}
use Rattle.edi_timed.specs.Ran.{stints_of_code}
use Rattle.edi_timed.specs.on.Timelines.{IsTimelineOf, Timable}

-- A text, or a code, has one timeline on a system, with a bound and choices.
abbrev pub TimelinesAreOne : Type 0
TimelinesAreOne =
    (program : Timable) (system : State) (bound : ℕ) (choices : Choices) (told other : Told) →
    IsTimelineOf program system bound choices told → IsTimelineOf program system bound choices other → told ≡ other

-- A run of a code that has ended has the same stints, however many instructions it is allowed more.
abbrev pub StintsStay : Type 0
StintsStay =
    (code : CodeParts) (system : State) (bound : ℕ) (choices : Choices) (n more : ℕ) (ending : Ending) (m : Machine) (drawn : ℕ) →
    run_from_start (fetch code.words) code.entry code.calls system bound choices n ≡ finished ending m drawn → n ≤ more →
    stints_of_code code system bound choices 0 more ≡ stints_of_code code system bound choices 0 n

-- the last of these stints has ended with the run, so, at this turn
pub record EndWith (ending : Ending) (last : ℕ) (stints : List Stint) : Type 0 where
  pub first : List Stint
  pub one : Stint
  pub are : stints ≡ first ++ one ∷ []
  pub end : one.end ≡ over ending
  pub last_is : one.last ≡ last

-- The last stint of a run of a code that has ended tells how, and after how many turns.
abbrev pub StintsOfCodeEnd : Type 0
StintsOfCodeEnd =
    (code : CodeParts) (system : State) (bound : ℕ) (choices : Choices) (n : ℕ) (ending : Ending) (m : Machine) (drawn : ℕ) →
    run_from_start (fetch code.words) code.entry code.calls system bound choices n ≡ finished ending m drawn →
    EndWith ending (bound - m.turns) (stints_of_code code system bound choices 0 n)

-- So does the last stint of an execution.
abbrev pub StintsEnd : Type 0
StintsEnd =
    (unit : ProgramUnit) → CanBeCoded unit → (system : State) (bound : ℕ) (choices : Choices) (ending : Ending) (end : Traced) (turns drawn : ℕ)
    (order : List Name) → selection.Ends unit system bound choices ending end turns drawn order →
    EndWith ending (bound - turns) (stints_of unit system bound order)
