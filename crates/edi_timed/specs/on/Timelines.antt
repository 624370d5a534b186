-- Definition. THE STINTS of a text and of a code: those of the run that the choices select. And the timeline of such a run.
use Rattle.std.specs.Prelude.{◌≡◌, ℕ, List}
use Rattle.edi_calls.specs.Choice.{Choices}
use Rattle.edi_calls.specs.Names.{Name}
use Rattle.edi_calls.specs.Outcome.{Ending}
use Rattle.edi_calls.specs.State.{State, Traced, fresh}
use Rattle.edi_unit.specs.Tree.{ProgramUnit}
use Rattle.edi_meaning.specs.Select as selection
use Rattle.edi_target.specs.Check.{CodeParts}
use Rattle.edi_target.specs.Fetch.{fetch}
use Rattle.edi_target.specs.Mach.{Machine, finished, run_from_start}
use Rattle.edi_scheme.specs.Laws.{parts_of}
use Rattle.edi_follows.specs.Theorem.{CanBeCoded}
use Rattle.edi_texts.specs.Texts.{IsUnit}
use Rattle.edi_timeline.specs.Stints.{Stint, stints_of}
use Rattle.edi_timeline.specs.Timelines.{Told, told_of}
use Rattle.edi_timed.specs.Ran.{stints_of_code}

-- THE STINTS OF A TEXT on a system, from the state with no file open: those of the execution that the choices select.
pub record AreStintsOf (text : List ℕ) (system : State) (bound : ℕ) (choices : Choices) (stints : List Stint) : Type 0 where
  pub unit : ProgramUnit
  pub unit_is : IsUnit text unit
  pub ending : Ending
  pub end : Traced
  pub turns : ℕ
  pub drawn : ℕ
  pub order : List Name
  pub selected : selection.Ends unit (fresh system) bound choices ending end turns drawn order
  pub are : stints ≡ stints_of unit (fresh system) bound order

-- THE STINTS OF A CODE on a system, from the state with no file open: those of its run, which has ended after so many instructions.
pub record AreStintsOfCode (parts : CodeParts) (system : State) (bound : ℕ) (choices : Choices) (stints : List Stint) : Type 0 where
  pub steps : ℕ
  pub ending : Ending
  pub machine : Machine
  pub drawn : ℕ
  pub ends : run_from_start (fetch parts.words) parts.entry parts.calls (fresh system) bound choices steps ≡ finished ending machine drawn
  pub are : stints ≡ stints_of_code parts (fresh system) bound choices 0 steps

-- what is timed: a text, or a code of a code file
pub data Timable : Type 0 where
  text : List ℕ → Timable
  code : CodeParts → Timable

-- it is run by this code: that of the unit of the text, or the code itself
abbrev pub IsOf : Timable → CodeParts → Type 0
IsOf (text bytes) parts = (unit : ProgramUnit) × IsUnit bytes unit × CanBeCoded unit × (parts ≡ parts_of unit)
IsOf (code own) parts = parts ≡ own

abbrev pub AreStints : Timable → State → (bound : ℕ) → Choices → List Stint → Type 0
AreStints (text bytes) system bound choices stints = AreStintsOf bytes system bound choices stints
AreStints (code own) system bound choices stints = AreStintsOfCode own system bound choices stints

-- THE TIMELINE: what is told of all these stints
abbrev pub IsTimelineOf : Timable → State → (bound : ℕ) → Choices → Told → Type 0
IsTimelineOf program system bound choices told =
    (stints : List Stint) × AreStints program system bound choices stints × (told ≡ told_of stints)
