-- Definition. THE EXECUTION OF A TEXT, by what its program means. This file is the one place where it is said which execution is
-- the text's own, and which code may be made of it; every other file speaks of the execution of a text by these words.
use Rattle.std.specs.Prelude.{◌≤◌, ◌+◌, ◌*◌, ◌↔◌, ℕ, List, length}
use Rattle.edi_calls.specs.Asked.{IsFollowed}
use Rattle.edi_calls.specs.Choice.{Choices}
use Rattle.edi_calls.specs.Names.{Name}
use Rattle.edi_calls.specs.Outcome.{Ending, Outcome}
use Rattle.edi_calls.specs.State.{State, Traced, fresh}
use Rattle.edi_meaning.specs.Select as source
use Rattle.edi_meaning.specs.Select.{Ends, Select}
use Rattle.edi_target.specs.Check.{CodeParts, IsSound}
use Rattle.edi_target.specs.Fetch.{fetch}
use Rattle.edi_target.specs.Mach.{Mach}
use Rattle.edi_target.specs.Moments.{ComesThrough, history_from_start}
use Rattle.edi_unit.specs.Tree.{ProgramUnit}
use Rattle.edi_texts.specs.Length.{symbol_count}
use Rattle.edi_texts.specs.Texts.{IsUnit}

-- RUN: the outcome of the text on a system, from the state with no file open, is that of the execution which the choices select
-- among those that its program permits
pub record IsRunOf (text : List ℕ) (system : State) (bound : ℕ) (choices : Choices) (outcome : Outcome) : Type 0 where
  pub unit : ProgramUnit
  pub unit_is : IsUnit text unit
  pub run : Select unit (fresh system) bound choices outcome

-- that execution comes through this state of the system
pub record IsMomentOf (text : List ℕ) (system : State) (bound : ℕ) (choices : Choices) (moment : State) : Type 0 where
  pub unit : ProgramUnit
  pub unit_is : IsUnit text unit
  pub moment_is : source.ComesThrough unit (fresh system) bound choices moment

-- in the execution of a unit, the second state of the system is the one that the next call leaves after the first
abbrev pub HasCallOf : ProgramUnit → State → (bound : ℕ) → Choices → (before next : State) → Type 0
HasCallOf unit system bound choices before next =
    (ending : Ending) × (end : Traced) × (turns : ℕ) × (drawn : ℕ) × (order : List Name)
    × Ends unit system bound choices ending end turns drawn order × IsFollowed system end.past before next

-- so in that execution of the text
pub record IsCallOf (text : List ℕ) (system : State) (bound : ℕ) (choices : Choices) (before next : State) : Type 0 where
  pub unit : ProgramUnit
  pub unit_is : IsUnit text unit
  pub call_is : HasCallOf unit (fresh system) bound choices before next

-- ---- code

-- the outcome of code on a system, from the state with no file open
abbrev pub IsRunOfCode : CodeParts → State → (bound : ℕ) → Choices → Outcome → Type 0
IsRunOfCode code system bound choices outcome = Mach (fetch code.words) code.entry code.calls (fresh system) bound choices outcome

-- the execution of code on a system comes through this state of the system
abbrev pub IsMomentOfCode : CodeParts → State → (bound : ℕ) → Choices → (moment : State) → Type 0
IsMomentOfCode code system bound choices moment = ComesThrough (fetch code.words) code.entry code.calls (fresh system) bound choices 0 moment

-- in the execution of code on a system, the second state of the system is the one that the next call leaves after the first
abbrev pub IsCallOfCode : CodeParts → State → (bound : ℕ) → Choices → (before next : State) → Type 0
IsCallOfCode code system bound choices before next =
    (n : ℕ) × IsFollowed (fresh system) (history_from_start (fetch code.words) code.entry code.calls (fresh system) bound choices 0 n) before next

-- The code is one that may be made of the text. Which such code it is, is free: it passes the checks of code, has at most 8 words
-- for each symbol of the text and 64, and does what the text does, on every system, with every bound and choices.
pub record IsCodeFor (text : List ℕ) (code : CodeParts) : Type 0 where
  pub sound : IsSound code
  pub short : length code.words ≤ 8 * symbol_count text + 64
  pub same : (system : State) (bound : ℕ) (choices : Choices) (outcome : Outcome) →
      IsRunOfCode code system bound choices outcome ↔ IsRunOf text system bound choices outcome
  pub through : (system : State) (bound : ℕ) (choices : Choices) (moment : State) →
      IsMomentOfCode code system bound choices moment ↔ IsMomentOf text system bound choices moment
  pub calls : (system : State) (bound : ℕ) (choices : Choices) (before next : State) →
      IsCallOfCode code system bound choices before next ↔ IsCallOf text system bound choices before next
