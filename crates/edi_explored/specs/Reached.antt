-- Definition. What choices bring about: the endings that some choices reach, and when a list has all endings that any choices reach. Said of
-- the executions that choices select, in which the next process is taken where one arrives, fails an attempt, forks or ends.
use Rattle.std.specs.Prelude.{◌≡◌, ◌⊎◌, ℕ, ◌<◌, List, length, Contains}
use Rattle.edi_calls.specs.State.{State, Traced}
use Rattle.edi_calls.specs.Choice.{Choices, listed}
use Rattle.edi_calls.specs.Names.{Name}
use Rattle.edi_calls.specs.Outcome as outcome
use Rattle.edi_calls.specs.Outcome.{Ending}
use Rattle.edi_unit.specs.Tree.{ProgramUnit}
use Rattle.edi_meaning.specs.Select.{Ends}
use Rattle.edi_explored.specs.Moves.{moves_of}

-- THESE CHOICES REACH THIS ENDING: where there are turns enough, the execution that they select ends so. Behind the end of the list each
-- choice is 0. A bound that cuts an execution is no ending that it reaches.
pub record IsReached (unit : ProgramUnit) (system : State) (choices : List ℕ) (ending : Ending) : Type 0 where
  pub bound : ℕ
  pub end : Traced
  pub turns : ℕ
  pub drawn : ℕ
  pub order : List Name
  pub ends : Ends unit system bound (listed choices) ending end turns drawn order
  pub uncut : ending ≡ outcome.turns → ⊥

-- and this is all that is then on the terminal
pub record IsShown (unit : ProgramUnit) (system : State) (choices : List ℕ) (ending : Ending) (shown : List ℕ) : Type 0 where
  pub bound : ℕ
  pub end : Traced
  pub turns : ℕ
  pub drawn : ℕ
  pub order : List Name
  pub ends : Ends unit system bound (listed choices) ending end turns drawn order
  pub uncut : ending ≡ outcome.turns → ⊥
  pub text : end.now.shown ≡ shown

-- its bound has cut the execution, or its ending is one of these
abbrev pub IsCutOr : List Ending → Ending → Type 0
IsCutOr endings ending = (ending ≡ outcome.turns) ⊎ Contains endings ending

-- THESE ARE ALL ENDINGS: whatever the choices are, listed or of a seed, and whatever the bound, the execution ends in one of these ways, or
-- its bound cuts it. An execution that goes on for ever is cut by each bound: that there is none is not said.
abbrev pub AreAll : ProgramUnit → State → List Ending → Type 0
AreAll unit system endings =
    (bound : ℕ) (choices : Choices) (ending : Ending) (end : Traced) (turns drawn : ℕ) (order : List Name) →
    Ends unit system bound choices ending end turns drawn order → IsCutOr endings ending

-- THESE ARE ALL ENDINGS BELOW so many moves: those of all executions that have fewer moves
abbrev pub AreAllBelow : ℕ → ProgramUnit → State → List Ending → Type 0
AreAllBelow most unit system endings =
    (bound : ℕ) (choices : Choices) (ending : Ending) (end : Traced) (turns drawn : ℕ) (order : List Name) →
    Ends unit system bound choices ending end turns drawn order → moves_of unit system bound choices (length order) < most →
    IsCutOr endings ending

-- ---- where other output is another ending

-- its bound has cut the execution, or it is one of these endings with what was shown by then
abbrev pub IsCutOrShown : List (Ending × List ℕ) → Ending → List ℕ → Type 0
IsCutOrShown endings ending shown = (ending ≡ outcome.turns) ⊎ Contains endings (ending, shown)

-- these are all endings, each with all that was shown
abbrev pub AreAllShown : ProgramUnit → State → List (Ending × List ℕ) → Type 0
AreAllShown unit system endings =
    (bound : ℕ) (choices : Choices) (ending : Ending) (end : Traced) (turns drawn : ℕ) (order : List Name) →
    Ends unit system bound choices ending end turns drawn order → IsCutOrShown endings ending end.now.shown

-- and all of the executions that have fewer moves
abbrev pub AreAllShownBelow : ℕ → ProgramUnit → State → List (Ending × List ℕ) → Type 0
AreAllShownBelow most unit system endings =
    (bound : ℕ) (choices : Choices) (ending : Ending) (end : Traced) (turns drawn : ℕ) (order : List Name) →
    Ends unit system bound choices ending end turns drawn order → moves_of unit system bound choices (length order) < most →
    IsCutOrShown endings ending end.now.shown
