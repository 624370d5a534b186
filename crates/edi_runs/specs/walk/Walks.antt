-- Definition. THE WALK OF A TEXT: that through its program, on a system, from the state with no file open.
use Rattle.std.specs.Prelude.{◌≡◌, ℕ, List, Contains, ⊤}
use Rattle.edi_calls.specs.Asked.{IsFollowed}
use Rattle.edi_calls.specs.Choice.{Choices}
use Rattle.edi_calls.specs.Names.{Name}
use Rattle.edi_calls.specs.Outcome as outcome
use Rattle.edi_calls.specs.Outcome.{Ending}
use Rattle.edi_calls.specs.State.{State, Traced, fresh, moments_of}
use Rattle.edi_unit.specs.Tree.{ProgramUnit}
use Rattle.edi_walk.specs.Walk.{WalkEnds}
use Rattle.edi_texts.specs.Texts.{IsUnit}

-- it ends so, and the system is then in this state
pub record IsWalkOf (text : List ℕ) (system : State) (bound : ℕ) (choices : Choices) (ending : Ending) (last : State) : Type 0 where
  pub unit : ProgramUnit
  pub unit_is : IsUnit text unit
  pub end : Traced
  pub turns : ℕ
  pub drawn : ℕ
  pub order : List Name
  pub walk : WalkEnds unit (fresh system) bound choices 0 ending end turns drawn order
  pub last_is : end.now ≡ last

-- it comes through this state of the system: the first one, or one behind a system call
pub record IsMomentOfWalk (text : List ℕ) (system : State) (bound : ℕ) (choices : Choices) (moment : State) : Type 0 where
  pub unit : ProgramUnit
  pub unit_is : IsUnit text unit
  pub ending : Ending
  pub end : Traced
  pub turns : ℕ
  pub drawn : ℕ
  pub order : List Name
  pub walk : WalkEnds unit (fresh system) bound choices 0 ending end turns drawn order
  pub moment_is : Contains (moments_of (fresh system) end.past) moment

-- one of its system calls leads from the one state to the other
pub record IsCallOfWalk (text : List ℕ) (system : State) (bound : ℕ) (choices : Choices) (one next : State) : Type 0 where
  pub unit : ProgramUnit
  pub unit_is : IsUnit text unit
  pub ending : Ending
  pub end : Traced
  pub turns : ℕ
  pub drawn : ℕ
  pub order : List Name
  pub walk : WalkEnds unit (fresh system) bound choices 0 ending end turns drawn order
  pub followed : IsFollowed (fresh system) end.past one next

-- A walk ends so. It sees no standstill: where nothing can happen any more, it goes on until its turns are taken.
abbrev pub IsWalkEnding : Ending → Type 0
IsWalkEnding outcome.done = ⊤
IsWalkEnding (outcome.halted line) = ⊤
IsWalkEnding (outcome.failed cause line) = ⊤
IsWalkEnding outcome.turns = ⊤
IsWalkEnding outcome.standstill = ⊥
IsWalkEnding (outcome.bad address) = ⊥
