-- Words of contracts. A whole evaluation of the code, with its calls of the system.
use Rattle.std.specs.Prelude.{◌≡◌, ◌≤◌, ℕ, List, Result, Ok, Err}
use Rattle.edi_calls.specs.Calls.{answered, call}
use Rattle.edi_calls.specs.Ends.{IsTorn}
use Rattle.edi_calls.specs.Names.{Name}
use Rattle.edi_calls.specs.Outcome as outcome
use Rattle.edi_calls.specs.Outcome.{Ending}
use Rattle.edi_calls.specs.State.{State, Traced}
use Rattle.edi_unit.specs.Tree.{ProgramUnit}
use Rattle.edi_unit.specs.View.{unit_of}
use Rattle.edi_meaning.specs.Laws.{Grows}
use Rattle.edi_meaning.specs.Store.{Cell}
use Rattle.edi_meaning.specs.Evaluation.{World, Evaluation, gives, ends, ◌>>=◌}
use Rattle.edi_meaning.specs.Whole.{system_call, words_of_cells}
use Rattle.edi_walk.specs.declared.evaluation.Evaluation as code_evaluation
use Rattle.edi_walk.specs.declared.stop.Stop.{Stop}
use Rattle.edi_walk.specs.declared.stop.Stop.TheVariants as stop
use Rattle.edi_walk.specs.Frames.{Given, nothing, Frame, asks, makes_within}
use Rattle.edi_walk.specs.Machine.{given_of, makes_of, next_of, world_of}

-- it has come to its end: this is given, where the system is so
pub record ComesTo (from : Traced) (m : Evaluation Given) (new : code_evaluation.Evaluation) (now : State) : Type 0 where
  pub system : Traced
  pub system_is : system.now ≡ now
  pub grew : Grows from system
  pub is : m ≡ gives (given_of new.given) (world_of new system)

-- this is still to make
pub record GoesOn (levels : ℕ) (from : Traced) (m : Evaluation Given) (new : code_evaluation.Evaluation) (now : State) : Type 0 where
  pub system : Traced
  pub system_is : system.now ≡ now
  pub grew : Grows from system
  pub is : m ≡ makes_of levels new system

-- it has ended the program
pub record EndsWith (ending : Ending) (m : Evaluation Given) (new : code_evaluation.Evaluation) (now : State) : Type 0 where
  pub system : Traced
  pub system_is : system.now ≡ now
  pub is : m ≡ ends ending system new.turns

-- an object outside failed in a call of this number that was to be answered, before these frames
pub record IsFailed (number : ℕ) (unit : ProgramUnit) (p : Name) (size levels : ℕ) (from : Traced) (m : Evaluation Given) (now : State) : Type 0 where
  pub world : World
  pub line : ℕ
  pub cells : List Cell
  pub frames : List Frame
  pub grew : Grows from world.system
  pub enough : world.turns ≤ levels
  pub is : m ≡ (system_call number cells line world >>= λ _ w. makes_within unit p size levels frames nothing w)
  pub words : List ℕ
  pub next : State
  pub answers : call number (words_of_cells cells) world.system.now ≡ answered words next
  pub torn : IsTorn world.system.now next now

-- it was given up: from a world with this system on it would have made what it was to make
pub record IsGivenUp (unit : ProgramUnit) (p : Name) (size levels : ℕ) (from : Traced) (m : Evaluation Given) (now : State) : Type 0 where
  pub frames : List Frame
  pub given : Given
  pub world : World
  pub grew : Grows from world.system
  pub enough : world.turns ≤ levels
  pub is : m ≡ makes_within unit p size levels frames given world
  pub system_is : world.system.now ≡ now

-- it goes no further
abbrev pub StopsTo : (levels : ℕ) → (from : Traced) → Stop → (new : code_evaluation.Evaluation) → (now : State) → Evaluation Given → Type 0
StopsTo levels from stop.Done new now m = EndsWith outcome.done m new now
StopsTo levels from (stop.Halted line) new now m = EndsWith (outcome.halted line) m new now
StopsTo levels from (stop.Failed c line) new now m = EndsWith (outcome.failed c line) m new now
StopsTo levels from stop.Turns new now m = EndsWith outcome.turns m new now
StopsTo levels from (stop.Fault number) new now m = IsFailed number (unit_of new.unit.now) new.name.items new.size levels from m now
StopsTo levels from stop.NoMemory new now m = IsGivenUp (unit_of new.unit.now) new.name.items new.size levels from m now

-- what was to make is what now is to make, where the system is so; or it goes no further
abbrev pub GoesTo : (levels : ℕ) → (from : Traced) → Result (Unit {0}) Stop → (new : code_evaluation.Evaluation) → (now : State) → Evaluation Given → Type 0
GoesTo levels from (Ok _) new now m = GoesOn levels from m new now
GoesTo levels from (Err s) new now m = StopsTo levels from s new now m

abbrev pub RunsTo : (levels : ℕ) → (from : Traced) → Result (Unit {0}) Stop → (new : code_evaluation.Evaluation) → (now : State) → Evaluation Given → Type 0
RunsTo levels from (Ok _) new now m = ComesTo from m new now
RunsTo levels from (Err s) new now m = StopsTo levels from s new now m

-- a call of the system, with these cells: wherever the system's past began
abbrev pub Asks : (number line : ℕ) → Given → Result (Unit {0}) Stop → (old new : code_evaluation.Evaluation) → (before now : State) → Type 0
Asks number line g result old new before now =
    (levels : ℕ) (system : Traced) → system.now ≡ before → old.turns ≤ levels →
    GoesTo levels system result new now (next_of levels old (asks number line) g (world_of old system))

-- a frame of those that are left
abbrev pub Advances : Result (Unit {0}) Stop → (old new : code_evaluation.Evaluation) → (before now : State) → Type 0
Advances result old new before now =
    (levels : ℕ) (system : Traced) → system.now ≡ before → old.turns ≤ levels → GoesTo levels system result new now (makes_of levels old system)

-- a frame before those that are left
abbrev pub Handles : Frame → Result (Unit {0}) Stop → (old new : code_evaluation.Evaluation) → (before now : State) → Type 0
Handles f result old new before now =
    (levels : ℕ) (system : Traced) → system.now ≡ before → old.turns ≤ levels →
    GoesTo levels system result new now (next_of levels old f (given_of old.given) (world_of old system))

-- what the frames that are left were to make is what has come of it
abbrev pub Runs : Result (Unit {0}) Stop → (old new : code_evaluation.Evaluation) → (before now : State) → Type 0
Runs result old new before now =
    (levels : ℕ) (system : Traced) → system.now ≡ before → old.turns ≤ levels → RunsTo levels system result new now (makes_of levels old system)
