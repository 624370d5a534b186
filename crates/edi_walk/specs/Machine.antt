-- Words of contracts. The frames of the code, and what a step of an evaluation leaves of what there is to make.
use Rattle.std.specs.Prelude.{◌≡◌, ◌≤◌, ℕ, suc, true, false, nat_lt, List, map, Result, Ok, Err, ⊤}
use Rattle.edi_calls.specs.Outcome as outcome
use Rattle.edi_calls.specs.Outcome.{Ending}
use Rattle.edi_calls.specs.State.{Traced}
use Rattle.edi_unit.specs.Tree.{Acts}
use Rattle.edi_unit.specs.View.{unit_of, expression_of, place_of, act_of, clause_of, part_of, argument_of, link_of}
use Rattle.edi_unit.specs.View as tree
use Rattle.edi_meaning.specs.Store.{Spot, Cell, grown, room, shape, shrunk}
use Rattle.edi_unit.specs.Need.{block_at}
use Rattle.edi_calls.specs.declared.kinds.Cause.TheVariants as cause
use Rattle.edi_meaning.specs.Evaluation.{World, Evaluation, gives, ends, ◌>>=◌}
use Rattle.edi_meaning.specs.Whole.{instance_of, levels_of}
use Rattle.edi_walk.specs.declared.frames.Frame as code_frame
use Rattle.edi_walk.specs.declared.frames.Frame.TheVariants as frame
use Rattle.edi_walk.specs.declared.frames.Given as code_given
use Rattle.edi_walk.specs.declared.frames.Given.TheVariants as given
use Rattle.edi_walk.specs.declared.evaluation.Evaluation as code_evaluation
use Rattle.edi_walk.specs.declared.stop.Stop.{Stop}
use Rattle.edi_walk.specs.declared.stop.Stop.TheVariants as stop
use Rattle.edi_walk.specs.Data.{value_of, cell_of, designated_of}
use Rattle.edi_walk.specs.Memory.{store_of}
use Rattle.edi_walk.specs.Frames.{Given, nothing, a_value, a_place, some_cells, whether, Frame, evaluates, places, refines, performs, tries, gathers}
use Rattle.edi_walk.specs.Frames.{joins_members, collects, negates, signs, converts, links_on, operates, indexes, stores, tests, loads, assigns}
use Rattle.edi_walk.specs.Frames.{calls_function, calls_procedure, asks, loops, ends_function, ends_procedure, was_true, resume, after}

-- ---- what the code keeps

abbrev pub given_of : code_given.Given → Given
given_of given.Nothing = nothing
given_of (given.Value v) = a_value (value_of v)
given_of (given.Place d) = a_place (designated_of d)
given_of (given.Cells cells) = some_cells (map cell_of cells.items)
given_of (given.Whether b) = whether b

abbrev pub frame_of : code_frame.Frame → Frame
frame_of (frame.Evaluates e) = evaluates (expression_of e.now)
frame_of (frame.Places v) = places (place_of v.now)
frame_of (frame.Refines d ps) = refines (designated_of d) (tree.parts (map part_of ps.now))
frame_of (frame.Performs s) = performs (tree.acts (map act_of s.now))
frame_of (frame.Tries cs) = tries (tree.clauses (map clause_of cs.now))
frame_of (frame.Gathers vs es) = gathers (map value_of vs.items) (tree.expressions (map expression_of es.now))
frame_of (frame.Joins set es line) = joins_members set (tree.expressions (map expression_of es.now)) line
frame_of (frame.Collects cells es) = collects (map cell_of cells.items) (tree.arguments (map argument_of es.now))
frame_of frame.Negates = negates
frame_of (frame.Signs line) = signs line
frame_of (frame.Converts of line) = converts of line
frame_of (frame.LinksOn ls) = links_on (tree.links (map link_of ls.now))
frame_of (frame.Operates v o line ls) = operates (value_of v) o line (tree.links (map link_of ls.now))
frame_of (frame.Indexes d line ps) = indexes (designated_of d) line (tree.parts (map part_of ps.now))
frame_of (frame.Stores d) = stores (designated_of d)
frame_of (frame.Tests s cs) = tests (tree.acts (map act_of s.now)) (tree.clauses (map clause_of cs.now))
frame_of frame.Loads = loads
frame_of (frame.Assigns e) = assigns (expression_of e.now)
frame_of (frame.CallsFunction c line) = calls_function c line
frame_of (frame.CallsProcedure c line) = calls_procedure c line
frame_of (frame.Asks number line) = asks number line
frame_of (frame.Loops cs) = loops (tree.clauses (map clause_of cs.now))
frame_of frame.EndsFunction = ends_function
frame_of frame.EndsProcedure = ends_procedure
frame_of frame.WasTrue = was_true

-- ---- what there is to make

module _ (levels : ℕ) (e : code_evaluation.Evaluation) where
  abbrev pub deeper_of : Acts → World → Evaluation (Unit {0})
  deeper_of = levels_of (unit_of e.unit.now) e.name.items e.size levels

  -- what the frames that are left make
  abbrev pub rest_of : Given → World → Evaluation Given
  rest_of = after (unit_of e.unit.now) e.name.items e.size deeper_of (map frame_of e.frames.items) gives

  -- one more frame, and then those
  abbrev pub next_of : Frame → Given → World → Evaluation Given
  next_of f g w = resume (unit_of e.unit.now) e.name.items e.size deeper_of f g w >>= rest_of

abbrev pub world_of : code_evaluation.Evaluation → Traced → World
world_of e system = record { store = store_of e.memory; system = system; turns = e.turns }

-- what there is to make from here, where the system is so
abbrev pub makes_of : (levels : ℕ) → code_evaluation.Evaluation → Traced → Evaluation Given
makes_of levels e system = rest_of levels e (given_of e.given) (world_of e system)

-- ---- a step that makes no call of the system

-- how the program ends, where a step ends it
abbrev pub Stops : Stop → Evaluation Given → Traced → (turns : ℕ) → Type 0
Stops stop.Done m system left = m ≡ ends outcome.done system left
Stops (stop.Halted line) m system left = m ≡ ends (outcome.halted line) system left
Stops (stop.Failed c line) m system left = m ≡ ends (outcome.failed c line) system left
Stops stop.Turns m system left = m ≡ ends outcome.turns system left
Stops (stop.Fault number) m system left = ⊥
Stops stop.NoMemory m system left = ⊤

-- what was to make is what now is to make; or it ends the program so
abbrev pub Follows : (levels : ℕ) → Result (Unit {0}) Stop → code_evaluation.Evaluation → Traced → Evaluation Given → Type 0
Follows levels (Ok _) new system m = m ≡ makes_of levels new system
Follows levels (Err s) new system m = Stops s m system new.turns

-- the process, its segment and the unit stay
pub record IsSameProcess (old new : code_evaluation.Evaluation) : Type 0 where
  pub unit : new.unit ≡ old.unit
  pub name : new.name ≡ old.name
  pub size : new.size ≡ old.size
  pub turns : new.turns ≤ old.turns

-- this frame, given this, was to be resumed before those that are left; and so it has been
abbrev pub Resumes : Frame → Given → Result (Unit {0}) Stop → (old new : code_evaluation.Evaluation) → Type 0
Resumes f g result old new =
    (levels : ℕ) (system : Traced) → old.turns ≤ levels → Follows levels result new system (next_of levels old f g (world_of old system))

-- where these frames were put on the list, it is to make what they and those below them make
abbrev pub Puts : Frame → Result (Unit {0}) Stop → (old new : code_evaluation.Evaluation) → Type 0
Puts f result old new =
    (levels : ℕ) (system : Traced) (m : Evaluation Given) → m ≡ next_of levels old f (given_of old.given) (world_of old system) →
    Follows levels result new system m

abbrev pub PutsTwo : (lower upper : Frame) → Result (Unit {0}) Stop → (old new : code_evaluation.Evaluation) → Type 0
PutsTwo lower upper result old new =
    (levels : ℕ) (system : Traced) (m : Evaluation Given) →
    m ≡ (resume (unit_of old.unit.now) old.name.items old.size (deeper_of levels old) upper (given_of old.given) (world_of old system)
    >>= next_of levels old lower) →
    Follows levels result new system m

abbrev pub PutsThree : (lower middle upper : Frame) → Result (Unit {0}) Stop → (old new : code_evaluation.Evaluation) → Type 0
PutsThree lower middle upper result old new =
    (levels : ℕ) (system : Traced) (m : Evaluation Given) →
    m ≡ (resume (unit_of old.unit.now) old.name.items old.size (deeper_of levels old) upper (given_of old.given) (world_of old system)
    >>= (λ g w. resume (unit_of old.unit.now) old.name.items old.size (deeper_of levels old) middle g w >>= next_of levels old lower)) →
    Follows levels result new system m

-- ---- entries and ends of blocks

-- a block has been entered: it has found room and taken a turn
pub record Entered (number : ℕ) (parent : Spot) (cells : List Cell) (old new : code_evaluation.Evaluation) : Type 0 where
  pub fits : nat_lt (room old.size (shape (store_of old.memory) old.name.items)) (block_at (unit_of old.unit.now).blocks number).need ≡ false
  pub turns : old.turns ≡ suc new.turns
  pub store : store_of new.memory ≡ grown old.name.items (instance_of (unit_of old.unit.now) old.name.items old.size number parent cells) (store_of old.memory)
  pub others : new ≡ record old { memory = new.memory; turns = new.turns }

abbrev pub EntersBlock : (number : ℕ) → Spot → List Cell → (line : ℕ) → Result (Unit {0}) Stop → (old new : code_evaluation.Evaluation) → Type 0
EntersBlock number parent cells line (Ok _) old new = Entered number parent cells old new
EntersBlock number parent cells line (Err (stop.Failed c l)) old new =
    (nat_lt (room old.size (shape (store_of old.memory) old.name.items)) (block_at (unit_of old.unit.now).blocks number).need ≡ true)
    × (c ≡ cause.VariableLimit) × (l ≡ line) × (new.turns ≡ old.turns)
EntersBlock number parent cells line (Err stop.Turns) old new =
    (nat_lt (room old.size (shape (store_of old.memory) old.name.items)) (block_at (unit_of old.unit.now).blocks number).need ≡ false)
    × (old.turns ≡ 0) × (new.turns ≡ 0)
EntersBlock number parent cells line (Err stop.NoMemory) old new = ⊤
EntersBlock number parent cells line (Err _) old new = ⊥

-- the newest instance has been left, after a turn
pub record Left (old new : code_evaluation.Evaluation) : Type 0 where
  pub turns : old.turns ≡ suc new.turns
  pub store : store_of new.memory ≡ shrunk old.name.items (store_of old.memory)
  pub others : new ≡ record old { memory = new.memory; turns = new.turns }

abbrev pub LeavesBlock : Result (Unit {0}) Stop → (old new : code_evaluation.Evaluation) → Type 0
LeavesBlock (Ok _) old new = Left old new
LeavesBlock (Err stop.Turns) old new = (old.turns ≡ 0) × (new.turns ≡ 0)
LeavesBlock (Err stop.NoMemory) old new = ⊤
LeavesBlock (Err _) old new = ⊥
