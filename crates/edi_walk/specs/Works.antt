-- Words of contracts. A step of one process, in parts: what each makes of the work that there is.
use Rattle.std.specs.Borrow.{Bor}
use Rattle.std.specs.Prelude.{◌≡◌, ℕ, suc, Bool, true, false, List, [], ◌∷◌, ◌++◌, map, Option, Some, None, Result, Ok, Err, ⊤}
use Rattle.edi_calls.specs.Names.{with_at}
use Rattle.edi_calls.specs.State.{State, Traced}
use Rattle.edi_unit.specs.Tree.{Act, Arguments, Clauses}
use Rattle.edi_unit.specs.View as view
use Rattle.edi_unit.specs.View.{act_of, clause_of, unit_of}
use Rattle.edi_unit.specs.declared.statements.Act as code_act
use Rattle.edi_unit.specs.declared.statements.Clause as code_clause
use Rattle.edi_unit.specs.declared.expressions.Callee.{Callee}
use Rattle.std.specs.Global.{Vec}
use Rattle.edi_meaning.specs.Evaluation.{World, Evaluation, gives, ◌>>=◌}
use Rattle.edi_meaning.specs.Step.{Position, Work, Standing, Asks, goes, arrives, again, forks, leaves, attempt, called, local_step, statement_step, work_step}
use Rattle.edi_meaning.specs.Store.{Cell, Closure, procedure, system_procedure}
use Rattle.edi_meaning.specs.Whole.{instance_of, meant, whole_arguments, whole_first}
use Rattle.edi_walk.specs.declared.data.Held as code_cell
use Rattle.edi_walk.specs.declared.evaluation.Evaluation as code_evaluation
use Rattle.edi_walk.specs.declared.process.Asked as code_asked
use Rattle.edi_walk.specs.declared.process.Asked.TheVariants as asks
use Rattle.edi_walk.specs.declared.process.Standing as code_standing
use Rattle.edi_walk.specs.declared.process.Work as code_work
use Rattle.edi_walk.specs.declared.stop.Stop.{Stop}
use Rattle.edi_walk.specs.declared.stop.Stop.TheVariants as stop
use Rattle.edi_walk.specs.Data.{cell_of}
use Rattle.edi_walk.specs.Frames.{Frame, resume}
use Rattle.edi_walk.specs.Machine.{deeper_of, given_of, world_of}
use Rattle.edi_walk.specs.Memory.{store_of}
use Rattle.edi_walk.specs.Processes.{acts_bare, Bare, bare_all, StandsSo, work_of}
use Rattle.edi_walk.specs.Runs.{RunsTo}
use Rattle.edi_walk.specs.Steps.{MakesSo}

-- this is made, wherever the system's past began
abbrev pub Does : {A T : Type 0} → (World → Evaluation A) → (R : T → A → Type 0) → Result T Stop → (old new : code_evaluation.Evaluation) → (before now : State) →
    Type 0
Does m R result old new before now = (system : Traced) → system.now ≡ before → MakesSo system R result new now (m (world_of old system))

-- two frames alone, the upper one first
abbrev pub WhollyBoth : (lower upper : Frame) → Result (Unit {0}) Stop → (old new : code_evaluation.Evaluation) → (before now : State) → Type 0
WhollyBoth lower upper result old new before now =
    (system : Traced) → system.now ≡ before →
    RunsTo old.turns system result new now
    (resume (unit_of old.unit.now) old.name.items old.size (deeper_of old.turns old) upper (given_of old.given) (world_of old system)
    >>= (λ g w. resume (unit_of old.unit.now) old.name.items old.size (deeper_of old.turns old) lower g w >>= gives))

-- a condition list, whose first true list is executed whole
abbrev pub Tried : Clauses → Result Bool Stop → (old new : code_evaluation.Evaluation) → (before now : State) → Type 0
Tried cs result old new before now =
    Does (whole_first (unit_of old.unit.now) old.name.items old.size cs) (λ b a. a ≡ b) result old new before now

-- the cells of arguments
abbrev pub CellsOf : Arguments → Result (Vec code_cell.Held) Stop → (old new : code_evaluation.Evaluation) → (before now : State) → Type 0
CellsOf es result old new before now =
    Does (whole_arguments (unit_of old.unit.now) old.name.items old.size es) (λ (v : Vec code_cell.Held) cells. cells ≡ map cell_of v.items) result old new before now

-- ---- what a process asks, with the work that is left

-- the code's stands for that of the definition
abbrev pub AsksSo : (left : List code_work.Work) → code_asked.Asked → Asks → Type 0
AsksSo left asks.Goes (goes work) = bare_all work ≡ work_of left []
AsksSo left (asks.Stands cs) (arrives ds position work) = (ds ≡ view.clauses (map clause_of cs.now)) × (bare_all work ≡ work_of left [])
AsksSo left (asks.Stands cs) (again ds position quiet work) = (ds ≡ view.clauses (map clause_of cs.now)) × (bare_all work ≡ work_of left [])
AsksSo left (asks.Forks bs line) (forks ns l work) = (ns ≡ bs.now) × (l ≡ line) × (bare_all work ≡ work_of left [])
AsksSo left asks.Leaves leaves = ⊤
AsksSo left _ _ = ⊥

-- what the definition makes of work that is so
abbrev pub StepsOf : (List Work → World → Evaluation Asks) → (todo : List Bare) → (left : List code_work.Work) → Result code_asked.Asked Stop →
    (old new : code_evaluation.Evaluation) → (before now : State) → Type 0
StepsOf D todo left result old new before now =
    (work : List Work) → bare_all work ≡ todo → Does (D work) (AsksSo left) result old new before now

-- a statement, before this
abbrev pub Statement : Act → (todo : List Bare) → (left : List code_work.Work) → Result code_asked.Asked Stop → (old new : code_evaluation.Evaluation) →
    (before now : State) → Type 0
Statement a todo left result old new before now =
    (position : Position) → StepsOf (statement_step (unit_of old.unit.now) old.name.items old.size a position) todo left result old new before now

-- this work
abbrev pub Works : (todo : List Bare) → (left : List code_work.Work) → Result code_asked.Asked Stop → (old new : code_evaluation.Evaluation) →
    (before now : State) → Type 0
Works todo left result old new before now = StepsOf (work_step (unit_of old.unit.now) old.name.items old.size) todo left result old new before now

-- work that makes no call of the system
abbrev pub WorksHere : (todo : List Bare) → (left : List code_work.Work) → Result code_asked.Asked Stop → (old new : code_evaluation.Evaluation) → Type 0
WorksHere todo left result old new = (s : State) → Works todo left result old new s s

-- an attempt at a `when`, whatever is left to do
abbrev pub Attempt : Clauses → Result code_asked.Asked Stop → (old new : code_evaluation.Evaluation) → (before now : State) → Type 0
Attempt cs result old new before now =
    (left : List code_work.Work) (position : Position) →
    StepsOf (attempt (unit_of old.unit.now) old.name.items old.size cs position) (work_of left []) left result old new before now

-- a call with these cells, of what a callee means
abbrev pub CallsWith : Callee → List Cell → (line : ℕ) → (todo : List Bare) → (left : List code_work.Work) → Result code_asked.Asked Stop →
    (old new : code_evaluation.Evaluation) → (before now : State) → Type 0
CallsWith c cells line todo left result old new before now =
    StepsOf (λ work w. called (unit_of old.unit.now) old.name.items old.size (meant (unit_of old.unit.now) old.name.items old.size c w) cells line work w) todo left
    result old new before now

-- a call of this procedure
abbrev pub CallsThis : Closure → List Cell → (line : ℕ) → (todo : List Bare) → (left : List code_work.Work) → Result code_asked.Asked Stop →
    (old new : code_evaluation.Evaluation) → (before now : State) → Type 0
CallsThis c cells line todo left result old new before now =
    StepsOf (called (unit_of old.unit.now) old.name.items old.size c cells line) todo left result old new before now

-- one step of a process that stands so
abbrev pub Local : code_standing.Standing → (todo : List Bare) → (left : List code_work.Work) → Result code_asked.Asked Stop →
    (old new : code_evaluation.Evaluation) → (before now : State) → Type 0
Local standing todo left result old new before now =
    (stands : Standing) → StandsSo standing stands →
    StepsOf (local_step (unit_of old.unit.now) old.name.items old.size stands) todo left result old new before now

-- ---- small parts

-- a turn was taken, and then this is the answer
abbrev pub TurnsTo : {T : Type 0} → T → Result T Stop → (old new : code_evaluation.Evaluation) → Type 0
TurnsTo x (Ok y) old new = (y ≡ x) × (old.turns ≡ suc new.turns) × (new ≡ record old { turns = new.turns })
TurnsTo x (Err stop.Turns) old new = (old.turns ≡ 0) × (new.turns ≡ 0)
TurnsTo x (Err _) old new = ⊥

-- the program has been entered: its process has one instance
pub record ProgramEntered (old new : code_evaluation.Evaluation) : Type 0 where
  pub turns : old.turns ≡ suc new.turns
  pub store : store_of new.memory
      ≡ with_at (store_of old.memory) old.name.items
      (instance_of (unit_of old.unit.now) old.name.items old.size (unit_of old.unit.now).program ([], 0)
      (map (λ n. procedure (system_procedure n)) (unit_of old.unit.now).calls) ∷ [])
  pub others : new ≡ record old { memory = new.memory; turns = new.turns }

abbrev pub EntersProgram : Result (Unit {0}) Stop → (old new : code_evaluation.Evaluation) → Type 0
EntersProgram (Ok _) old new = ProgramEntered old new
EntersProgram (Err stop.Turns) old new = (old.turns ≡ 0) × (new.turns ≡ 0)
EntersProgram (Err stop.NoMemory) old new = ⊤
EntersProgram (Err _) old new = ⊥

-- this is to do before what there was
abbrev pub PutsFirst : List Bare → Result code_asked.Asked Stop → (old new : List code_work.Work) → Type 0
PutsFirst some (Ok a) old new = (a ≡ asks.Goes) × (work_of new [] ≡ some ++ work_of old [])
PutsFirst some (Err stop.NoMemory) old new = ⊤
PutsFirst some (Err _) old new = ⊥

-- so is the list that was chosen, where there is one, with this behind it
abbrev pub PutsChosen : (lower : List Bare) → Option (Bor (List code_act.Act)) → Result code_asked.Asked Stop → (old new : List code_work.Work) → Type 0
PutsChosen lower None (Ok a) old new = (a ≡ asks.Goes) × (work_of new [] ≡ work_of old [])
PutsChosen lower None (Err _) old new = ⊥
PutsChosen lower (Some body) result old new = PutsFirst (acts_bare (view.acts (map act_of body.now)) ++ lower) result old new

-- after an attempt: the process goes on where a list was executed; else it stands there after a turn
abbrev pub Attempted : Bor (List code_clause.Clause) → Bool → Result code_asked.Asked Stop → (old new : code_evaluation.Evaluation) → Type 0
Attempted cs true (Ok a) old new = (a ≡ asks.Goes) × (new ≡ old)
Attempted cs true (Err _) old new = ⊥
Attempted cs false result old new = TurnsTo (asks.Stands cs) result old new

-- no object outside has failed
abbrev pub StopIsCalm : Stop → Type 0
StopIsCalm (stop.Fault number) = ⊥
StopIsCalm _ = ⊤

abbrev pub IsCalm : {T : Type 0} → Result T Stop → Type 0
IsCalm (Ok _) = ⊤
IsCalm (Err s) = StopIsCalm s
