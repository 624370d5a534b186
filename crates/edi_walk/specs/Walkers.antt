-- Words of contracts. A step of the walk: the choice of its process, what the process does, and what that asks for all processes.
use Rattle.std.specs.Prelude.{◌≡◌, ◌≤◌, ◌<◌, ◌+◌, ◌-◌, ◌^◌, ℕ, zero, suc, Bool, false, List, [], ◌∷◌, ◌++◌, length, map, slice_get, slice_set, Result, Ok, Err, Some, ⊤}
use Rattle.edi_calls.specs.Calls.{answered, call}
use Rattle.edi_calls.specs.Ends.{IsTorn}
use Rattle.edi_calls.specs.Names.{Name, Table, find, with_at}
use Rattle.edi_calls.specs.Outcome as outcome
use Rattle.edi_calls.specs.Outcome.{Ending}
use Rattle.edi_calls.specs.Ready.{Next, joins, Taking, nobody, taking, take_next, child, children}
use Rattle.edi_calls.specs.State.{State, Traced, after_call}
use Rattle.edi_trace.specs.Drawn.{Drawn}
use Rattle.edi_unit.specs.Tree.{ProgramUnit}
use Rattle.edi_unit.specs.View.{unit_of}
use Rattle.edi_meaning.specs.Evaluation.{World, gives}
use Rattle.edi_meaning.specs.Laws.{GoesFrom, Grows}
use Rattle.edi_meaning.specs.Step.{Asks, Process, Processes, Stepped, Work, went, ended, back, fork_taken, kernel, one_less, step, waiting, with_child, with_children}
use Rattle.edi_meaning.specs.Store.{now, shape}
use Rattle.edi_walk.specs.declared.forking.Fork as code_fork
use Rattle.edi_walk.specs.declared.process.Asked as code_asked
use Rattle.edi_walk.specs.declared.process.Process as code_process
use Rattle.edi_walk.specs.declared.process.Standing as code_standing
use Rattle.edi_walk.specs.declared.process.Standing.TheVariants as stands
use Rattle.edi_walk.specs.declared.process.Work as code_work
use Rattle.edi_walk.specs.declared.stop.Stop.{Stop}
use Rattle.edi_walk.specs.declared.stop.Stop.TheVariants as stop
use Rattle.edi_walk.specs.declared.walker.Walker as code_walker
use Rattle.edi_walk.specs.Data.{spot_of}
use Rattle.edi_walk.specs.Memory.{store_of}
use Rattle.edi_walk.specs.Processes.{AreProcesses, bare_all, ForksFit, Holds, IsProcess, LivesAt, work_of}
use Rattle.edi_walk.specs.Walk.{joining}
use Rattle.edi_walk.specs.Works.{AsksSo}

-- ---- a step of one process

-- a step goes on from this world, to the next state or to the end of the program
abbrev pub StepOn : World → Stepped → Type 0
StepOn w (went s next quiet) = GoesFrom w s.world.system s.world.turns
StepOn w (ended e system turns) = GoesFrom w system turns

-- the step of process p was taken, before those others of the list
pub record StepTaken (unit : ProgramUnit) (bound : ℕ) (w : code_walker.Walker) (s : Processes) (p : Name) (others : List Name) (now : State) : Type 0 where
  pub state : Processes
  pub next : Next
  pub quiet : Bool
  pub is : step unit s p ≡ went state next quiet
  pub holds : Holds unit bound w state (others ++ joining p next)
  pub system_is : state.world.system.now ≡ now

-- it has ended the program
pub record StepEnds (unit : ProgramUnit) (s : Processes) (p : Name) (ending : Ending) (now : State) : Type 0 where
  pub system : Traced
  pub turns : ℕ
  pub is : step unit s p ≡ ended ending system turns
  pub system_is : system.now ≡ now

-- an object outside failed in a call of this number that was to lead from the system before it to the next state
pub record StepFails (number : ℕ) (unit : ProgramUnit) (s : Processes) (p : Name) (now : State) : Type 0 where
  pub before : Traced
  pub grew : Grows s.world.system before
  pub next : State
  pub arguments : List ℕ
  pub answer : List ℕ
  pub answers : call number arguments before.now ≡ answered answer next
  pub torn : IsTorn before.now next now
  pub world : World
  pub world_is : world.system ≡ after_call next before
  pub goes : StepOn world (step unit s p)

-- it was given up in a world with this system
pub record StepIsCut (unit : ProgramUnit) (s : Processes) (p : Name) (now : State) : Type 0 where
  pub world : World
  pub grew : Grows s.world.system world.system
  pub system_is : world.system.now ≡ now
  pub goes : StepOn world (step unit s p)

abbrev pub StepMakes : ProgramUnit → (bound : ℕ) → Processes → Name → List Name → Result (Unit {0}) Stop → code_walker.Walker → State → Type 0
StepMakes unit bound s p others (Ok _) new now = StepTaken unit bound new s p others now
StepMakes unit bound s p others (Err stop.Done) new now = StepEnds unit s p outcome.done now
StepMakes unit bound s p others (Err (stop.Halted line)) new now = StepEnds unit s p (outcome.halted line) now
StepMakes unit bound s p others (Err (stop.Failed c line)) new now = StepEnds unit s p (outcome.failed c line) now
StepMakes unit bound s p others (Err stop.Turns) new now = StepEnds unit s p outcome.turns now
StepMakes unit bound s p others (Err (stop.Fault number)) new now = StepFails number unit s p now
StepMakes unit bound s p others (Err stop.NoMemory) new now = StepIsCut unit s p now

-- the process of this name, which is not in the list, has stepped
abbrev pub Takes : Name → (index : ℕ) → Result (Unit {0}) Stop → (old new : code_walker.Walker) → (before now : State) → Type 0
Takes p index result old new before now =
    (unit : ProgramUnit) (bound : ℕ) (s : Processes) (others : List Name) → Holds unit bound old s others → LivesAt p index old.live.items →
    s.world.system.now ≡ before → StepMakes unit bound s p others result new now

-- the next process was taken from the list, so many choices being drawn then, and has stepped
abbrev pub TakenMakes : ProgramUnit → (bound : ℕ) → Processes → Taking → (before drawn : ℕ) → Result (Unit {0}) Stop → code_walker.Walker → State → Type 0
TakenMakes unit bound s nobody before drawn (Err stop.Turns) new now = (drawn ≡ before) × (s.world.system.now ≡ now)
TakenMakes unit bound s nobody before drawn _ new now = ⊥
TakenMakes unit bound s (taking p others d) before drawn result new now = (drawn ≡ d) × StepMakes unit bound s p others result new now

abbrev pub Walks : Result (Unit {0}) Stop → (old new : code_walker.Walker) → (drawn now_drawn : Drawn) → (before now : State) → Type 0
Walks result old new drawn now_drawn before now =
    (unit : ProgramUnit) (bound : ℕ) (s : Processes) (listed : List Name) → drawn.drawn < 2 ^ 64 - 1 → Holds unit bound old s listed →
    s.world.system.now ≡ before →
    TakenMakes unit bound s (take_next drawn.source drawn.drawn listed) drawn.drawn now_drawn.drawn result new now

-- ---- what the process asks

-- process p has done its part, in this world, and has this left to do; nothing is done yet for all processes
pub record Midway (unit : ProgramUnit) (bound : ℕ) (w : code_walker.Walker) (index : ℕ) (s : Processes) (p : Name) (q : Process) (world : World)
    (left : List code_work.Work) (others : List Name) : Type 0 where
  pub before : List code_process.Process
  pub live : AreProcesses before s.live
  pub at : LivesAt p index before
  pub found : find s.live p ≡ Some q
  pub process : code_process.Process
  pub live_is : w.live.items ≡ slice_set before index process
  pub there : slice_get w.live.items index ≡ Some process
  pub named : process.name.items ≡ p
  pub size : process.size ≡ q.size
  pub forked : process.forks ≡ q.forks
  pub work : process.work.items ≡ left
  pub name : w.evaluation.name.items ≡ p
  pub unit_is : unit_of w.evaluation.unit.now ≡ unit
  pub listed_are : map (λ n. n.items) w.listed.items ≡ others
  pub store : store_of w.evaluation.memory ≡ world.store
  pub turns : w.evaluation.turns ≡ world.turns
  pub forks : ForksFit bound world.turns s.live
  pub within : world.turns ≤ bound
  pub small : bound < 2 ^ 64
  pub free : w.evaluation.frames.items ≡ []

-- the kernel makes this of what is asked
pub record KernelGoes (unit : ProgramUnit) (bound : ℕ) (s : Processes) (p : Name) (q : Process) (a : Asks) (world : World) (others : List Name)
    (new : code_walker.Walker) : Type 0 where
  pub state : Processes
  pub next : Next
  pub quiet : Bool
  pub is : kernel unit s p q (gives a world) ≡ went state next quiet
  pub holds : Holds unit bound new state (others ++ joining p next)
  pub system_is : state.world.system ≡ world.system

abbrev pub KernelMakes : ProgramUnit → (bound : ℕ) → Processes → Name → Process → Asks → World → (others : List Name) → Result (Unit {0}) Stop →
    (new : code_walker.Walker) → Type 0
KernelMakes unit bound s p q a world others (Ok _) new = KernelGoes unit bound s p q a world others new
KernelMakes unit bound s p q a world others (Err (stop.Failed c line)) new =
    kernel unit s p q (gives a world) ≡ ended (outcome.failed c line) world.system world.turns
KernelMakes unit bound s p q a world others (Err stop.Turns) new = kernel unit s p q (gives a world) ≡ ended outcome.turns world.system world.turns
KernelMakes unit bound s p q a world others (Err stop.NoMemory) new = ⊤
KernelMakes unit bound s p q a world others (Err _) new = ⊥

abbrev pub Follows : code_asked.Asked → (index : ℕ) → Result (Unit {0}) Stop → (old new : code_walker.Walker) → Type 0
Follows asked index result old new =
    (unit : ProgramUnit) (bound : ℕ) (s : Processes) (p : Name) (q : Process) (world : World) (left : List code_work.Work) (others : List Name) (a : Asks) →
    Midway unit bound old index s p q world left others → AsksSo left asked a → KernelMakes unit bound s p q a world others result new

-- the process at this index stands so
abbrev pub StandsThere : (index : ℕ) → code_standing.Standing → (old new : List code_process.Process) → Type 0
StandsThere index standing old new =
    (process : code_process.Process) → slice_get old index ≡ Some process → new ≡ slice_set old index (record process { standing = standing })

-- it is at the back of the list, and stands so
pub record GoneBack (index : ℕ) (standing : code_standing.Standing) (old new : code_walker.Walker) : Type 0 where
  pub live : StandsThere index standing old.live.items new.live.items
  pub listed : new.listed.items ≡ old.listed.items ++ old.evaluation.name ∷ []
  pub evaluation : new.evaluation ≡ record old.evaluation { name = new.evaluation.name }

-- the process at this index waits for so many children of its fork of this number
abbrev pub WaitsThere : (index number children : ℕ) → (old new : List code_process.Process) → Type 0
WaitsThere index number children old new =
    (process : code_process.Process) → slice_get old index ≡ Some process →
    new ≡ slice_set old index (record process { forks = number; standing = stands.Waiting children })

-- the turn of a fork has been taken: the process waits, and its children begin
abbrev pub Parted : (index share : ℕ) → (branches : List ℕ) → (old new : code_walker.Walker) → Type 0
Parted index share branches old new =
    (unit : ProgramUnit) (bound : ℕ) (s : Processes) (p : Name) (q : Process) (world : World) (left : List code_work.Work) (others : List Name) (work : List Work) →
    Midway unit bound old index s p q world left others → bare_all work ≡ work_of left [] → suc q.forks + world.turns ≤ bound →
    Holds unit bound new
    (with_children unit p (suc q.forks) 0 share (now (shape world.store) p) branches
    (back s p (record q { forks = suc q.forks; work = work; standing = waiting (length branches) }) world))
    (others ++ children p (suc q.forks) 0 (length branches))

-- a fork for which there is room: its turn, and its children
abbrev pub Forked : (index share : ℕ) → (branches : List ℕ) → Result (Unit {0}) Stop → (old new : code_walker.Walker) → Type 0
Forked index share branches (Ok _) old new =
    (unit : ProgramUnit) (bound : ℕ) (s : Processes) (p : Name) (q : Process) (world : World) (left : List code_work.Work) (others : List Name) (work : List Work) →
    Midway unit bound old index s p q world left others → bare_all work ≡ work_of left [] →
    (state : Processes) × (fork_taken unit s p q branches work world world.turns share ≡ went state (joins (children p (suc q.forks) 0 (length branches))) false)
    × Holds unit bound new state (others ++ children p (suc q.forks) 0 (length branches)) × (state.world.system ≡ world.system)
Forked index share branches (Err stop.Turns) old new = old.evaluation.turns ≡ 0
Forked index share branches (Err stop.NoMemory) old new = ⊤
Forked index share branches (Err _) old new = ⊥

-- a child of a fork has begun; or some, from child i on
abbrev pub Begins : code_fork.Fork → (i number : ℕ) → (old new : code_walker.Walker) → Type 0
Begins fork i number old new =
    (unit : ProgramUnit) (bound : ℕ) (s : Processes) (listed : List Name) → Holds unit bound old s listed →
    Holds unit bound new (with_child unit (child fork.parent.name.items fork.number i) fork.share (spot_of fork.parent) number s)
    (listed ++ child fork.parent.name.items fork.number i ∷ [])

abbrev pub BeginAll : code_fork.Fork → (branches : List ℕ) → (old new : code_walker.Walker) → Type 0
BeginAll fork branches old new =
    (unit : ProgramUnit) (bound : ℕ) (s : Processes) (listed : List Name) → Holds unit bound old s listed →
    Holds unit bound new (with_children unit fork.parent.name.items fork.number 0 fork.share (spot_of fork.parent) branches s)
    (listed ++ children fork.parent.name.items fork.number 0 (length branches))

-- a process has been put under its name
abbrev pub Enlists : code_process.Process → (old new : List code_process.Process) → Type 0
Enlists c old new = (t : Table Process) (q : Process) → AreProcesses old t → IsProcess c c.name.items q → AreProcesses new (with_at t c.name.items q)

-- a parent is ready, at the back of the list
pub record Freed (parent : Name) (index : ℕ) (old new : code_walker.Walker) : Type 0 where
  pub live : StandsThere index stands.Ready old.live.items new.live.items
  pub listed : map (λ n. n.items) new.listed.items ≡ map (λ n. n.items) old.listed.items ++ parent ∷ []
  pub evaluation : new.evaluation ≡ old.evaluation

-- a parent that has waited for so many children waits for one less, or is ready
abbrev pub LessOne : (children : ℕ) → (parent : Name) → (index : ℕ) → Result (Unit {0}) Stop → (old new : code_walker.Walker) → Type 0
LessOne zero parent index (Ok _) old new = Freed parent index old new
LessOne (suc zero) parent index (Ok _) old new = Freed parent index old new
LessOne (suc (suc n)) parent index (Ok _) old new =
    StandsThere index (stands.Waiting (suc n)) old.live.items new.live.items × (new ≡ record old { live = new.live })
LessOne children parent index (Err stop.NoMemory) old new = ⊤
LessOne children parent index (Err _) old new = ⊥

-- a child's parent, which is found at this place, waits for one child less
abbrev pub Notifies : (parent : Name) → (index : ℕ) → Result (Unit {0}) Stop → (old new : code_walker.Walker) → Type 0
Notifies parent index (Ok _) old new =
    (unit : ProgramUnit) (bound : ℕ) (s : Processes) (listed : List Name) (q : Process) → Holds unit bound old s listed → LivesAt parent index old.live.items →
    find s.live parent ≡ Some q →
    (state : Processes) × (ps : List Name) × (one_less s parent q q.standing ≡ went state (joins ps) false)
    × Holds unit bound new state (listed ++ ps) × (state.world.system ≡ s.world.system)
Notifies parent index (Err stop.NoMemory) old new = ⊤
Notifies parent index (Err _) old new = ⊥
