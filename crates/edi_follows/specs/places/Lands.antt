-- Helper. A step of the meaning, and where the machine comes meanwhile.
use Rattle.std.specs.Prelude.{◌≡◌, ℕ, zero, suc, Bool, true, false, List, [], ◌∷◌, ◌++◌, length, Option, Some, None, is_some, ⊤}
use Rattle.edi_calls.specs.Names.{Name, same, find}
use Rattle.edi_calls.specs.Outcome as outcome
use Rattle.edi_calls.specs.Outcome.{Ending}
use Rattle.edi_calls.specs.Ready.{Next, stays, joins}
use Rattle.edi_calls.specs.State.{State, Traced}
use Rattle.edi_unit.specs.Tree.{Clauses, ProgramUnit}
use Rattle.edi_meaning.specs.Store.{shape, Owns}
use Rattle.edi_meaning.specs.Evaluation.{World, Evaluation, gives, ends}
use Rattle.edi_meaning.specs.Step as source
use Rattle.edi_meaning.specs.Step.{Process, Processes, Position, Work, Asks, goes, arrives, again, forks, leaves, local_step, kernel}
use Rattle.edi_meaning.specs.Permitted.{is_running}
use Rattle.edi_meaning.specs.Select.{marked, is_standstill}
use Rattle.edi_meaning.specs.Laws.{IsWaiting}
use Rattle.edi_meaning.proofs.Kernel.{After}
use Rattle.edi_meaning.proofs.Dangling.{Coherent}
use Rattle.edi_target.specs.Memory.{word}
use Rattle.edi_target.specs.Mach as target
use Rattle.edi_target.specs.Mach.{Activity, Machine, running_of, OwnWords}
use Rattle.edi_target.specs.Attempts.{attempt_fails}
use Rattle.edi_target.specs.Moments.{news_at}
use Rattle.edi_follows.specs.places.Coded.{Coded}
use Rattle.edi_follows.specs.places.Walks.{Walker}
use Rattle.edi_follows.specs.places.Scene.{Scene}
use Rattle.edi_follows.specs.places.Follows.{Follows}
use Rattle.edi_follows.specs.places.Related.{Lives, size_in, activity, Related, Kept, Queue, MarksAgree}

-- the process of this activity in the machine, where the system has this past
abbrev pub walker_of : Machine → List State → Activity → Walker
walker_of t past a = record { local = (running_of t a).local; system = record { now = t.system; past = past }; turns = t.turns }

-- where a process stands at its `when`: the base of its frame, and its program counter
abbrev pub spot_as : Activity → target.Standing → Option (ℕ × ℕ)
spot_as a target.at_when = Some (a.base, a.pc)
spot_as a target.ready = None
spot_as a (target.waiting n) = None

abbrev pub spot_of : Option Activity → Option (ℕ × ℕ)
spot_of None = None
spot_of (Some a) = spot_as a a.standing

module _ (g : Coded) where
  abbrev pub step : Machine → Name → List Name → target.Stepped
  step t p others = target.step g.fetched t p others

  -- where the words of which `outer` holds are not to change
  module _ (outer : ℕ → Type 0) where
    abbrev pub Keeps : Machine → Machine → Type 0
    Keeps t u = (a : ℕ) → outer a → word u.memory a ≡ word t.memory a

    -- k instructions of p, after each of which it goes on; the system's past comes from this to that
    abbrev pub Passes : ℕ → Machine → (past : List State) → Name → List Name → Machine → (now : List State) → Type 0
    Passes zero t past p others u now = (t ≡ u) × (past ≡ now)
    Passes (suc k) t past p others u now =
        (v : Machine) × (step t p others ≡ target.went v stays) × Keeps t v × Passes k v (news_at g.fetched t p ++ past) p others u now

    -- p goes on itself, and the words are still its own
    pub record StillGoes (t : Machine) (past : List State) (p : Name) (others marks : List Name) (s : Processes) : Type 0 where
      pub steps : ℕ
      pub machine : Machine
      pub passes : Passes steps t past p others machine s.world.system.past
      pub related : Related g s machine
      pub kept : Kept s machine
      pub marks_agree : MarksAgree s machine p marks
      pub own : (a : ℕ) → OwnWords machine p a → OwnWords t p a

    -- these join, and the next is taken
    pub record Switches (t : Machine) (past : List State) (p : Name) (others marks : List Name) (s : Processes) (ps : List Name) : Type 0 where
      pub steps : ℕ
      pub before : Machine
      pub since : List State
      pub passes : Passes steps t past p others before since
      pub machine : Machine
      pub is : step before p others ≡ target.went machine (joins ps)
      pub adds : s.world.system.past ≡ news_at g.fetched before p ++ since
      pub keeps : Keeps before machine
      pub related : Related g s machine
      pub kept : Kept s machine
      pub same_marks : machine.marks ≡ marks
      -- the last instruction is the end of an attempt that has failed just where p stood at its `when` before the step
      pub fails : attempt_fails g.fetched before p (find before.activities p) ≡ is_some (spot_of (find t.activities p))
      -- and then p stands there again
      pub spots : (spot : ℕ × ℕ) → spot_of (find t.activities p) ≡ Some spot → spot_of (find machine.activities p) ≡ Some spot

    -- the run ends
    pub record EndsSo (t : Machine) (past : List State) (p : Name) (others : List Name) (ending : Ending) (system : Traced) (turns : ℕ) : Type 0 where
      pub steps : ℕ
      pub before : Machine
      pub since : List State
      pub passes : Passes steps t past p others before since
      pub machine : Machine
      pub is : step before p others ≡ target.ended ending machine
      pub adds : system.past ≡ news_at g.fetched before p ++ since
      pub keeps : Keeps before machine
      pub system_is : machine.system ≡ system.now
      pub turns_are : machine.turns ≡ turns

    -- the run ends in a standstill, and the machine there agrees with what the step left
    pub record StandsStill (t : Machine) (past : List State) (p : Name) (others : List Name) (s : Processes) : Type 0 where
      pub ends : EndsSo t past p others outcome.standstill s.world.system s.world.turns
      pub related : Related g s ends.machine

    abbrev pub LandsNext : Machine → List State → Name → List Name → List Name → Processes → Next → Type 0
    LandsNext t past p others marks s stays = StillGoes t past p others marks s
    LandsNext t past p others marks s (joins ps) = Switches t past p others marks s ps

    abbrev pub LandsTested : Bool → Machine → List State → Name → List Name → List Name → Processes → Next → Type 0
    LandsTested true t past p others marks s next = StandsStill t past p others s
    LandsTested false t past p others marks s next = LandsNext t past p others marks s next

    -- THE STEP LANDS: from t, and this past of the system, the machine comes to what agrees with what the step leaves
    abbrev pub Lands : Machine → (past : List State) → Name → (others marks : List Name) → source.Stepped → Type 0
    Lands t past p others marks (source.ended ending system turns) = EndsSo t past p others ending system turns
    Lands t past p others marks (source.went s next quiet) =
        LandsTested (is_standstill quiet (marked quiet p marks) (p ∷ others)) t past p others (marked quiet p marks) s next

  -- a step of the taken process
  pub record Taken (s : Processes) (t : Machine) (p : Name) (others marks : List Name) : Type 0 where
    pub related : Related g s t
    pub kept : Kept s t
    pub queue : Queue s (p ∷ others)
    pub marks_agree : MarksAgree s t p marks

  abbrev pub Outside : Machine → Name → (ℕ → Type 0) → Type 0
  Outside t p outer = (a : ℕ) → outer a → OwnWords t p a → ⊥

  -- THE CLAIM FOR STEPS
  abbrev pub StepClaim : Type 1
  StepClaim =
      (outer : ℕ → Type 0) (s : Processes) (t : Machine) (p : Name) (others marks : List Name) → Taken s t p others marks → Outside t p outer →
      Lands outer t s.world.system.past p others marks (source.step g.unit s p)

  -- ---- from one process to all

  -- p is this process, and may go on
  pub record Stepping (s : Processes) (p : Name) (q : Process) : Type 0 where
    pub found : find s.live p ≡ Some q
    pub runs : is_running q.standing ≡ true
    pub free : IsWaiting s.live p → ⊥
    pub lowest : (y : Name) → Lives s.live y → same y p ≡ false → Owns y p → ⊥

  module _ (s : Processes) (t : Machine) (p : Name) (q : Process) (x : Stepping s p q) (r : Related g s t) where
    abbrev pub scene : Scene
    scene = record {
      name = p;
      live = Lives s.live;
      waits = IsWaiting s.live;
      first = r.first;
      size = size_in s.live;
      around = shape s.world.store;
      count = length t.activities;
      lives = record { process = q; found = x.found };
      runs = x.free;
      lowest = x.lowest;
    }

    -- the program counter of p, and p alone as the machine takes it
    abbrev pub pc_of : ℕ
    pc_of = (r.words.each p q x.found).pc

    abbrev pub taken_as : Walker
    taken_as = walker_of t s.world.system.past (activity g r.first (shape s.world.store) p q pc_of)

    abbrev pub FollowsHere : Evaluation Asks → Type 0
    FollowsHere a = Follows g scene s.world.store t.memory taken_as a

  -- THE LOCAL CLAIM: of one process in a state of many
  abbrev pub LocalClaim : Type 0
  LocalClaim =
      (s : Processes) (t : Machine) (p : Name) (q : Process) (x : Stepping s p q) (r : Related g s t) → Kept s t →
      FollowsHere s t p q x r (local_step g.unit p q.size q.standing q.work s.world)

  -- WHAT THE KERNELS MAKE of what a local step gave: the claim for one such gift
  abbrev pub KernelClaim : Evaluation Asks → Type 1
  KernelClaim a =
      (outer : ℕ → Type 0) (s : Processes) (t : Machine) (p : Name) (others marks : List Name) (k : Taken s t p others marks) → Outside t p outer →
      (q : Process) (x : Stepping s p q) → local_step g.unit p q.size q.standing q.work s.world ≡ a → After Coherent (kernel g.unit s p q a) →
      FollowsHere s t p q x k.related a → Lands outer t s.world.system.past p others marks (kernel g.unit s p q a)

  abbrev pub GoesClaim : Type 1
  GoesClaim = (ws : List Work) (w : World) → KernelClaim (gives (goes ws) w)

  abbrev pub ArrivesClaim : Type 1
  ArrivesClaim = (cs : Clauses) (position : Position) (ws : List Work) (w : World) → KernelClaim (gives (arrives cs position ws) w)

  abbrev pub AgainClaim : Type 1
  AgainClaim = (cs : Clauses) (position : Position) (quiet : Bool) (ws : List Work) (w : World) → KernelClaim (gives (again cs position quiet ws) w)

  abbrev pub ForkClaim : Type 1
  ForkClaim = (bs : List ℕ) (line : ℕ) (ws : List Work) (w : World) → KernelClaim (gives (forks bs line ws) w)

  abbrev pub LeaveClaim : Type 1
  LeaveClaim = (w : World) → KernelClaim (gives leaves w)

  abbrev pub EndsClaim : Type 1
  EndsClaim = (ending : Ending) (system : Traced) (turns : ℕ) → KernelClaim (ends ending system turns)

  -- ---- the start

  -- the program's entry is the first step of the meaning, and the machine begins behind it
  pub record Begins (system : State) (n : ℕ) : Type 0 where
    pub state : Processes
    pub machine : Machine
    pub stepped : source.step g.unit (source.start g.unit system (suc n)) [] ≡ source.went state stays false
    pub entered : target.entered (g.fetched 0) 0 g.unit.calls (suc n) system ≡ target.went machine stays
    pub taken : Taken state machine [] [] []
    pub no_past : state.world.system.past ≡ []

  -- where there is no turn for it both end
  pub record BeginsNot (system : State) : Type 0 where
    pub machine : Machine
    pub entered : target.entered (g.fetched 0) 0 g.unit.calls zero system ≡ target.ended outcome.turns machine
    pub system_is : machine.system ≡ system
    pub turns_are : machine.turns ≡ 0

  pub record StartClaim : Type 0 where
    pub begins : (system : State) (n : ℕ) → Begins system n
    pub begins_not : (system : State) → BeginsNot system

-- ---- what the meaning keeps by itself

abbrev pub StepsCohere : Type 0
StepsCohere = (unit : ProgramUnit) (s : Processes) (p : Name) → Coherent s → After Coherent (source.step unit s p)

abbrev pub QueueAfter : Name → List Name → source.Stepped → Type 0
QueueAfter p others (source.ended ending system turns) = ⊤
QueueAfter p others (source.went s stays quiet) = Queue s (p ∷ others)
QueueAfter p others (source.went s (joins ps) quiet) = Queue s (others ++ ps)

abbrev pub StepsQueue : Type 0
StepsQueue =
    (unit : ProgramUnit) (s : Processes) (p : Name) (others : List Name) → Coherent s → Queue s (p ∷ others) → QueueAfter p others (source.step unit s p)
