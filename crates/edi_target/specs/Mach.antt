-- Definition. The abstract machine: the activities of all live processes in one memory of 65,536 words. It takes a process from
-- the list of ready ones, runs its instructions one by one until it arrives at a `when`, forks or ends, and takes the
-- next.
use Rattle.std.specs.Prelude.{◌≡◌, ℕ, zero, suc, ◌+◌, ◌-◌, ◌/◌, ◌<◌, ◌≤◌, ◌⊎◌, Bool, true, false, if◌then◌else◌, List, [], ◌∷◌, ◌++◌, length, Option, Some}
use Rattle.std.specs.Prelude.{None}
use Rattle.edi_calls.specs.declared.kinds.Cause.{Cause}
use Rattle.edi_calls.specs.declared.kinds.Cause.TheVariants as cause
use Rattle.edi_calls.specs.State.{State}
use Rattle.edi_calls.specs.Calls.{CallResult, answered, no_file, file_limit, call}
use Rattle.edi_calls.specs.Choice.{Choices}
use Rattle.edi_calls.specs.Names.{Name, Table, find, with_at, without}
use Rattle.edi_calls.specs.Outcome as outcome
use Rattle.edi_calls.specs.Outcome.{Ending, Outcome, outcome_of}
use Rattle.edi_target.specs.Op as op
use Rattle.edi_target.specs.Op.{Instruction, Branch}
use Rattle.edi_store.specs.Memory.{written, zero_memory}
use Rattle.edi_calls.specs.Ready.{child, parent_of, children, all_marked, Next, stays, joins, Taking, nobody, taking, take_next, freed}
use Rattle.edi_target.specs.Effect.{Local, Turn, entering, leaving, looping, arriving, again, forking, exiting, finishing, Effect, goes, released, asks, due}
use Rattle.edi_target.specs.Effect.{fails, bad}
use Rattle.edi_target.specs.Perform.{perform}

-- ---- one activity

-- an activity with the memory, the system that it calls, and the turns that are left
pub record Running : Type 0 where
  pub local : Local
  pub system : State
  pub turns : ℕ

pub data Answer : Type 0 where
  -- the activity goes on, without a turn
  on : Running → Answer
  -- it goes on behind a critical phase
  behind : Running → Answer
  -- it took a turn
  turned : Turn → Running → Answer
  -- the run ends
  over : Ending → Running → Answer

-- how the run ends by a failure
abbrev pub ending_of : Cause → ℕ → Ending
ending_of cause.Halt line = outcome.halted line
ending_of cause line = outcome.failed cause line

-- the answer of a system call is stored at the address, where the call has an answer
abbrev pub answer_at : Option ℕ → List ℕ → Local → Local
answer_at None words l = l
answer_at (Some address) words l = record l { memory = written l.memory address words }

-- a system call takes no turn
abbrev pub called : CallResult → Option ℕ → ℕ → Local → Running → Answer
called (answered words system) address line l r = on (record r { local = answer_at address words l; system = system })
called no_file address line l r = over (outcome.failed cause.NoFile line) r
called file_limit address line l r = over (outcome.failed cause.FileLimit line) r

-- a turn that is due ends the run where none is left
abbrev pub turn_from : ℕ → Turn → Local → Running → Answer
turn_from zero kind l r = over outcome.turns r
turn_from (suc n) kind l r = turned kind (record r { local = l; turns = n })

abbrev pub settled : Effect → Running → Answer
settled (goes l) r = on (record r { local = l })
settled (released l) r = behind (record r { local = l })
settled (asks number arguments address line l) r = called (call number arguments r.system) address line l r
settled (due kind l) r = turn_from r.turns kind l r
settled (fails c line) r = over (ending_of c line) r
settled bad r = over (outcome.bad r.local.pc) r

module _ (fetch : ℕ → Option (Instruction × ℕ)) where
  -- the effect of the instruction at the program counter, which is refused where none stands there; the number of
  -- live processes counts at a fork, and the first process alone may end the program
  abbrev pub effect_at : Option (Instruction × ℕ) → (live : ℕ) → (is_first : Bool) → Local → Effect
  effect_at None live is_first l = bad
  effect_at (Some (instruction, next)) live is_first l = perform fetch live is_first instruction next l

  -- one instruction of an activity
  abbrev pub local_step : (live : ℕ) → (is_first : Bool) → Running → Answer
  local_step live is_first r = settled (effect_at (fetch r.local.pc) live is_first r.local) r

-- ---- all activities

pub data Standing : Type 0 where
  ready : Standing
  -- at its `when`
  at_when : Standing
  -- until so many children have ended
  waiting : ℕ → Standing

pub record Activity : Type 0 where
  pub base : ℕ
  pub end : ℕ
  pub top : ℕ
  pub pc : ℕ
  pub first : ℕ
  pub last : ℕ
  pub held : ℕ
  -- how often it has forked
  pub forks : ℕ
  pub standing : Standing

pub record Machine : Type 0 where
  pub memory : List ℕ
  -- of each live process
  pub activities : Table Activity
  -- the processes whose last attempts failed since anything else happened
  pub marks : List Name
  pub turns : ℕ
  pub system : State

-- what a step leaves: the machine, and whether its process goes on; or the end of the run, with the machine there
pub data Stepped : Type 0 where
  went : Machine → Next → Stepped
  ended : Ending → Machine → Stepped

-- a process that is taken at its `when` goes on in the critical phase
abbrev pub held_at : Standing → ℕ → ℕ
held_at ready held = held
held_at at_when held = 1
held_at (waiting n) held = held

abbrev pub running_of : Machine → Activity → Running
running_of m a = record {
  local = record {
    memory = m.memory;
    base = a.base;
    end = a.end;
    top = a.top;
    pc = a.pc;
    first = a.first;
    last = a.last;
    held = held_at a.standing a.held;
  };
  system = m.system;
  turns = m.turns;
}

abbrev pub activity_of : Local → ℕ → Standing → Activity
activity_of l forks standing = record {
  base = l.base;
  end = l.end;
  top = l.top;
  pc = l.pc;
  first = l.first;
  last = l.last;
  held = l.held;
  forks = forks;
  standing = standing;
}

-- the machine with what its process did, which is now this activity
abbrev pub back : Machine → Name → Activity → List Name → Running → Machine
back m p a marks r = record {
  memory = r.local.memory;
  activities = with_at m.activities p a;
  marks = marks;
  turns = r.turns;
  system = r.system;
}

-- a child begins at `at`, with its share as its segment; its frame names the base of its parent
abbrev pub with_child : Name → (base at share : ℕ) → Branch → Machine → Machine
with_child p base at share branch m = record m {
  memory = written m.memory at (base ∷ 0 ∷ 0 ∷ 0 ∷ 0 ∷ []);
  activities = with_at m.activities p (record {
    base = at;
    end = at + branch.need;
    top = at + 5;
    pc = branch.address;
    first = at;
    last = at + share;
    held = 0;
    forks = 0;
    standing = ready;
  });
}

-- the children of the f-th fork of p, from child i on, one share after another
abbrev pub with_children : Name → (f i base at share : ℕ) → List Branch → Machine → Machine
with_children p f i base at share [] m = m
with_children p f i base at share (branch ∷ branches) m =
    with_children p f (suc i) base (at + share) share branches (with_child (child p f i) base at share branch m)

-- a parent waits for one child less, and is ready when none is left
abbrev pub awaits : ℕ → Standing
awaits zero = ready
awaits (suc n) = waiting (suc n)

abbrev pub one_less : Machine → Name → Activity → Standing → Stepped
one_less m p a (waiting n) =
    went (record m { activities = with_at m.activities p (record a { standing = awaits (n - 1) }) }) (freed (n - 1) p)
one_less m p a standing = went m (joins [])

-- the end of a child is notified to its parent
abbrev pub notified : Machine → Name → Option Activity → Stepped
notified m p None = went m (joins [])
notified m p (Some a) = one_less m p a a.standing

abbrev pub exited : Machine → Name → Running → Stepped
exited m p r =
    let rest = without m.activities p in
    notified
    (record { memory = r.local.memory; activities = rest; marks = []; turns = r.turns; system = r.system })
    (parent_of p)
    (find rest (parent_of p))

-- an attempt failed: its process stands at its `when` again. Where the attempt marks it and every ready process is
-- marked then, nothing can happen any more
abbrev pub attempted : Machine → Name → List Name → Activity → Bool → Running → Stepped
attempted m p others a false r =
    went (back m p (activity_of r.local a.forks at_when) [] r) (joins (p ∷ []))
attempted m p others a true r =
    let marks = p ∷ m.marks in
    let after = back m p (activity_of r.local a.forks at_when) marks r in
    if all_marked marks (p ∷ others) then ended outcome.standstill after else went after (joins (p ∷ []))

-- what the kernel makes of a turn; each but the turn of a marked attempt empties the marks
abbrev pub at_turn : Machine → Name → List Name → Activity → Turn → Running → Stepped
at_turn m p others a entering r = went (back m p (activity_of r.local a.forks ready) [] r) stays
at_turn m p others a leaving r = went (back m p (activity_of r.local a.forks ready) [] r) stays
at_turn m p others a looping r = went (back m p (activity_of r.local a.forks ready) [] r) stays
at_turn m p others a arriving r = went (back m p (activity_of r.local a.forks at_when) [] r) (joins (p ∷ []))
at_turn m p others a (again marks) r = attempted m p others a marks r
at_turn m p others a (forking branches) r =
    let n = length branches in
    let f = suc a.forks in
    let share = (r.local.last - r.local.end) / n in
    went
    (with_children p f 0 r.local.base r.local.end share branches (back m p (activity_of r.local f (waiting n)) [] r))
    (joins (children p f 0 n))
at_turn m p others a exiting r = exited m p r
at_turn m p others a finishing r = ended outcome.done (back m p (activity_of r.local a.forks ready) [] r)

abbrev pub kernel : Machine → Name → List Name → Activity → Answer → Stepped
kernel m p others a (on r) = went (back m p (activity_of r.local a.forks ready) m.marks r) stays
kernel m p others a (behind r) = went (back m p (activity_of r.local a.forks ready) [] r) stays
kernel m p others a (turned kind r) = at_turn m p others a kind r
kernel m p others a (over ending r) = ended ending (back m p a m.marks r)

-- the first process has the empty name
abbrev pub is_first : Name → Bool
is_first [] = true
is_first (n ∷ ns) = false

module _ (fetch : ℕ → Option (Instruction × ℕ)) where
  abbrev pub step_of : Machine → Name → List Name → Option Activity → Stepped
  step_of m p others None = ended (outcome.bad 0) m
  step_of m p others (Some a) =
      kernel m p others a (local_step fetch (length m.activities) (is_first p) (running_of m a))

  -- one instruction of the taken process p, beside the other ready ones
  abbrev pub step : Machine → Name → List Name → Stepped
  step m p others = step_of m p others (find m.activities p)

-- ---- a run

pub data MachineRun : Type 0 where
  unfinished : MachineRun
  finished : Ending → Machine → (drawn : ℕ) → MachineRun

-- where nobody is ready nothing can happen any more either
abbrev pub go_on : Taking → (Name → List Name → ℕ → MachineRun) → Machine → ℕ → MachineRun
go_on nobody more m drawn = finished outcome.standstill m drawn
go_on (taking p others drawn) more m before = more p others drawn

abbrev pub after_step : Choices → (Machine → Name → List Name → ℕ → MachineRun) → Name → List Name → ℕ → Stepped → MachineRun
after_step choices more p others drawn (ended ending m) = finished ending m drawn
after_step choices more p others drawn (went m stays) = more m p others drawn
after_step choices more p others drawn (went m (joins ps)) = go_on (take_next choices drawn (others ++ ps)) (more m) m drawn

-- the run of at most n instructions from here, where p is taken and the others are ready
abbrev pub run : (ℕ → Option (Instruction × ℕ)) → Choices → ℕ → Machine → Name → List Name → ℕ → MachineRun
run fetch choices zero m p others drawn = unfinished
run fetch choices (suc n) m p others drawn =
    after_step choices (run fetch choices n) p others drawn (step fetch m p others)

-- ---- the start

-- the descriptors of the program's parameters
abbrev pub descriptors : List ℕ → List ℕ
descriptors [] = []
descriptors (number ∷ calls) = 65535 ∷ number ∷ 0 ∷ descriptors calls

abbrev pub first_activity : (need top pc : ℕ) → Activity
first_activity need top pc = record {
  base = 0;
  end = need;
  top = top;
  pc = pc;
  first = 0;
  last = 65536;
  held = 0;
  forks = 0;
  standing = ready;
}

abbrev pub machine_at : List ℕ → Table Activity → (turns : ℕ) → State → Machine
machine_at memory activities turns system = record {
  memory = memory;
  activities = activities;
  marks = [];
  turns = turns;
  system = system;
}

abbrev pub start_memory : List ℕ → List ℕ
start_memory calls = written zero_memory 5 (descriptors calls)

-- the first turn is that of the program's entry
abbrev pub entered : Option (Instruction × ℕ) → (entry : ℕ) → List ℕ → ℕ → State → Stepped
entered (Some (op.entry need r p v f, body)) entry calls zero system =
    ended outcome.turns (machine_at (start_memory calls) (([], first_activity need (5 + p + v) body) ∷ []) 0 system)
entered (Some (op.entry need r p v f, body)) entry calls (suc n) system =
    went (machine_at (start_memory calls) (([], first_activity need (5 + p + v) body) ∷ []) n system) stays
entered _ entry calls bound system = ended (outcome.bad entry) (machine_at (start_memory calls) [] bound system)

-- a run of at most n instructions from the start
abbrev pub run_from_start : (ℕ → Option (Instruction × ℕ)) → (entry : ℕ) → List ℕ → State → ℕ → Choices → ℕ → MachineRun
run_from_start fetch entry calls system bound choices n =
    after_step choices (run fetch choices n) [] [] 0 (entered (fetch entry) entry calls bound system)

-- THE MACHINE: the run of this code ends so, after some number of instructions
abbrev pub Ends : (ℕ → Option (Instruction × ℕ)) → (entry : ℕ) → List ℕ → State → ℕ → Choices → Ending → Machine → ℕ → Type 0
Ends fetch entry calls system bound choices ending m drawn =
    (n : ℕ) × (run_from_start fetch entry calls system bound choices n ≡ finished ending m drawn)

-- the outcome of the run
abbrev pub Mach : (ℕ → Option (Instruction × ℕ)) → (entry : ℕ) → List ℕ → State → ℕ → Choices → Outcome → Type 0
Mach fetch entry calls system bound choices outcome =
    (ending : Ending) × (m : Machine) × (drawn : ℕ) × Ends fetch entry calls system bound choices ending m drawn
    × (outcome ≡ outcome_of m.system ending (bound - m.turns) drawn)

-- ---- the words that a process may change

-- q is an ancestor of p
abbrev pub IsAncestor : Name → Name → Type 0
IsAncestor q p = (rest : Name) × (0 < length rest) × (p ≡ q ++ rest)

-- the words of p's segment, and of each of its ancestors the words from its first to the last of its frames
abbrev pub OwnWords : Machine → Name → ℕ → Type 0
OwnWords m p address =
    ((a : Activity) × (find m.activities p ≡ Some a) × (a.first ≤ address) × (address < a.last))
    ⊎ ((q : Name) × (a : Activity) × IsAncestor q p × (find m.activities q ≡ Some a) × (a.first ≤ address) × (address < a.end))
