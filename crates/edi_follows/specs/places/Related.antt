-- Helper. THE RELATION between a state of the meaning and a machine: it holds between any two steps of the meaning.
use Rattle.std.specs.Prelude.{◌≡◌, ◌⊎◌, ℕ, ◌+◌, ◌-◌, ◌^◌, true, List, [], length, Some, unwrap_or}
use Rattle.edi_calls.specs.Names.{Name, Table, find, names}
use Rattle.edi_meaning.specs.Store.{Store, Shape, shape, now}
use Rattle.edi_meaning.specs.Permitted as source
use Rattle.edi_meaning.specs.Step.{Process, Processes, Standing, ready, at_when, waiting}
use Rattle.edi_meaning.specs.Permitted.{is_running}
use Rattle.edi_meaning.specs.Laws.{IsWaiting}
use Rattle.edi_meaning.proofs.Dangling.{Coherent}
use Rattle.edi_meaning.proofs.Sound.{Each}
use Rattle.edi_target.specs.Mach as target
use Rattle.edi_target.specs.Mach.{Activity, Machine, is_first}
use Rattle.edi_target.proofs.segments.Families.{Sound}
use Rattle.edi_follows.specs.places.Coded.{Coded}
use Rattle.edi_follows.specs.places.Spots.{address, frames_end, bottom, Layout, Mirrors, Typed}
use Rattle.edi_follows.specs.places.Located.{IsAt}

abbrev pub no_process : Process
no_process = record { size = 0; forks = 0; work = []; standing = ready }

abbrev pub process_in : Table Process → Name → Process
process_in live p = unwrap_or (find live p) no_process

abbrev pub size_in : Table Process → Name → ℕ
size_in live p = (process_in live p).size

pub record Lives (live : Table Process) (p : Name) : Type 0 where
  pub process : Process
  pub found : find live p ≡ Some process

abbrev pub standing_of : Standing → target.Standing
standing_of ready = target.ready
standing_of (at_when cs position) = target.at_when
standing_of (waiting n) = target.waiting n

module _ (g : Coded) where
  -- the activity of a process between its steps, which its frames tell but for the program counter
  abbrev pub activity : (Name → ℕ) → Shape → Name → Process → ℕ → Activity
  activity first F p q pc = record {
    base = address first F (now F p);
    end = frames_end first F p;
    top = bottom g first F p;
    pc = pc;
    first = first p;
    last = first p + q.size;
    held = 0;
    forks = q.forks;
    standing = standing_of q.standing;
  }

  -- where this process stands
  pub record IsPlaced (first : Name → ℕ) (F : Shape) (m : List ℕ) (activities : Table Activity) (p : Name) (q : Process) : Type 0 where
    pub pc : ℕ
    pub found : find activities p ≡ Some (activity first F p q pc)
    pub at : IsAt g (is_first p) (first p) (F p) m q.standing q.work pc (length (F p) - 1)

  -- the words of the memory stand for the instances of the processes, and for their work
  pub record Words (first : Name → ℕ) (live : Table Process) (store : Store) (m : List ℕ) (activities : Table Activity) : Type 0 where
    pub layout : Layout g (Lives live) (IsWaiting live) first (size_in live) (shape store)
    pub mirrors : Mirrors g first (shape store) store m
    pub typed : Typed g (shape store) store
    pub long : length m ≡ 2 ^ 16
    pub each : (p : Name) (q : Process) → find live p ≡ Some q → IsPlaced first (shape store) m activities p q

  pub record Related (s : Processes) (t : Machine) : Type 0 where
    pub first : Name → ℕ
    pub words : Words first s.live s.world.store t.memory t.activities
    pub same_names : names t.activities ≡ names s.live
    pub system : t.system ≡ s.world.system.now
    pub turns : t.turns ≡ s.world.turns

-- what each side keeps by itself: of the meaning by edi_meaning, of the machine by edi_target/segments
pub record Kept (s : Processes) (t : Machine) : Type 0 where
  pub coherent : Coherent s
  pub sound : Sound t.activities

-- p is taken, and these are the others that may go on, each once
abbrev pub MayStep : Processes → Name → Type 0
MayStep s p = source.may_step s p ≡ true

abbrev pub Queue : Processes → List Name → Type 0
Queue s ps = Each (MayStep s) ps

-- the marks of both sides are the same, but for a process that goes on without a turn: the meaning takes the marks away at
-- each step, the machine at turns
abbrev pub MarksAgree : Processes → Machine → Name → List Name → Type 0
MarksAgree s t p marks = (t.marks ≡ marks) ⊎ ((marks ≡ []) × ((process_in s.live p).standing ≡ ready))
