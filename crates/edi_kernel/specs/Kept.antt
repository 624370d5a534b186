-- Words of contracts. What is kept of a process between two stints, and when a kernel has it.
use Rattle.std.specs.Prelude.{◌≡◌, ◌⊎◌, ℕ, zero, suc, ◌+◌, ◌-◌, ◌<◌, ◌≤◌, ◌==◌, Bool, true, false, ◌&&◌, nat_le, if◌then◌else◌, List, [], ◌++◌, ◌^◌}
use Rattle.std.specs.Prelude.{length, Option, Some, None, slice_get, slice_set}
use Rattle.edi_calls.specs.Names.{Name, find}
use Rattle.edi_calls.specs.Ready.{has}
use Rattle.edi_calls.specs.State.{State}
use Rattle.edi_store.specs.Memory.{words_at}
use Rattle.edi_target.specs.Memory.{word}
use Rattle.edi_target.specs.Op.{address_of_words}
use Rattle.edi_target.specs.Mach as mach
use Rattle.edi_target.specs.Mach.{Machine}
use Rattle.edi_ring.specs.Lists.{home_of, IsSound}
use Rattle.edi_machine.specs.declared.activity.Activity.{Activity}
use Rattle.edi_machine.specs.Activities.{IsOrdered}
use Rattle.edi_kernel.specs.declared.frames.Below.{Below}
use Rattle.edi_kernel.specs.declared.kept.Kept.{Kept}
use Rattle.edi_kernel.specs.declared.table.Process.{Process}
use Rattle.edi_kernel.specs.declared.table.Table.{Table}
use Rattle.edi_kernel.specs.declared.state.KernelState.{KernelState}
use Rattle.edi_kernel.specs.Table.{PutsProcess, Withdraws, first_home, is_live, is_waiting, no_marks, process_at, ready_slots}
use Rattle.edi_kernel.specs.TableIsMachine.{Once}
use Rattle.edi_kernel.specs.Kernel.{IsKernel, Holds}

-- ---- the words that count between two stints: of each frame its links and variables, since then no operands are left over

-- A link of the frame at `base` leads to a frame below it, at `x` up to `t`, in the segment from `first`. That of the lowest frame
-- leads to none: it is 0, or the base of a frame of the parent, below the segment. So it is known where the frames end, whatever
-- stands in the memory.
abbrev pub leads_down : (first base x t : ℕ) → Bool
leads_down first base x t = nat_le first x && nat_le (x + 5) t && nat_le t base

-- the frame below the one at `base`, and where the code goes on in it
abbrev pub below_of : List ℕ → (first base : ℕ) → Option Below
below_of m first base =
    if leads_down first base (word m (base + 1)) (word m (base + 4))
    then Some (record { base = word m (base + 1); top = word m (base + 4); back = address_of_words (word m (base + 2)) (word m (base + 3)) })
    else None

-- the words of the frame at `base` up to `top`, and then those of at most so many frames below it
abbrev pub kept_words : ℕ → List ℕ → (first base top : ℕ) → List ℕ
kept_words zero m first base top = []
kept_words (suc n) m first base top =
    words_at m base (top - base)
    ++ (if leads_down first base (word m (base + 1)) (word m (base + 4)) then kept_words n m first (word m (base + 1)) (word m (base + 4)) else [])

-- the words that count of an activity: it has fewer frames than words
abbrev pub kept_of : List ℕ → (first base top : ℕ) → List ℕ
kept_of m first base top = kept_words (top - first) m first base top

abbrev pub words_of : List ℕ → Activity → List ℕ
words_of m a = kept_of m a.segment.first a.base a.top

-- two memories agree at each address but those from `first` up to `top`
abbrev pub AgreeOutside : (first top : ℕ) → (old new : List ℕ) → Type 0
AgreeOutside first top old new = (at : ℕ) → (at < first) ⊎ (top ≤ at) → word new at ≡ word old at

-- ---- a process that is kept

abbrev pub activity_of : Kept → Activity
activity_of kept = record {
  base = kept.base;
  end = kept.end;
  top = kept.top;
  pc = kept.pc;
  segment = record { first = kept.first; last = kept.last };
  held = kept.held;
}

abbrev pub process_of : Kept → Process
process_of kept = record { parent = kept.parent; standing = kept.standing; activity = activity_of kept }

-- whether the process at a slot is ready
abbrev pub is_ready_home : Option ℕ → Bool
is_ready_home None = false
is_ready_home (Some list) = list == 0

abbrev pub is_ready : Table → ℕ → Bool
is_ready t slot = is_ready_home (home_of t.lists slot)

-- what is kept is what a process is that may live: its words are those that some memory has
pub record IsWhole (kept : Kept) : Type 0 where
  pub inside : kept.slot < 32
  pub parent : kept.parent < 32
  pub ordered : IsOrdered (activity_of kept)
  pub going : kept.ready ≡ true → is_waiting kept.standing ≡ false
  pub memory : List ℕ
  pub long : length memory ≡ 2 ^ 16
  pub words : kept.words.items ≡ words_of memory (activity_of kept)

-- the kernel has this process, but for whether it is ready
pub record HasProcess (k : KernelState) (kept : Kept) : Type 0 where
  pub process : process_at k.table kept.slot ≡ process_of kept
  pub words : words_of k.store (activity_of kept) ≡ kept.words.items

-- what is kept is the process at its slot in this kernel
pub record IsKeptOf (k : KernelState) (kept : Kept) : Type 0 where
  pub lives : is_live k.table kept.slot ≡ true
  pub has : HasProcess k kept
  pub ready : kept.ready ≡ is_ready k.table kept.slot

-- ---- a kernel to which processes are put back

-- the process lives at this slot, which was free or is the first one, and is in no list
pub record Admits (slot : ℕ) (process : Process) (old new : Table) : Type 0 where
  pub processes : new.processes ≡ slice_set old.processes slot process
  pub homes : (q : ℕ) → home_of new.lists q ≡ (if q == slot then None else home_of old.lists q)
  pub ready : ready_slots new ≡ ready_slots old
  pub sound : IsSound 32 2 new.lists
  pub marked : new.marked ≡ old.marked
  pub marks : new.marks ≡ old.marks

-- the kernel is as if it had run nothing, but for its words: no process has been put back, and the first one stands for one
pub record IsCleared (old new : KernelState) : Type 0 where
  pub homes : (q : ℕ) → home_of new.table.lists q ≡ first_home q
  pub ready : ready_slots new.table ≡ []
  pub marked : new.table.marked ≡ no_marks
  pub store : new.store ≡ old.store
  pub taken : new.taken ≡ None
  pub entering : new.entering ≡ false
  pub arrived : new.arrived ≡ None
  pub failed : new.failed ≡ false
  pub used : new.used ≡ 0

-- all but the table and the words are as before
abbrev pub IsSameRest : (old new : KernelState) → Type 0
IsSameRest old new = new ≡ record old { table = new.table; store = new.store }

-- the process is put back, and is in no list; other processes are as before, and so are words outside its frames
pub record PutsBack (kept : Kept) (old new : KernelState) : Type 0 where
  pub has : HasProcess new kept
  pub others : (slot : ℕ) → (slot ≡ kept.slot → ⊥) → process_at new.table slot ≡ process_at old.table slot
  pub homes : (q : ℕ) → home_of new.table.lists q ≡ (if q == kept.slot then None else home_of old.table.lists q)
  pub ready : ready_slots new.table ≡ ready_slots old.table
  pub marked : new.table.marked ≡ old.table.marked
  pub outside : AgreeOutside kept.first kept.top old.store new.store
  pub was_long : length old.store ≡ 2 ^ 16
  pub long : length new.store ≡ 2 ^ 16
  pub rest : IsSameRest old new

-- the process at this slot is the last of the ready ones; all else is as before
pub record LinesUp (slot : ℕ) (old new : KernelState) : Type 0 where
  pub puts : PutsProcess 0 slot (process_at old.table slot) old.table new.table
  pub rest : new ≡ record old { table = new.table }

-- the process at this index of the ready list is taken, and is in no list; all else is as before
pub record TakesAt (index : ℕ) (old new : KernelState) : Type 0 where
  pub slot : ℕ
  pub at : slice_get (ready_slots old.table) index ≡ Some slot
  pub withdrawn : Withdraws slot old.table new.table
  pub rest : new ≡ record old { table = new.table; taken = Some slot }

-- A number that tells whether a machine has marks: it is 0 where none is marked, and not where one of those that are ready is.
pub record IsMarkCount (count : ℕ) (marks ready : List Name) : Type 0 where
  pub none : marks ≡ [] → count ≡ 0
  pub some : (p : Name) → has ready p ≡ true → has marks p ≡ true → 0 < count

-- ---- a kernel that has the same processes stands for the same machine

-- The second kernel has the live processes of the first at the same slots, with the same words that count, and the same ones are
-- ready. None is marked, and none is taken.
pub record SameProcesses (k other : KernelState) : Type 0 where
  pub lives : (slot : ℕ) → is_live other.table slot ≡ is_live k.table slot
  pub process : (slot : ℕ) → is_live k.table slot ≡ true → process_at other.table slot ≡ process_at k.table slot
  pub words : (slot : ℕ) → is_live k.table slot ≡ true →
      words_of other.store (process_at k.table slot).activity ≡ words_of k.store (process_at k.table slot).activity
  pub ready : (slot : ℕ) → is_ready other.table slot ≡ is_ready k.table slot
  pub unmarked : other.table.marked ≡ no_marks
  pub taken : other.taken ≡ None

-- the machine with another memory, without marks, and with other turns and another system
abbrev pub restarted : Machine → (memory : List ℕ) → (turns : ℕ) → State → Machine
restarted m memory turns system = record { memory = memory; activities = m.activities; marks = []; turns = turns; system = system }

-- two memories have the same words that count of each process of a machine
abbrev pub SameKept : Machine → (memory other : List ℕ) → Type 0
SameKept m memory other =
    (p : Name) (a : mach.Activity) → find m.activities p ≡ Some a → kept_of other a.first a.base a.top ≡ kept_of memory a.first a.base a.top

-- the kernel is this machine again, where the same ones are ready in some order, each once
pub record HoldsAgain (k : KernelState) (m : Machine) (names : List Name) (turns : ℕ) (system : State) : Type 0 where
  pub order : List Name
  pub holds : Holds k (restarted m k.store turns system) None order
  pub members : (p : Name) → has order p ≡ has names p
  pub once : Once order
  pub words : SameKept m m.memory k.store

-- THE LAW of what is put back: whatever turns are given, and whatever the system is then
abbrev pub StandsAgain : Type 0
StandsAgain =
    (k other : KernelState) (m : Machine) (names : List Name) (turns : ℕ) (system : State) → IsKernel k → IsKernel other → Holds k m None names
    → SameProcesses k other → HoldsAgain other m names turns system
