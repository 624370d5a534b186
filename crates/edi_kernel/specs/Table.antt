-- Words of contracts. What the table of processes keeps of each slot.
use Rattle.std.specs.Prelude.{◌≡◌, ℕ, ◌+◌, ◌-◌, ◌<◌, ◌==◌, Bool, true, false, ◌&&◌, not, nat_eq, nat_le, nat_lt, if◌then◌else◌, List, [], length, replicate}
use Rattle.std.specs.Prelude.{slice_index_or, slice_set, Option, Some, None}
use Rattle.edi_machine.specs.declared.activity.Activity.{Activity}
use Rattle.edi_ring.specs.Lists.{list_at, home_of, appended, without, IsSound}
use Rattle.edi_kernel.specs.declared.table.Standing.{Standing}
use Rattle.edi_kernel.specs.declared.table.Standing.TheVariants as standing
use Rattle.edi_kernel.specs.declared.table.Process.{Process}
use Rattle.edi_kernel.specs.declared.table.Table.{Table}

-- what stands at a slot of which nothing is said
abbrev pub no_process : Process
no_process = record {
  parent = 0;
  standing = standing.Ready;
  activity = record { base = 0; end = 0; top = 0; pc = 0; segment = record { first = 0; last = 0 }; held = 0 };
}

-- the process at a slot
abbrev pub process_at : Table → ℕ → Process
process_at t slot = slice_index_or t.processes slot no_process

-- whether the process at a slot is marked
abbrev pub marked_at : Table → ℕ → Bool
marked_at t slot = slice_index_or t.marked slot false

-- the slots of the ready processes in their order, and the free slots
abbrev pub ready_slots : Table → List ℕ
ready_slots t = list_at t.lists 0

abbrev pub free_slots : Table → List ℕ
free_slots t = list_at t.lists 1

-- the home of a free slot
abbrev pub is_free_home : Option ℕ → Bool
is_free_home None = false
is_free_home (Some list) = nat_eq list 1

-- whether a process lives at a slot
abbrev pub is_live : Table → ℕ → Bool
is_live t slot = nat_lt slot 32 && not (is_free_home (home_of t.lists slot))

-- how many processes live
abbrev pub live_in : Table → ℕ
live_in t = 32 - length (free_slots t)

abbrev pub is_waiting : Standing → Bool
is_waiting (standing.Waiting n) = true
is_waiting standing = false

-- no slot is marked
abbrev pub no_marks : List Bool
no_marks = replicate 32 false

-- the number of marked slots after one more is marked
abbrev pub marks_with : Table → ℕ → ℕ
marks_with t slot = if marked_at t slot then t.marks else t.marks + 1

-- the table with this process at a slot
abbrev pub with_process : Table → ℕ → Process → Table
with_process t slot process = record t { processes = slice_set t.processes slot process }

abbrev pub unmarked : Table → Table
unmarked t = record t { marked = no_marks; marks = 0 }

abbrev pub marked_with : Table → ℕ → Table
marked_with t slot = record t { marked = slice_set t.marked slot true; marks = marks_with t slot }

-- ---- a process

-- the activity with which a process goes on that is taken: in its critical phase, where it stands at its `when`
abbrev pub resumed_as : Standing → Activity → Activity
resumed_as standing.AtWhen a = record a { held = 1 }
resumed_as standing a = a

abbrev pub resumed : Process → Activity
resumed process = resumed_as process.standing process.activity

abbrev pub at_its_when : Process → Activity → Process
at_its_when process a = record process { standing = standing.AtWhen; activity = a }

abbrev pub waiting_for : ℕ → Process → Activity → Process
waiting_for children process a = record process { standing = standing.Waiting children; activity = a }

abbrev pub going_by : Process → Activity → Process
going_by process a = record process { standing = standing.Ready; activity = a }

abbrev pub beginning : (parent : ℕ) → Activity → Process
beginning parent a = record { parent = parent; standing = standing.Ready; activity = a }

-- ---- changes of the table

-- this process is at the slot, which is the last one in the list
pub record PutsProcess (list slot : ℕ) (process : Process) (old new : Table) : Type 0 where
  pub processes : new.processes ≡ slice_set old.processes slot process
  pub lists : new.lists ≡ appended old.lists list slot
  pub homes : (q : ℕ) → home_of new.lists q ≡ (if q == slot then Some list else home_of old.lists q)
  pub sound : IsSound 32 2 new.lists
  pub marked : new.marked ≡ old.marked
  pub marks : new.marks ≡ old.marks

-- the slot is in no list
pub record Withdraws (slot : ℕ) (old new : Table) : Type 0 where
  pub processes : new.processes ≡ old.processes
  pub lists : new.lists ≡ without old.lists slot
  pub homes : (q : ℕ) → home_of new.lists q ≡ (if q == slot then None else home_of old.lists q)
  pub sound : IsSound 32 2 new.lists
  pub marked : new.marked ≡ old.marked
  pub marks : new.marks ≡ old.marks

-- a child of this parent begins at a slot that was free, and is the last of the ready ones
pub record Added (parent : ℕ) (a : Activity) (old new : Table) : Type 0 where
  pub slot : ℕ
  pub inside : slot < 32
  pub between : Table
  pub was : home_of old.lists slot ≡ Some 1
  pub taken : Withdraws slot old between
  pub put : PutsProcess 0 slot (beginning parent a) between new

-- a process waits for one child less, and is the last of the ready ones where none is left
abbrev pub NotifiesOne : (is_last : Bool) → (n slot : ℕ) → (old new : Table) → Type 0
NotifiesOne true n slot old new = PutsProcess 0 slot (record (process_at old slot) { standing = standing.Ready }) old new
NotifiesOne false n slot old new =
    new ≡ with_process old slot (record (process_at old slot) { standing = standing.Waiting (n - 1) })

abbrev pub Notifies : Standing → (slot : ℕ) → (old new : Table) → Type 0
Notifies (standing.Waiting n) slot old new = NotifiesOne (nat_le n 1) n slot old new
Notifies standing slot old new = new ≡ old

-- the slot of a process that has ended is free, and its parent has been notified
pub record Removed (slot : ℕ) (old new : Table) : Type 0 where
  pub between : Table
  pub put : PutsProcess 1 slot (process_at old slot) old between
  pub notified : let parent = (process_at old slot).parent in Notifies (process_at between parent).standing parent between new

-- ---- the first process

-- at the start each slot but the first is free
abbrev pub first_home : ℕ → Option ℕ
first_home q = if nat_lt 0 q && nat_lt q 32 then Some 1 else None

pub record FirstAlone (t : Table) (a : Activity) : Type 0 where
  pub processes : t.processes ≡ replicate 32 (beginning 0 a)
  pub homes : (q : ℕ) → home_of t.lists q ≡ first_home q
  pub ready : ready_slots t ≡ []
  pub free : length (free_slots t) ≡ 31
  pub sound : IsSound 32 2 t.lists
  pub marked : t.marked ≡ no_marks
  pub marks : t.marks ≡ 0
