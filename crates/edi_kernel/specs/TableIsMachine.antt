-- Words of contracts. That the table of the kernel is that of the machine.
use Rattle.std.specs.Prelude.{◌≡◌, ℕ, zero, suc, ◌+◌, ◌<◌, ◌≤◌, Bool, true, false, ◌&&◌, nat_eq, nat_lt, if◌then◌else◌, List, [], ◌∷◌, length, None, Some}
use Rattle.edi_calls.specs.Names.{Name, find, names}
use Rattle.edi_calls.specs.Ready.{child, has}
use Rattle.edi_target.specs.Mach as mach
use Rattle.edi_target.specs.Mach.{Machine, activity_of}
use Rattle.edi_ring.specs.Lists.{home_of, IsSound}
use Rattle.edi_machine.specs.Activities.{IsOrdered, local_of}
use Rattle.edi_kernel.specs.declared.table.Standing.{Standing}
use Rattle.edi_kernel.specs.declared.table.Standing.TheVariants as standing
use Rattle.edi_kernel.specs.declared.table.Process.{Process}
use Rattle.edi_kernel.specs.declared.table.Table.{Table}
use Rattle.edi_kernel.specs.Table.{process_at, marked_at, no_marks, ready_slots, free_slots, is_live, is_free_home, is_waiting}

-- ---- what every table keeps

pub record IsTable (t : Table) : Type 0 where
  pub sound : IsSound 32 2 t.lists
  pub wide : length t.processes ≡ 32
  pub marked_wide : length t.marked ≡ 32
  pub parents : (slot : ℕ) → (process_at t slot).parent < 32
  pub ordered : (slot : ℕ) → slot < 32 → IsOrdered (process_at t slot).activity
  -- where nobody is counted as marked, no slot is
  pub clear : t.marks ≡ 0 → t.marked ≡ no_marks
  -- the first slot is never free
  pub root : is_free_home (home_of t.lists 0) ≡ false
  -- who waits is in no list
  pub waiting : (slot : ℕ) → is_waiting (process_at t slot).standing ≡ true → home_of t.lists slot ≡ None

-- how many of these slots are marked
abbrev pub marked_among : Table → List ℕ → ℕ
marked_among t [] = 0
marked_among t (slot ∷ slots) = if marked_at t slot then suc (marked_among t slots) else marked_among t slots

-- the process at a slot is taken: it is in no list, and does not wait; the marks are counted
pub record IsTaken (t : Table) (slot : ℕ) : Type 0 where
  pub inside : slot < 32
  pub homeless : home_of t.lists slot ≡ None
  pub going : is_waiting (process_at t slot).standing ≡ false
  pub counted : t.marks ≡ marked_among t (slot ∷ ready_slots t)

-- no process is taken
pub record IsBetween (t : Table) : Type 0 where
  pub counted : t.marks ≡ marked_among t (ready_slots t)

-- ---- names

-- of each slot the name of its process, and how often that has forked; the kernel keeps neither
pub record Naming : Type 0 where
  pub name : ℕ → Name
  pub forks : ℕ → ℕ

abbrev pub standing_of : Standing → mach.Standing
standing_of standing.Ready = mach.ready
standing_of standing.AtWhen = mach.at_when
standing_of (standing.Waiting n) = mach.waiting n

-- the activity of a process that has forked so often
abbrev pub entry_of : Process → ℕ → mach.Activity
entry_of process forks = activity_of (local_of [] process.activity) forks (standing_of process.standing)

-- each name stands once
abbrev pub Once : List Name → Type 0
Once [] = Unit {0}
Once (p ∷ ps) = (has ps p ≡ false) × Once ps

-- ---- parents

-- how many of the slots below n pass a test
abbrev pub slots_where : (ℕ → Bool) → ℕ → ℕ
slots_where test zero = 0
slots_where test (suc n) = if test n then suc (slots_where test n) else slots_where test n

abbrev pub is_child_of : Table → ℕ → ℕ → Bool
is_child_of t parent slot = nat_lt 0 slot && is_live t slot && nat_eq (process_at t slot).parent parent

-- the number of live children of the process at a slot
abbrev pub children_of : Table → ℕ → ℕ
children_of t parent = slots_where (is_child_of t parent) 32

-- a process that waits has at most as many live children as it waits for, and any other has none
abbrev pub Awaits : Standing → ℕ → Type 0
Awaits (standing.Waiting n) children = children ≤ n
Awaits standing children = children ≡ 0

-- a process other than the first is a child of a live one, of a fork that has been
pub record Born (t : Table) (n : Naming) (slot : ℕ) : Type 0 where
  pub lives : is_live t (process_at t slot).parent ≡ true
  pub fork : ℕ
  pub number : ℕ
  pub named : n.name slot ≡ child (n.name (process_at t slot).parent) fork number
  pub earlier : fork ≤ n.forks (process_at t slot).parent

-- ---- the table and the machine

-- the live processes of the table are those of the machine, by their names
pub record TableIsMachine (t : Table) (n : Naming) (m : Machine) : Type 0 where
  pub found : (slot : ℕ) → is_live t slot ≡ true → find m.activities (n.name slot) ≡ Some (entry_of (process_at t slot) (n.forks slot))
  pub all : (q : Name) → has (names m.activities) q ≡ true → (slot : ℕ) × (is_live t slot ≡ true) × (q ≡ n.name slot)
  pub apart : (slot other : ℕ) → is_live t slot ≡ true → is_live t other ≡ true → n.name slot ≡ n.name other → slot ≡ other
  pub once : Once (names m.activities)
  pub count : length m.activities + length (free_slots t) ≡ 32
  pub marks : (slot : ℕ) → is_live t slot ≡ true → has m.marks (n.name slot) ≡ marked_at t slot
  pub root : n.name 0 ≡ []
  pub born : (slot : ℕ) → is_live t slot ≡ true → 0 < slot → Born t n slot
  pub awaits : (slot : ℕ) → is_live t slot ≡ true → Awaits (process_at t slot).standing (children_of t slot)
