-- Words of contracts. What is kept of the processes of a kernel, by their slots, and the names that they have by it.
use Rattle.std.specs.Prelude.{◌≡◌, ℕ, zero, suc, ◌+◌, ◌-◌, ◌^◌, ◌<◌, ◌≤◌, min, ◌&&◌, Bool, true, false, if◌then◌else◌, List, [], ◌∷◌, ◌++◌, length}
use Rattle.std.specs.Prelude.{slice_get, slice_index_or, Option, Some}
use Rattle.edi_calls.specs.Names.{Name}
use Rattle.edi_calls.specs.Ready.{child}
use Rattle.edi_kernel.specs.declared.ends.StintEnd.{StintEnd}
use Rattle.edi_kernel.specs.declared.ends.StintEnd.TheVariants as stint_end
use Rattle.edi_kernel.specs.declared.table.Standing.{Standing}
use Rattle.edi_kernel.specs.declared.table.Standing.TheVariants as standing
use Rattle.edi_kernel.specs.declared.table.Table.{Table}
use Rattle.edi_kernel.specs.declared.state.KernelState.{KernelState}
use Rattle.edi_kernel.specs.Table.{is_live, process_at, ready_slots}
use Rattle.edi_kernel.specs.TableIsMachine.{Naming}
use Rattle.edi_waits.specs.Places.{place}
use Rattle.edi_waits.specs.declared.births.Birth.{Birth}
use Rattle.edi_waits.specs.declared.births.Names.{Names}
use Rattle.edi_waits.specs.Waits.{Waiting}

-- that of the first process
abbrev pub no_birth : Birth
no_birth = record { fork = 0; number = 0; depth = 0; forks = 0 }

abbrev pub birth_at : Names → ℕ → Birth
birth_at names slot = slice_index_or names.births slot no_birth

abbrev pub forks_at : Names → ℕ → ℕ
forks_at names slot = (birth_at names slot).forks

abbrev pub depth_at : Names → ℕ → ℕ
depth_at names slot = (birth_at names slot).depth

-- ---- names

-- the name of a child of this name
abbrev pub named : Name → Birth → Name
named parent birth = child parent birth.fork birth.number

-- the name of the process at a slot that lies so deep: that of its parent, with one branch more
abbrev pub name_from : Names → Table → (depth slot : ℕ) → Name
name_from names t zero slot = []
name_from names t (suc depth) slot = named (name_from names t depth (process_at t slot).parent) (birth_at names slot)

abbrev pub name_at : Names → Table → ℕ → Name
name_at names t slot = name_from names t (depth_at names slot) slot

-- The live processes are such children, lie so deep, and have forked so often: at most as deep and as often as there are turns.
pub record AreNames (names : Names) (n : Naming) (t : Table) (used : ℕ) : Type 0 where
  pub wide : length names.births ≡ 32
  pub ends : (slot : ℕ) → is_live t slot ≡ true → 0 < depth_at names slot → (p : Name) × (n.name slot ≡ named p (birth_at names slot))
  pub deep : (slot : ℕ) → is_live t slot ≡ true → length (n.name slot) ≡ depth_at names slot + depth_at names slot
  pub forks : (slot : ℕ) → is_live t slot ≡ true → forks_at names slot ≡ n.forks slot
  pub few : (slot : ℕ) → is_live t slot ≡ true → forks_at names slot ≤ used
  pub shallow : (slot : ℕ) → is_live t slot ≡ true → depth_at names slot ≤ used

abbrev pub is_at_when : Standing → Bool
is_at_when standing.Ready = false
is_at_when standing.AtWhen = true
is_at_when (standing.Waiting n) = false

-- what is told of the process at a slot
abbrev pub waiting_at : List ℕ → (memory : List ℕ) → Names → Table → ℕ → Waiting
waiting_at words memory names t slot = record {
  process = name_at names t slot;
  lines = let a = (process_at t slot).activity in place words memory a.segment.first a.base a.pc;
}

-- those at the slots below n that wait
abbrev pub waiting_below : (words : List ℕ) → KernelState → Names → ℕ → List Waiting
waiting_below words k names zero = []
waiting_below words k names (suc n) =
    waiting_below words k names n
    ++ (if is_live k.table n && is_at_when (process_at k.table n).standing then waiting_at words k.store names k.table n ∷ [] else [])

-- ---- a fork

-- at this slot stands who is ready at an index from this one on
abbrev pub IsBorn : (from : ℕ) → (ready : List ℕ) → (slot : ℕ) → Type 0
IsBorn from ready slot = (index : ℕ) × (from ≤ index) × (slice_get ready index ≡ Some slot)

-- the number that follows, or the same where there is none
abbrev pub next_of : ℕ → ℕ
next_of n = min (n + 1) (2 ^ 32 - 1)

-- the child of this number, of the next fork of this process
abbrev pub child_of : Birth → (number : ℕ) → Birth
child_of parent number = record { fork = next_of parent.forks; number = number; depth = next_of parent.depth; forks = 0 }

-- a process that has forked once more
abbrev pub forked_more : Birth → Birth
forked_more birth = record birth { forks = next_of birth.forks }

-- who is ready at this index is told from the others by its slot
abbrev pub IsAlone : (ready : List ℕ) → (index slot : ℕ) → Type 0
IsAlone ready index slot = (j : ℕ) → slice_get ready j ≡ Some slot → j ≡ index

-- Who is ready from this index on, below the index `to`, is a child of the next fork of the process at this slot, by its number; the others are as
-- before.
pub record Bears (slot from to : ℕ) (ready : List ℕ) (old new : Names) : Type 0 where
  pub wide : length new.births ≡ 32
  pub own : birth_at new slot ≡ birth_at old slot
  pub stays : (i : ℕ) → (IsBorn from ready i → ⊥) → birth_at new i ≡ birth_at old i
  pub born : (k i : ℕ) → from ≤ k → k < to → slice_get ready k ≡ Some i → i < 32 → (i ≡ slot → ⊥) → IsAlone ready k i →
      birth_at new i ≡ child_of (birth_at old slot) (k - from)

-- The process at this slot has forked, and all that are ready from this index on are its children.
pub record HasForked (slot from : ℕ) (ready : List ℕ) (old new : Names) : Type 0 where
  pub wide : length new.births ≡ 32
  pub own : birth_at new slot ≡ forked_more (birth_at old slot)
  pub stays : (i : ℕ) → (i ≡ slot → ⊥) → (IsBorn from ready i → ⊥) → birth_at new i ≡ birth_at old i
  pub born : (k i : ℕ) → from ≤ k → slice_get ready k ≡ Some i → i < 32 → (i ≡ slot → ⊥) → IsAlone ready k i →
      birth_at new i ≡ child_of (birth_at old slot) (k - from)

-- after a stint that ended so, of the process at this slot, before which so many were ready
abbrev pub FollowsNames : StintEnd → (slot : Option ℕ) → (before : ℕ) → KernelState → (old new : Names) → Type 0
FollowsNames (stint_end.Forked used) (Some slot) before k old new = HasForked slot before (ready_slots k.table) old new
FollowsNames end slot before k old new = new ≡ old

-- who lives afterwards lived before, at the same slot
abbrev pub LivesBefore : (old new : Table) → Type 0
LivesBefore old new = (i : ℕ) → is_live new i ≡ true → is_live old i ≡ true
