-- Words of contracts. Processes that are put back into a kernel by their numbers among those that are kept.
use Rattle.std.specs.Prelude.{◌≡◌, ◌⊎◌, ℕ, ◌<◌, ◌≤◌, ◌^◌, false, List, [], length, slice_get, Some, None, take}
use Rattle.edi_ring.specs.Lists.{home_of}
use Rattle.edi_kernel.specs.declared.kept.Kept.{Kept}
use Rattle.edi_kernel.specs.declared.state.KernelState.{KernelState}
use Rattle.edi_kernel.specs.Table.{first_home, is_waiting, no_marks, process_at, ready_slots}
use Rattle.edi_kernel.specs.Kernel.{IsKernel}
use Rattle.edi_kernel.specs.Kept.{IsWhole, activity_of, process_of, words_of}

module _ (kept : List Kept) (numbers : List ℕ) where
  -- the process at this index of the numbers
  pub record IsPart (index : ℕ) (part : Kept) : Type 0 where
    pub number : ℕ
    pub at : slice_get numbers index ≡ Some number
    pub is : slice_get kept number ≡ Some part

  -- each number is that of a process, and no two have one slot
  pub record AreProcesses : Type 0 where
    pub there : (index number : ℕ) → slice_get numbers index ≡ Some number → number < length kept
    pub whole : (index : ℕ) (part : Kept) → IsPart index part → IsWhole part
    pub distinct : (i j : ℕ) (a b : Kept) → IsPart i a → IsPart j b → a.slot ≡ b.slot → i ≡ j

  -- the frames of two of them have no word in common
  abbrev pub AreApart : Type 0
  AreApart = (i j : ℕ) (a b : Kept) → IsPart i a → IsPart j b → (i ≡ j → ⊥) → (a.top ≤ b.first) ⊎ (b.top ≤ a.first)

  -- no process has been put back
  pub record IsEmpty (k : KernelState) : Type 0 where
    pub homes : (q : ℕ) → home_of k.table.lists q ≡ first_home q
    pub ready : ready_slots k.table ≡ []
    pub marked : k.table.marked ≡ no_marks
    pub taken : k.taken ≡ None

  -- the first n of them have been put back, and no other
  pub record AreBack (n : ℕ) (k : KernelState) : Type 0 where
    pub here : (index : ℕ) (part : Kept) → index < n → IsPart index part → home_of k.table.lists part.slot ≡ None
    pub there : (q : ℕ) → ((index : ℕ) (part : Kept) → index < n → IsPart index part → part.slot ≡ q → ⊥) → home_of k.table.lists q ≡ first_home q
    pub process : (index : ℕ) (part : Kept) → index < n → IsPart index part → process_at k.table part.slot ≡ process_of part
    pub words : AreApart → (index : ℕ) (part : Kept) → index < n → IsPart index part → words_of k.store (activity_of part) ≡ part.words.items
    pub ready : ready_slots k.table ≡ []
    pub marked : k.table.marked ≡ no_marks
    pub taken : k.taken ≡ None
    pub long : 0 < n → length k.store ≡ 2 ^ 16

-- all but the table and the words is as before
abbrev pub IsSameRest : (old new : KernelState) → Type 0
IsSameRest old new = new ≡ record old { table = new.table; store = new.store }

-- ---- those that are ready

-- these processes may line up: they are in no list, and do not wait
pub record MayLineUp (slots : List ℕ) (k : KernelState) : Type 0 where
  pub inside : (index slot : ℕ) → slice_get slots index ≡ Some slot → slot < 32
  pub homeless : (index slot : ℕ) → slice_get slots index ≡ Some slot → home_of k.table.lists slot ≡ None
  pub going : (index slot : ℕ) → slice_get slots index ≡ Some slot → is_waiting (process_at k.table slot).standing ≡ false
  pub distinct : (i j slot : ℕ) → slice_get slots i ≡ Some slot → slice_get slots j ≡ Some slot → i ≡ j
  pub ready : ready_slots k.table ≡ []
  pub marked : k.table.marked ≡ no_marks
  pub taken : k.taken ≡ None

-- the first n of them are the ready ones, in their order; all else is as before
pub record AreLinedUp (slots : List ℕ) (n : ℕ) (old k : KernelState) : Type 0 where
  pub kernel : IsKernel k
  pub ready : ready_slots k.table ≡ take n slots
  pub process : (q : ℕ) → process_at k.table q ≡ process_at old.table q
  pub here : (index slot : ℕ) → index < n → slice_get slots index ≡ Some slot → home_of k.table.lists slot ≡ Some 0
  pub there : (q : ℕ) → ((index : ℕ) → index < n → slice_get slots index ≡ Some q → ⊥) → home_of k.table.lists q ≡ home_of old.table.lists q
  pub marked : k.table.marked ≡ old.table.marked
  pub rest : k ≡ record old { table = k.table }
