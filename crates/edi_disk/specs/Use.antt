-- Words of contracts. The cached blocks, the one used longest ago first.
use Rattle.std.specs.Prelude.{◌≡◌, ℕ, Bool, false, nat_lt, nat_eq, not, if◌then◌else◌, Option, List, [], ◌∷◌, ◌++◌, length, filter, drop, slice_get, None, ⊤}
use Rattle.std.specs.List.{find, list_any}
use Rattle.edi_disk.specs.declared.cache.Slot.{Slot}

-- the cached block of that number, if there is one
abbrev pub slot_of : ℕ → List Slot → Option Slot
slot_of n slots = find (λ slot. nat_eq n slot.number) slots

-- the others
abbrev pub without_block : ℕ → List Slot → List Slot
without_block n slots = filter (λ slot. not (nat_eq n slot.number)) slots

-- without the first where there are 16
abbrev pub with_room : {A : Type 0} → List A → List A
with_room items = if nat_lt (length items) 16 then items else drop 1 items

-- a block as it is cached
abbrev pub cached_slot : ℕ → List ℕ → Bool → Slot
cached_slot n bytes unwritten = record { number = n; unwritten = unwritten; bytes = bytes }

-- a block that the drive has
abbrev pub settled_slot : Slot → Slot
settled_slot slot = cached_slot slot.number slot.bytes false

-- the number is among these numbers
abbrev pub is_listed : ℕ → List ℕ → Bool
is_listed n numbers = list_any (nat_eq n) numbers

-- no number stands twice
abbrev pub AreDifferent : List ℕ → Type 0
AreDifferent [] = ⊤
AreDifferent (n ∷ numbers) = (is_listed n numbers ≡ false) × AreDifferent numbers

-- the numbers of the cached blocks after a use of block n: it stands last, and the first is driven out where
-- 16 others were cached
abbrev pub after_use : ℕ → List ℕ → List ℕ
after_use n numbers = with_room (filter (λ other. not (nat_eq n other)) numbers) ++ n ∷ []

-- the first of 16 numbers
abbrev pub first_of_full : List ℕ → Option ℕ
first_of_full numbers = if nat_lt (length numbers) 16 then None else slice_get numbers 0

-- the block that a use of block n drives out, if it drives out one
abbrev pub driven_out : ℕ → List ℕ → Option ℕ
driven_out n numbers = if is_listed n numbers then None else first_of_full numbers
