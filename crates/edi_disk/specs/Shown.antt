-- Words of contracts. What a disk shows: the drive's blocks with the cached ones over them.
use Rattle.std.specs.Prelude.{◌≡◌, ℕ, ◌<◌, Bool, true, false, not, Option, Some, List, [], ◌∷◌, map, slice_get, slice_set}
use Rattle.std.specs.List.{list_all}
use Rattle.std.specs.Option.{option_map, ForSome}
use Rattle.edi_disk.specs.Use.{slot_of, AreDifferent, driven_out}
use Rattle.edi_disk.specs.declared.cache.Slot.{Slot}
use Rattle.edi_disk.specs.declared.disk.Disk.{Disk}

-- the blocks with the cached ones in their places
abbrev pub over : List (List ℕ) → List Slot → List (List ℕ)
over blocks [] = blocks
over blocks (slot ∷ slots) = slice_set (over blocks slots) slot.number slot.bytes

-- the numbers of cached blocks
abbrev pub numbers_of : List Slot → List ℕ
numbers_of slots = map (λ (slot : Slot). slot.number) slots

-- the cached blocks are different ones of the drive's, and one that is written is as the drive has it
pub record IsBacked {D : Type 0} (contents : D → Option (List (List ℕ))) (count : D → ℕ) (drive : D) (slots : List Slot) : Type 0 where
  pub different : AreDifferent (numbers_of slots)
  pub in_range : (n : ℕ) (slot : Slot) → slot_of n slots ≡ Some slot → n < count drive
  pub written : ForSome (contents drive) (λ blocks. (n : ℕ) (slot : Slot) → slot_of n slots ≡ Some slot → slot.unwritten ≡ false
      → slice_get blocks n ≡ Some slot.bytes)

-- the drive's blocks with the cached ones over them, where they are told
abbrev pub shown_by : {D : Type 0} → (D → Option (List (List ℕ))) → D → List Slot → Option (List (List ℕ))
shown_by contents drive slots = option_map (λ blocks. over blocks slots) (contents drive)

-- the drive of a disk, and the reference to it
abbrev pub drive_of : {D : Type 0} → Disk D → D
drive_of disk = disk.drive.now

abbrev pub reference_of : {D : Type 0} → Disk D → ℕ
reference_of disk = disk.drive.ghost_name

-- the blocks that the disk shows, where the drive tells its own
abbrev pub shown : {D : Type 0} → (D → Option (List (List ℕ))) → Disk D → Option (List (List ℕ))
shown contents disk = shown_by contents (drive_of disk) disk.cache

-- the numbers of the cached blocks, the one used longest ago first
abbrev pub numbers_cached : {D : Type 0} → Disk D → List ℕ
numbers_cached disk = numbers_of disk.cache

-- the disk may be called
abbrev pub IsWorking : {D : Type 0} → (D → Option (List (List ℕ))) → (D → ℕ) → Disk D → Type 0
IsWorking contents count disk = IsBacked contents count (drive_of disk) disk.cache

-- ---- what is cached, whatever the drive tells

-- the bytes of a block as they are cached, if it is
abbrev pub cached_in : ℕ → List Slot → Option (List ℕ)
cached_in n slots = option_map (λ (slot : Slot). slot.bytes) (slot_of n slots)

abbrev pub cached : {D : Type 0} → ℕ → Disk D → Option (List ℕ)
cached n disk = cached_in n disk.cache

-- after a use of a block it is cached with these bytes, and every other that is not driven out as before
pub record CachesIn (n : ℕ) (bytes : List ℕ) (before after : List Slot) : Type 0 where
  pub there : cached_in n after ≡ Some bytes
  pub others : (m : ℕ) → (m ≡ n → ⊥) → (driven_out n (numbers_of before) ≡ Some m → ⊥) → cached_in m after ≡ cached_in m before

abbrev pub Caches : {D : Type 0} → (n : ℕ) → (bytes : List ℕ) → (before after : Disk D) → Type 0
Caches n bytes before after = CachesIn n bytes before.cache after.cache

-- no block was put and is not written yet
abbrev pub are_written : List Slot → Bool
are_written slots = list_all (λ (slot : Slot). not slot.unwritten) slots

abbrev pub IsClean : {D : Type 0} → Disk D → Type 0
IsClean disk = are_written disk.cache ≡ true
