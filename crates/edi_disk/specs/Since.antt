-- Words of contracts. What a drive may have between two flushes.
use Rattle.std.specs.Prelude.{◌≡◌, ◌⊎◌, ℕ, ◌≤◌, Bool, true, false, Option, Some, List, length, nat_eq, ◌&&◌, slice_get, slice_set, ⊤}
use Rattle.std.specs.Option.{ForSome}
use Rattle.std.specs.Str.{bytes_eq}
use Rattle.edi_told.specs.Told.{WhereTold}
use Rattle.edi_disk.specs.Use.{slot_of}
use Rattle.edi_disk.specs.Shown.{over, IsBacked, shown_by, drive_of}
use Rattle.edi_disk.specs.declared.cache.Slot.{Slot}
use Rattle.edi_disk.specs.declared.disk.Disk.{Disk}
use Rattle.edi_disk.specs.declared.disk.DiskEnd.{DiskEnd}
use Rattle.edi_disk.specs.declared.disk.DiskEnd.TheVariants as disk

-- Each block is as in base, or was put. `was_put n block` tells whether this was put as block n: base are the
-- blocks at the last flush that was Ok, and was_put is any set that has all that was put since.
pub record Between (base : List (List ℕ)) (was_put : ℕ → List ℕ → Bool) (blocks : List (List ℕ)) : Type 0 where
  pub as_many : length blocks ≡ length base
  pub each : (n : ℕ) (block : List ℕ) → slice_get blocks n ≡ Some block → (slice_get base n ≡ Some block) ⊎ (was_put n block ≡ true)

-- nothing was put
abbrev pub nothing : ℕ → List ℕ → Bool
nothing n block = false

-- one block was put, with these bytes
abbrev pub only : ℕ → List ℕ → ℕ → List ℕ → Bool
only number bytes n block = nat_eq number n && bytes_eq bytes block

-- so is each block that the drive has, and each that is shown
pub record KeptBy {D : Type 0} (contents : D → Option (List (List ℕ))) (base : List (List ℕ)) (was_put : ℕ → List ℕ → Bool) (drive : D) (slots : List Slot) :
    Type 0 where
  pub on_drive : ForSome (contents drive) (Between base was_put)
  pub on_disk : ForSome (shown_by contents drive slots) (Between base was_put)

-- the same of a disk
abbrev pub Kept : {D : Type 0} → (D → Option (List (List ℕ))) → List (List ℕ) → (ℕ → List ℕ → Bool) → Disk D → Type 0
Kept contents base was_put disk = KeptBy contents base was_put (drive_of disk) disk.cache

-- every block but this one, if there is one, is as it was
abbrev pub ChangesOnly : Option ℕ → List (List ℕ) → List (List ℕ) → Type 0
ChangesOnly out old new = (n : ℕ) → (out ≡ Some n → ⊥) → slice_get new n ≡ slice_get old n

-- on Ok a page changes nothing that is shown, and gives its block; after a fault nothing is known
abbrev pub PageGives : DiskEnd → ℕ → List ℕ → List (List ℕ) → List (List ℕ) → Type 0
PageGives disk.Ok n into old new = (new ≡ old) × (slice_get old n ≡ Some into)
PageGives disk.Fault n into old new = ⊤

-- on Ok a put changes its block and no other; after a fault nothing is known
abbrev pub PutLeaves : DiskEnd → ℕ → List ℕ → List (List ℕ) → List (List ℕ) → Type 0
PutLeaves disk.Ok n from old new = new ≡ slice_set old n from
PutLeaves disk.Fault n from old new = ⊤

-- the drive has all these blocks as they are cached
abbrev pub AllOn : {D : Type 0} → (D → Option (List (List ℕ))) → D → List Slot → Type 0
AllOn contents drive slots = ForSome (contents drive) (λ blocks. (n : ℕ) (slot : Slot) → slot_of n slots ≡ Some slot → slice_get blocks n ≡ Some slot.bytes)

-- from before to after, nothing happens to the drive but that cached blocks are written to it, with and without effect
pub record Writes {D : Type 0} (contents : D → Option (List (List ℕ))) (count faults : D → ℕ) (slots : List Slot) (before after : D) : Type 0 where
  pub backed : IsBacked contents count after slots
  pub shows : WhereTold (contents before) (contents after) (λ old new. over new slots ≡ over old slots)
  pub since : (base : List (List ℕ)) (was_put : ℕ → List ℕ → Bool) → KeptBy contents base was_put before slots → KeptBy contents base was_put after slots
  pub count_stays : count after ≡ count before
  pub later : faults before ≤ faults after
