-- Words of contracts. Putting the blocks of a file.
use Rattle.std.specs.Prelude.{◌≡◌, ◌⊎◌, ℕ, ◌≤◌, ◌<◌, Bool, true, false, List, length, slice_index, Option, Some, IfSome, ⊤}
use Rattle.edi_told.specs.Faults.{CountRose}
use Rattle.edi_told.specs.Told.{WhereTold}
use Rattle.edi_disk.specs.declared.disk.Disk.{Disk}
use Rattle.edi_disk.specs.declared.disk.DiskEnd.{DiskEnd}
use Rattle.edi_disk.specs.declared.disk.DiskEnd.TheVariants as disk
use Rattle.edi_disk.specs.Shown.{cached, shown, drive_of, reference_of, IsWorking}
use Rattle.edi_disk.specs.Since.{Kept, PutLeaves}
use Rattle.edi_image.specs.Rules.{is_in}
use Rattle.edi_image.specs.Entries.{block_at}
use Rattle.edi_image.specs.Stored.{StoredFile, is_stored}
use Rattle.edi_catalog.specs.Reads.{UsesBlock, WasCached}
use Rattle.edi_catalog.specs.Writing.{IsWritten, Settles}
use Rattle.edi_image.specs.Bytes.{bytes_of_record}
use Rattle.edi_catalog.specs.Plan.{are_different, ArePut, content_of, used_in}

-- a set of blocks has each of these contents in its block
abbrev pub HasAll : (ℕ → List ℕ → Bool) → (numbers : List ℕ) → (ℕ → List ℕ) → Type 0
HasAll was_put numbers content = (i : ℕ) → i < length numbers → was_put (slice_index numbers i) (content i) ≡ true

-- a new file may be put: its blocks lie behind the catalogue and on the drive, none stands twice, and it has as many bytes
pub record MayBePut (count : ℕ) (file : StoredFile) (bytes : List ℕ) : Type 0 where
  pub stored : is_stored count (Some file) ≡ true
  pub different : are_different (used_in (Some file)) ≡ true
  pub size : length bytes ≡ file.record_.length

-- From before to after a block that is there was put: on Ok it is cached with these bytes.
pub record PutsBlock {D : Type 0} (contents : D → Option (List (List ℕ))) (count faults : D → ℕ) (end : DiskEnd) (n : ℕ) (from : List ℕ)
    (before after : Disk D) : Type 0 where
  pub there : IfSome (shown contents before) (λ blocks. n < length blocks)
  pub same_reference : reference_of after ≡ reference_of before
  pub works : end ≡ disk.Ok → IsWorking contents count after
  pub shows : WhereTold (shown contents before) (shown contents after) (PutLeaves end n from)
  pub since : (base : List (List ℕ)) (was_put : ℕ → List ℕ → Bool) → was_put n from ≡ true → Kept contents base was_put before
      → Kept contents base was_put after
  pub count_stays : count (drive_of after) ≡ count (drive_of before)
  pub later : faults (drive_of before) ≤ faults (drive_of after)
  pub cause : end ≡ disk.Fault → CountRose (faults (drive_of before)) (faults (drive_of after))
  pub uses : end ≡ disk.Ok → UsesBlock n from before after

-- From before to after the contents were put, each in its block: all of them on Ok, and after a fault of the drive some of them.
-- No other block was put: of the others each that is cached was cached so before.
pub record PutsBlocks {D : Type 0} (contents : D → Option (List (List ℕ))) (count faults : D → ℕ) (end : DiskEnd) (numbers : List ℕ) (content : ℕ → List ℕ)
    (many : ℕ) (before after : Disk D) : Type 0 where
  pub same_reference : reference_of after ≡ reference_of before
  pub since : (base : List (List ℕ)) (was_put : ℕ → List ℕ → Bool) → HasAll was_put numbers content → Kept contents base was_put before
      → Kept contents base was_put after
  pub count_stays : count (drive_of after) ≡ count (drive_of before)
  pub later : faults (drive_of before) ≤ faults (drive_of after)
  pub told : WhereTold (shown contents before) (shown contents after) (λ old new. ⊤)
  pub cause : end ≡ disk.Fault → CountRose (faults (drive_of before)) (faults (drive_of after))
  pub works : end ≡ disk.Ok → IsWorking contents count after
  pub shows : end ≡ disk.Ok → WhereTold (shown contents before) (shown contents after) (ArePut numbers content many)
  pub put_cached : end ≡ disk.Ok → (i : ℕ) (bytes : List ℕ) → i < many → cached (slice_index numbers i) after ≡ Some bytes → content i ≡ bytes
  pub others_cached : end ≡ disk.Ok → (m : ℕ) → is_in m numbers ≡ false → WasCached m before after

-- ---- a new file

-- every block but these is as it was
pub record OnlyIn (numbers : List ℕ) (old new : List (List ℕ)) : Type 0 where
  pub as_many : length new ≡ length old
  pub others : (n : ℕ) → is_in n numbers ≡ false → block_at new n ≡ block_at old n

-- the contents of a file were put, and then its entry was written over that of a slot
pub record IsNew (slot : ℕ) (file : StoredFile) (bytes : List ℕ) (old new : List (List ℕ)) : Type 0 where
  pub laid : List (List ℕ)
  pub put : ArePut (used_in (Some file)) (content_of file bytes) (length (used_in (Some file))) old laid
  pub written : IsWritten slot (bytes_of_record file.record_) laid new

-- on Ok both are done; after a fault of the drive too, or the entry is not written and at most the file's blocks have changed
abbrev pub NewLeaves : DiskEnd → (slot : ℕ) → StoredFile → List ℕ → (old new : List (List ℕ)) → Type 0
NewLeaves disk.Ok slot file bytes old new = IsNew slot file bytes old new
NewLeaves disk.Fault slot file bytes old new = OnlyIn (used_in (Some file)) old new ⊎ IsNew slot file bytes old new

-- a new file is written to the drive, and then its entry
abbrev pub WritesNew : {D : Type 0} → (contents : D → Option (List (List ℕ))) → (count faults : D → ℕ) → DiskEnd → (slot : ℕ) → StoredFile
    → (bytes : List ℕ) → (before after : Disk D) → Type 0
WritesNew contents count faults end slot file bytes before after = Settles contents count faults end (NewLeaves end slot file bytes) before after

-- ---- what is cached behind it, whatever the drive tells

-- a block with entries is cached with these bytes, and of the others of the catalogue each that is cached was cached so before
pub record EntryCached {D : Type 0} (n : ℕ) (bytes : List ℕ) (before after : Disk D) : Type 0 where
  pub there : cached n after ≡ Some bytes
  pub others : (m : ℕ) → m < 33 → (m ≡ n → ⊥) → WasCached m before after

-- the blocks of a file that are cached have its contents
abbrev pub FileCached : {D : Type 0} → StoredFile → (bytes : List ℕ) → Disk D → Type 0
FileCached file bytes disk = (i : ℕ) (block : List ℕ) → i < length (used_in (Some file)) → cached (slice_index (used_in (Some file)) i) disk ≡ Some block
    → content_of file bytes i ≡ block
