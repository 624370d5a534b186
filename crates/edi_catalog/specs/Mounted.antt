-- Words of contracts. A catalogue between two calls.
use Rattle.std.specs.Prelude.{◌≡◌, ◌≤◌, ◌<◌, ◌+◌, ◌*◌, ◌/◌, ◌%◌, ℕ, true, List, [], length, take, drop, slice_index_or, Option, Some, None}
use Rattle.std.specs.List.{list_all}
use Rattle.std.specs.Option.{ForSome}
use Rattle.edi_disk.specs.declared.disk.Disk.{Disk}
use Rattle.edi_disk.specs.Shown.{cached, shown, drive_of, IsClean, IsWorking}
use Rattle.edi_image.specs.Entries.{block_at, entry_says}
use Rattle.edi_image.specs.declared.entries.Said.{Said}
use Rattle.edi_image.specs.declared.entries.Said.TheVariants as said
use Rattle.edi_image.specs.Stored.{StoredFile, is_stored, IsKeptOf}
use Rattle.edi_catalog.specs.Plan.{are_different, blocks_used}
use Rattle.edi_catalog.specs.declared.catalog.Catalog.{Catalog}
use Rattle.edi_catalog.specs.declared.mounting.Checked.{Checked}

abbrev pub disk_of : {D : Type 0} → Catalog D → Disk D
disk_of catalog = catalog.disk

-- the room that it is lent, and the reference to it
abbrev pub room_of : {D : Type 0} → Catalog D → Checked
room_of catalog = catalog.room.now

abbrev pub room_reference : {D : Type 0} → Catalog D → ℕ
room_reference catalog = catalog.room.ghost_name

-- what is kept of the slots
abbrev pub files_of : {D : Type 0} → Catalog D → List (Option StoredFile)
files_of catalog = (room_of catalog).files.items

-- the blocks with the entries as they are kept, from block 1 on
abbrev pub entry_blocks_of : {D : Type 0} → Catalog D → List (List ℕ)
entry_blocks_of catalog = (room_of catalog).entries.items

-- these are the blocks with the entries; no disk has none
abbrev pub AreEntries : (kept blocks : List (List ℕ)) → Type 0
AreEntries kept blocks = (k : ℕ) → k < 32 → slice_index_or kept k [] ≡ block_at blocks (1 + k)

-- the bytes of the entry of a slot, in the blocks as they are kept
abbrev pub entry_kept : (kept : List (List ℕ)) → (slot : ℕ) → List ℕ
entry_kept kept slot = take 64 (drop (64 * (slot % 8)) (slice_index_or kept (slot / 8) []))

-- what the entry of a file that is kept says
abbrev pub said_kept : Option StoredFile → Said
said_kept None = said.Free
said_kept (Some file) = said.File file.record_

-- 32 whole blocks
pub record AreWhole (kept : List (List ℕ)) : Type 0 where
  pub many : length kept ≡ 32
  pub each : (k : ℕ) → k < 32 → length (slice_index_or kept k []) ≡ 512

-- the entry of each slot says the file that is kept of it, on a drive of so many blocks
abbrev pub HaveEntries : (count : ℕ) → (kept : List (List ℕ)) → List (Option StoredFile) → Type 0
HaveEntries count kept files = (slot : ℕ) → slot < 256 → entry_says count (entry_kept kept slot) ≡ said_kept (slice_index_or files slot None)

-- those of the blocks with the entries that are cached are cached as they are kept
abbrev pub AreCached : {D : Type 0} → (kept : List (List ℕ)) → Disk D → Type 0
AreCached kept disk = (k : ℕ) (bytes : List ℕ) → k < 32 → cached (1 + k) disk ≡ Some bytes → slice_index_or kept k [] ≡ bytes

-- What is known of the disk and the room of a catalogue, whatever the drive tells: the disk may be called, has nothing that is not
-- written and has at most 4096 blocks; the room has 256 slots, whose files use no block twice, and the 32 blocks with the entries of
-- these files, as the disk has them where it caches them. Where the drive tells its blocks, they are those of the image.
pub record IsMountedOn {D : Type 0} (contents : D → Option (List (List ℕ))) (count : D → ℕ) (disk : Disk D) (room_ : Checked) : Type 0 where
  pub works : IsWorking contents count disk
  pub settled : contents (drive_of disk) ≡ shown contents disk
  pub clean : IsClean disk
  pub many : length room_.files.items ≡ 256
  pub most : count (drive_of disk) ≤ 4096
  pub stored : list_all (is_stored (count (drive_of disk))) room_.files.items ≡ true
  pub apart : are_different (blocks_used room_.files.items) ≡ true
  pub room : 0 < count (drive_of disk) → AreWhole room_.entries.items
  pub said : 0 < count (drive_of disk) → HaveEntries (count (drive_of disk)) room_.entries.items room_.files.items
  pub entries_cached : 0 < count (drive_of disk) → AreCached room_.entries.items disk
  pub entries : ForSome (contents (drive_of disk)) (AreEntries room_.entries.items)
  pub image : ForSome (contents (drive_of disk)) (λ blocks. IsKeptOf blocks room_.files.items)

-- a call may be made on the catalogue
abbrev pub IsMounted : {D : Type 0} → (D → Option (List (List ℕ))) → (D → ℕ) → Catalog D → Type 0
IsMounted contents count catalog = IsMountedOn contents count (disk_of catalog) (room_of catalog)
