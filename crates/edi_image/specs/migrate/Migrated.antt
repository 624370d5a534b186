-- Words of contracts. The image of version 2 that is made of one of version 1: the catalogue, then in the order of the slots the blocks of each
-- file, its map and then its pages.
use Rattle.std.specs.Prelude.{◌≡◌, ℕ, ◌+◌, ◌-◌, ◌<◌, ◌≤◌, Bool, true, false, drop, List, [], ◌∷◌, ◌++◌, map, flat_map, length, Option, Some, None, ⊤}
use Rattle.std.specs.Option.{option_map}
use Rattle.std.specs.List.{list_all, range_with_len}
use Rattle.edi_image.specs.declared.faults.MountFault.{MountFault}
use Rattle.edi_image.specs.declared.faults.MountFault.TheVariants as fault
use Rattle.edi_host.specs.declared.drive.DriveEnd.{DriveEnd}
use Rattle.edi_host.specs.declared.drive.DriveEnd.TheVariants as drive
use Rattle.edi_image.specs.Records.{FileRecord}
use Rattle.edi_image.specs.Entries.{block_at}
use Rattle.edi_image.specs.Build.{map_block}
use Rattle.edi_image.specs.Image.{header_block, Holds}
use Rattle.edi_image.specs.migrate.OldImage.{old_fault_of}
use Rattle.edi_image.specs.migrate.OldFiles.{is_old_stored, old_files_of}
use Rattle.edi_image.specs.migrate.MigratedSlots.{migrated_slots}
use Rattle.edi_image.specs.Stored.{StoredFile}
use Rattle.edi_image.specs.Bytes.{bytes_of_slot}
use Rattle.edi_image.specs.declared.migrate.migrating.MigrateEnd.{MigrateEnd}
use Rattle.edi_image.specs.declared.migrate.migrating.MigrateEnd.TheVariants as end

-- ---- the new image

-- the number of blocks of a file: its map, and its pages
abbrev pub blocks_of_slot : Option StoredFile → ℕ
blocks_of_slot None = 0
blocks_of_slot (Some file) = 1 + length file.pages

abbrev pub blocks_of_slots : List (Option StoredFile) → ℕ
blocks_of_slots [] = 0
blocks_of_slots (file ∷ files) = blocks_of_slot file + blocks_of_slots files

-- the record of a file whose first block this is
abbrev pub moved : ℕ → StoredFile → FileRecord
moved first file = record file.record_ { maps = first ∷ [] }

-- the records of files that lie one after another, from a block on
abbrev pub moved_from : ℕ → List (Option StoredFile) → List (Option FileRecord)
moved_from first [] = []
moved_from first (file ∷ files) = option_map (moved first) file ∷ moved_from (first + blocks_of_slot file) files

-- the blocks of a file: its map, and the pages that it had
abbrev pub laid : List (List ℕ) → ℕ → Option StoredFile → List (List ℕ)
laid old first None = []
laid old first (Some file) = map_block (range_with_len (first + 1) (length file.pages)) ∷ map (block_at old) file.pages

-- those of files that lie one after another
abbrev pub laid_from : List (List ℕ) → ℕ → List (Option StoredFile) → List (List ℕ)
laid_from old first [] = []
laid_from old first (file ∷ files) = laid old first file ++ laid_from old (first + blocks_of_slot file) files

-- the entries one after another
abbrev pub entries_bytes : List (Option FileRecord) → List ℕ
entries_bytes records = flat_map bytes_of_slot records

-- blocks one after another
abbrev pub blocks_bytes : List (List ℕ) → List ℕ
blocks_bytes blocks = flat_map (λ b. b) blocks

-- the bytes of the image of so many blocks, without its free blocks
unfoldable pub migrated_bytes : List (List ℕ) → (count : ℕ) → List (Option StoredFile) → List ℕ
migrated_bytes old count files =
    header_block 2 count ++ (entries_bytes (moved_from 33 files) ++ blocks_bytes (laid_from old 33 files))

-- ---- what a migration answers, and leaves

-- the fault is one of an image
abbrev pub is_image_fault : MountFault → Bool
is_image_fault fault.Fault = false
is_image_fault fault.NoMemory = false
is_image_fault other = true

-- the answer to a fault that was found in the old image
abbrev pub refusal : MountFault → MigrateEnd
refusal fault.NoMemory = end.NoMemory
refusal other = end.Image other

-- the answer comes before any call of the drive
abbrev pub refuses : MigrateEnd → Bool
refuses (end.Image broken) = true
refuses (end.Full wanted free) = true
refuses end.NoMemory = true
refuses end.Ok = false
refuses end.Fault = false

-- on Ok the blocks stand on the drive, and the others are as they were; after a fault nothing is said
abbrev pub BlocksLeave : DriveEnd → (blocks before after : List (List ℕ)) → Type 0
BlocksLeave drive.Ok blocks before after = length blocks ≤ length before → after ≡ blocks ++ drop (length blocks) before
BlocksLeave drive.Failed blocks before after = ⊤

-- the image is whole, and files that take so many blocks have room in one of `count`
abbrev pub HasRoom : (count taken : ℕ) → List (List ℕ) → Type 0
HasRoom count taken old = (old_fault_of old ≡ None) × (taken + 33 ≤ count)

-- Why an image is refused whose files take so many blocks, if it is: the first broken rule, and then want of room. A fault of the
-- drive comes only later; want of memory says nothing.
abbrev pub MigrateAnswers : MigrateEnd → (count taken : ℕ) → List (List ℕ) → Type 0
MigrateAnswers end.Ok count taken old = HasRoom count taken old
MigrateAnswers (end.Image broken) count taken old = (old_fault_of old ≡ Some broken) × (is_image_fault broken ≡ true)
MigrateAnswers (end.Full wanted free) count taken old =
    (old_fault_of old ≡ None) × (wanted ≡ taken) × (free ≡ count - 33) × (free < wanted)
MigrateAnswers end.Fault count taken old = HasRoom count taken old
MigrateAnswers end.NoMemory count taken old = ⊤

-- what is known of the files of an image that is whole
abbrev pub AreStored : List (List ℕ) → Type 0
AreStored old = list_all (is_old_stored (length old)) (old_files_of old) ≡ true

abbrev pub IfFull : MigrateEnd → Type 0 → Type 0
IfFull (end.Full wanted free) P = P
IfFull end.Ok P = ⊤
IfFull (end.Image broken) P = ⊤
IfFull end.Fault P = ⊤
IfFull end.NoMemory P = ⊤

-- a refused image leaves the drive itself as it was
abbrev pub MigrateTouches : {D : Type 0} → MigrateEnd → (before after : D) → Type 0
MigrateTouches (end.Image broken) before after = after ≡ before
MigrateTouches (end.Full wanted free) before after = after ≡ before
MigrateTouches end.Ok before after = ⊤
MigrateTouches end.Fault before after = ⊤
MigrateTouches end.NoMemory before after = ⊤

-- On Ok the drive has so many blocks, and they are an image with the old files under their numbers; nothing is known of the
-- blocks after a fault, and else they are as they were.
abbrev pub MigrateLeaves : MigrateEnd → (count : ℕ) → (image before after : List (List ℕ)) → Type 0
MigrateLeaves end.Ok count image before after = (length after ≡ count) × Holds after (migrated_slots image)
MigrateLeaves (end.Image broken) count image before after = after ≡ before
MigrateLeaves (end.Full wanted free) count image before after = after ≡ before
MigrateLeaves end.Fault count image before after = ⊤
MigrateLeaves end.NoMemory count image before after = after ≡ before

-- the number of blocks
abbrev pub MigrateCounts : MigrateEnd → (count before after : ℕ) → Type 0
MigrateCounts end.Ok count before after = after ≡ count
MigrateCounts (end.Image broken) count before after = after ≡ before
MigrateCounts (end.Full wanted free) count before after = after ≡ before
MigrateCounts end.Fault count before after = ⊤
MigrateCounts end.NoMemory count before after = after ≡ before
