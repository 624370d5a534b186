-- Words of contracts. What the functions below the commands do on a drive that tells its blocks.
use Rattle.std.specs.Prelude.{◌≡◌, ◌≤◌, ◌⊎◌, ℕ, Bool, true, false, List, length, take, Some, None, option_map, Result, Ok, Err, ⊤}
use Rattle.edi_told.specs.Faults.{CountRose}
use Rattle.edi_calls.specs.State.{File, find_file}
use Rattle.edi_host.specs.declared.files.KeepEnd.{KeepEnd}
use Rattle.edi_host.specs.declared.files.KeepEnd.TheVariants as keep
use Rattle.edi_disk.specs.Shown.{drive_of, reference_of}
use Rattle.edi_image.specs.Image.{mount_fault_of, slots_of}
use Rattle.edi_catalog.specs.Mounted.{disk_of, room_reference}
use Rattle.edi_catalog.specs.declared.catalog.Catalog.{Catalog}
use Rattle.edi_catalog.specs.declared.ends.CatEnd.{CatEnd}
use Rattle.edi_catalog.specs.declared.ends.CatEnd.TheVariants as cat
use Rattle.edi_statuses.specs.declared.status.Status.{Status}
use Rattle.edi_statuses.specs.declared.status.Status.TheVariants as status
use Rattle.edi_statuses.specs.Steps.{IsBrokenRule}
use Rattle.edi_statuses.specs.Commands.{ArePut, is_full}
use Rattle.edi_statuses.specs.Broken.{ArePutInPart}

-- Whatever the drive tells, it has as many blocks as before, and its count of faults has not fallen, and rose where it has failed.
pub record KeepsCounts {D : Type 0} (count faults : D → ℕ) (failed : Type 0) (before after : D) : Type 0 where
  pub size : count after ≡ count before
  pub later : faults before ≤ faults after
  pub cause : failed → CountRose (faults before) (faults after)

-- so of the drive of a catalogue, which keeps its drive and its room
pub record KeepsCatalog {D : Type 0} (count faults : D → ℕ) (failed : Type 0) (before after : Catalog D) : Type 0 where
  pub same_reference : reference_of (disk_of after) ≡ reference_of (disk_of before)
  pub same_room : room_reference after ≡ room_reference before
  pub counts : KeepsCounts count faults failed (drive_of (disk_of before)) (drive_of (disk_of after))

-- ---- put

-- the answer of a store stands: the file was not protected
abbrev pub stands : {X : Type 0} → Result X CatEnd → Bool
stands (Err cat.Protected) = false
stands _ = true

-- The bytes are stored unprotected in place of any file of the title; it is refused exactly where the disk is full.
abbrev pub StoresOver : {X : Type 0} → Result X CatEnd → (title bytes : List ℕ) → (old new : List (List ℕ)) → Type 0
StoresOver (Ok done) title bytes old new = (is_full old title (length bytes) ≡ false) × ArePut title bytes old new
StoresOver (Err cat.Fault) title bytes old new = (is_full old title (length bytes) ≡ false) × ArePutInPart title bytes old new
StoresOver (Err why) title bytes old new = (is_full old title (length bytes) ≡ true) × (new ≡ old)

-- the same of a drive that is mounted before
abbrev pub PutsOn : Status → (title bytes : List ℕ) → (old new : List (List ℕ)) → Type 0
PutsOn status.Ok title bytes old new =
    (mount_fault_of old ≡ None) × (is_full old title (length bytes) ≡ false) × ArePut title bytes old new
PutsOn status.DiskFull title bytes old new = (mount_fault_of old ≡ None) × (is_full old title (length bytes) ≡ true) × (new ≡ old)
PutsOn (status.BadImage broken) title bytes old new = (mount_fault_of old ≡ Some broken) × (new ≡ old)
PutsOn status.NoMemory title bytes old new = new ≡ old
PutsOn status.DriveFault title bytes old new =
    (new ≡ old) ⊎ ((mount_fault_of old ≡ None) × (is_full old title (length bytes) ≡ false) × ArePutInPart title bytes old new)
PutsOn _ title bytes old new = ⊥

-- the statuses that come from it
abbrev pub IsOfPut : Status → Type 0
IsOfPut status.Ok = ⊤
IsOfPut status.DiskFull = ⊤
IsOfPut (status.BadImage broken) = IsBrokenRule broken
IsOfPut status.NoMemory = ⊤
IsOfPut status.DriveFault = ⊤
IsOfPut _ = ⊥

-- ---- get

-- The bytes of the file of the title stand at the front of these, so many they are; `Absent` comes exactly where no file has the
-- title.
abbrev pub ReadsOn : Result ℕ Status → (title into : List ℕ) → (blocks : List (List ℕ)) → Type 0
ReadsOn (Ok n) title into blocks =
    (mount_fault_of blocks ≡ None) × (option_map (λ (f : File). f.bytes) (find_file (slots_of blocks) title) ≡ Some (take n into))
ReadsOn (Err status.Absent) title into blocks = (mount_fault_of blocks ≡ None) × (find_file (slots_of blocks) title ≡ None)
ReadsOn (Err (status.BadImage broken)) title into blocks = mount_fault_of blocks ≡ Some broken
ReadsOn (Err s) title into blocks = ⊤

-- the statuses that come from it in place of bytes
abbrev pub IsOfRead : Status → Type 0
IsOfRead status.Absent = ⊤
IsOfRead (status.BadImage broken) = IsBrokenRule broken
IsOfRead status.NoMemory = ⊤
IsOfRead status.DriveFault = ⊤
IsOfRead _ = ⊥

-- the status by the answer of the files
abbrev pub status_kept : KeepEnd → Status
status_kept keep.Ok = status.Ok
status_kept keep.Failed = status.FileFault
status_kept keep.NoMemory = status.NoMemory
