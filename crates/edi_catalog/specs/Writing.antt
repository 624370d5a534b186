-- Words of contracts. Writing the entry of a slot.
use Rattle.std.specs.Prelude.{◌≡◌, ◌⊎◌, ℕ, ◌+◌, ◌*◌, ◌/◌, ◌%◌, ◌≤◌, Bool, true, false, List, [], ◌++◌, take, drop, length, slice_set, slice_index_or, Option}
use Rattle.std.specs.Prelude.{Some, None, IfSome, ⊤}
use Rattle.std.specs.Option.{option_and_then}
use Rattle.edi_told.specs.Faults.{CountRose}
use Rattle.edi_told.specs.Told.{WhereTold}
use Rattle.edi_calls.specs.State.{File, is_title}
use Rattle.edi_disk.specs.declared.disk.Disk.{Disk}
use Rattle.edi_disk.specs.declared.disk.DiskEnd.{DiskEnd}
use Rattle.edi_disk.specs.declared.disk.DiskEnd.TheVariants as disk
use Rattle.edi_disk.specs.Shown.{cached, shown, drive_of, reference_of, IsClean, IsWorking}
use Rattle.edi_disk.specs.Since.{Kept}
use Rattle.edi_image.specs.Records.{FileRecord}
use Rattle.edi_image.specs.Entries.{block_at}
use Rattle.edi_image.specs.Stored.{StoredFile}
use Rattle.edi_catalog.specs.Files.{find_index}

-- ---- writing it

-- a block with other bytes from an address on
abbrev pub patched : (at : ℕ) → (bytes block : List ℕ) → List ℕ
patched at bytes block = take at block ++ (bytes ++ drop (at + length bytes) block)

-- the blocks with the entries, as they are kept, with another entry of a slot
abbrev pub entries_with : (slot : ℕ) → (entry : List ℕ) → (kept : List (List ℕ)) → List (List ℕ)
entries_with slot entry kept =
    slice_set kept (slot / 8) (patched (64 * (slot % 8)) entry (slice_index_or kept (slot / 8) []))

-- the blocks with another entry of a slot
abbrev pub with_entry : List (List ℕ) → (slot : ℕ) → List ℕ → List (List ℕ)
with_entry blocks slot entry =
    slice_set blocks (1 + slot / 8) (patched (64 * (slot % 8)) entry (block_at blocks (1 + slot / 8)))

-- an entry was written over that of a slot, in a whole block
pub record IsWritten (slot : ℕ) (entry : List ℕ) (old new : List (List ℕ)) : Type 0 where
  pub whole : length (block_at old (1 + slot / 8)) ≡ 512
  pub now : new ≡ with_entry old slot entry

-- on Ok the entry is written, and after a fault it is or it is not
abbrev pub EntryLeaves : DiskEnd → (slot : ℕ) → List ℕ → (old new : List (List ℕ)) → Type 0
EntryLeaves disk.Ok slot entry old new = IsWritten slot entry old new
EntryLeaves disk.Fault slot entry old new = (new ≡ old) ⊎ IsWritten slot entry old new

-- a disk on which an entry may be written: it may be called, has nothing that is not written, and has a catalogue
pub record IsSettled {D : Type 0} (contents : D → Option (List (List ℕ))) (count : D → ℕ) (disk : Disk D) : Type 0 where
  pub works : IsWorking contents count disk
  pub settled : contents (drive_of disk) ≡ shown contents disk
  pub catalogue : 33 ≤ count (drive_of disk)

-- From before to after, on a disk with nothing that is not written, blocks are written to the drive, which it changes so.
pub record Settles {D : Type 0} (contents : D → Option (List (List ℕ))) (count faults : D → ℕ) (end : DiskEnd) (changes : (old new : List (List ℕ)) → Type 0)
    (before after : Disk D) : Type 0 where
  pub same_reference : reference_of after ≡ reference_of before
  pub count_stays : count (drive_of after) ≡ count (drive_of before)
  pub later : faults (drive_of before) ≤ faults (drive_of after)
  pub cause : end ≡ disk.Fault → CountRose (faults (drive_of before)) (faults (drive_of after))
  pub works : end ≡ disk.Ok → IsWorking contents count after
  pub settled : end ≡ disk.Ok → contents (drive_of after) ≡ shown contents after
  pub clean : end ≡ disk.Ok → IsClean after
  pub leaves : WhereTold (contents (drive_of before)) (contents (drive_of after)) changes

-- all that was put is written, and what is cached and shown stays
pub record Flushes {D : Type 0} (contents : D → Option (List (List ℕ))) (count faults : D → ℕ) (end : DiskEnd) (before after : Disk D) : Type 0 where
  pub settles : Settles contents count faults end (λ old new. ⊤) before after
  pub shows : WhereTold (shown contents before) (shown contents after) (λ old new. end ≡ disk.Ok → new ≡ old)
  pub since : (base : List (List ℕ)) (was_put : ℕ → List ℕ → Bool) → Kept contents base was_put before → Kept contents base was_put after
  pub caches : (n : ℕ) → cached n after ≡ cached n before

-- a block gets these bytes: on Ok it has them, and after a fault it has or it has not
abbrev pub BlockLeaves : DiskEnd → (n : ℕ) → List ℕ → (old new : List (List ℕ)) → Type 0
BlockLeaves disk.Ok n bytes old new = new ≡ slice_set old n bytes
BlockLeaves disk.Fault n bytes old new = (new ≡ old) ⊎ (new ≡ slice_set old n bytes)

-- the entry of a slot is written
abbrev pub PutsEntry : {D : Type 0} → (contents : D → Option (List (List ℕ))) → (count faults : D → ℕ) → DiskEnd → (slot : ℕ) → (entry : List ℕ)
    → (before after : Disk D) → Type 0
PutsEntry contents count faults end slot entry before after = Settles contents count faults end (EntryLeaves end slot entry) before after

-- ---- another entry in place of that of a file

-- the file is protected
abbrev pub is_protected : Option StoredFile → Bool
is_protected None = false
is_protected (Some file) = file.record_.protected

-- the record of a file, protected or not, or with another title
abbrev pub record_protected : Bool → Option StoredFile → Option FileRecord
record_protected now None = None
record_protected now (Some file) = Some (record file.record_ { protected = now })

abbrev pub record_renamed : List ℕ → Option StoredFile → Option FileRecord
record_renamed title None = None
record_renamed title (Some file) = Some (record file.record_ { title = title })

-- what is kept of a slot, with another record of its file, or freed
abbrev pub kept_with : FileRecord → StoredFile → Option StoredFile
kept_with r file = Some (record file { record_ = r })

abbrev pub kept_as : Option FileRecord → Option StoredFile → Option StoredFile
kept_as None file = None
kept_as (Some r) file = option_and_then (kept_with r) file

-- the same in the slots that are kept
abbrev pub put_kept : List (Option StoredFile) → ℕ → Option FileRecord → List (Option StoredFile)
put_kept files index r = slice_set files index (kept_as r (slice_index_or files index None))

-- and in those of an image
abbrev pub file_with : FileRecord → File → Option File
file_with r file = Some (record { title = r.title; kind = r.kind; protected = r.protected; bytes = file.bytes })

abbrev pub file_as : Option FileRecord → Option File → Option File
file_as None file = None
file_as (Some r) file = option_and_then (file_with r) file

abbrev pub put_file : ℕ → Option FileRecord → List (Option File) → List (Option File)
put_file index r slots = slice_set slots index (file_as r (slice_index_or slots index None))

-- The record may stand for that of this file: it has the same blocks, and the same title or one that no file has.
pub record IsRecordFor (files : List (Option StoredFile)) (file : StoredFile) (r : FileRecord) : Type 0 where
  pub title : is_title r.title ≡ true
  pub maps : r.maps ≡ file.record_.maps
  pub length_ : r.length ≡ file.record_.length
  pub free : (r.title ≡ file.record_.title) ⊎ (find_index r.title files ≡ None)

-- there is a file in this slot, and the record, if there is one, may stand for its own
pub record IsRecordAt (files : List (Option StoredFile)) (index : ℕ) (r : Option FileRecord) : Type 0 where
  pub file : StoredFile
  pub there : slice_index_or files index None ≡ Some file
  pub fits : IfSome r (IsRecordFor files file)
