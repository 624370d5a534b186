-- Words of contracts. Storing a file: why it is refused, and what it leaves.
use Rattle.std.specs.Prelude.{◌≡◌, ◌⊎◌, ◌≤◌, ℕ, suc, ◌+◌, ◌-◌, false, nat_lt, if◌then◌else◌, List, [], ◌∷◌, length, slice_set, slice_index_or, Option, Some, None, IfSome, is_none, ⊤}
use Rattle.std.specs.Prelude.{Result, Ok, Err}
use Rattle.std.specs.Option.{option_map}
use Rattle.edi_told.specs.Faults.{CountRose}
use Rattle.edi_told.specs.Told.{WhereTold}
use Rattle.edi_disk.specs.Shown.{drive_of, reference_of}
use Rattle.edi_calls.specs.State.{blocks_of, most_bytes}
use Rattle.edi_calls.specs.declared.kinds.FileKind.{FileKind}
use Rattle.edi_catalog.specs.declared.ends.CatEnd.{CatEnd}
use Rattle.edi_catalog.specs.declared.ends.CatEnd.TheVariants as cat
use Rattle.edi_catalog.specs.declared.entry.Entry.{Entry}
use Rattle.edi_image.specs.Stored.{StoredFile, blocks_taken}
use Rattle.edi_catalog.specs.Files.{entry_of, file_titled, find_index}
use Rattle.edi_image.specs.Image.{slots_of}
use Rattle.edi_catalog.specs.Mounted.{IsMounted, disk_of, files_of, room_reference}
use Rattle.edi_catalog.specs.declared.catalog.Catalog.{Catalog}
use Rattle.edi_catalog.specs.Changes.{ChangedAreCached, Leaves, Untouched}
use Rattle.edi_catalog.specs.Plan.{AreFree, used_in}
use Rattle.edi_catalog.specs.Putting.{FileCached}
use Rattle.edi_catalog.specs.Writing.{is_protected}
use Rattle.edi_catalog.specs.SlotsStored.{slots_stored}

-- ---- where it is stored

-- the first free slot
abbrev pub free_index : List (Option StoredFile) → Option ℕ
free_index [] = None
free_index (file ∷ files) = if is_none file then Some 0 else option_map suc (free_index files)

-- the slot where a file of this title is stored: its own, and for a new title the first free one
abbrev pub index_for : List ℕ → List (Option StoredFile) → Option ℕ
index_for title files = if is_none (find_index title files) then free_index files else find_index title files

-- ---- why it is refused

-- the free blocks of a drive of so many blocks
abbrev pub blocks_free : (count : ℕ) → List (Option StoredFile) → ℕ
blocks_free count files = count - (33 + blocks_taken files)

-- So many bytes are not stored under a title where its file is protected; where they are more than the longest file has;
-- where the title is new and no slot is free; where they take more blocks than are free, beside the file that is replaced.
abbrev pub not_stored : (title : List ℕ) → (size free : ℕ) → List (Option StoredFile) → Option CatEnd
not_stored title size free files =
    if is_protected (file_titled title files) then Some cat.Protected
    else (if nat_lt most_bytes size then Some (cat.TooLarge size)
    else (if is_none (index_for title files) then Some cat.CatalogFull
    else (if nat_lt free (blocks_of size)
    then Some (cat.Full (blocks_of size) free)
    else None)))

-- ---- what it leaves

abbrev pub stored_entry : (title : List ℕ) → FileKind → (size : ℕ) → Entry
stored_entry title kind size = record { title = title; kind = kind; protected = false; length = size }

-- one slot has a file with this entry, and every other is as before
pub record IsStoredAt (index : Option ℕ) (entry : Entry) (old new : List (Option StoredFile)) : Type 0 where
  pub file : StoredFile
  pub entry_ : entry_of file ≡ entry
  pub at : ℕ
  pub index_ : index ≡ Some at
  pub others : new ≡ slice_set old at (Some file)

-- A store is refused exactly for the first reason against it, and then all slots are as before; on Ok a slot has the file.
abbrev pub StoreAnswers : {X : Type 0} → Result X CatEnd → (refusal : Option CatEnd) → (index : Option ℕ) → Entry → (old new : List (Option StoredFile))
    → Type 0
StoreAnswers (Ok done) refusal index entry old new = (refusal ≡ None) × IsStoredAt index entry old new
StoreAnswers (Err cat.Fault) refusal index entry old new = refusal ≡ None
StoreAnswers (Err why) refusal index entry old new = (refusal ≡ Some why) × (new ≡ old)

-- on Ok the blocks of the file that has the slot now were free, beside the file that it replaces
abbrev pub WereFree : {X : Type 0} → Result X CatEnd → (count : ℕ) → (index : Option ℕ) → (old new : List (Option StoredFile)) → Type 0
WereFree (Ok done) count index old new = (at : ℕ) → index ≡ Some at → AreFree count old (used_in (slice_index_or new at None))
WereFree (Err why) count index old new = ⊤

-- on Ok the blocks of the file that has the slot now have its contents, where they are cached
abbrev pub IsCachedAt : {D X : Type 0} → Result X CatEnd → (index : Option ℕ) → (bytes : List ℕ) → Catalog D → Type 0
IsCachedAt (Ok done) index bytes after = (at : ℕ) → index ≡ Some at
    → IfSome (slice_index_or (files_of after) at None) (λ file. FileCached file bytes (disk_of after))
IsCachedAt (Err why) index bytes after = ⊤

-- A store on a mounted catalogue, by its answer: `refusal` is the first reason against it.
pub record StoreChanges {D X : Type 0} (contents : D → Option (List (List ℕ))) (count faults : D → ℕ) (result : Result X CatEnd) (refusal : Option CatEnd)
    (title : List ℕ) (kind : FileKind) (bytes : List ℕ) (before after : Catalog D) : Type 0 where
  pub answers : StoreAnswers result refusal (index_for title (files_of before)) (stored_entry title kind (length bytes)) (files_of before) (files_of after)
  pub free : WereFree result (count (drive_of (disk_of before))) (index_for title (files_of before)) (files_of before) (files_of after)
  pub untouched : Untouched result before after
  pub mounted : (result ≡ Err cat.Fault) ⊎ IsMounted contents count after
  pub entries_cached : (result ≡ Err cat.Fault) ⊎ ChangedAreCached before after
  pub file_cached : IsCachedAt result (index_for title (files_of before)) bytes after
  pub leaves : WhereTold (contents (drive_of (disk_of before))) (contents (drive_of (disk_of after)))
      (λ old new. Leaves result (slots_of old) (slots_stored title kind bytes (slots_of old)) old new)
  pub same_reference : reference_of (disk_of after) ≡ reference_of (disk_of before)
  pub same_room : room_reference after ≡ room_reference before
  pub count_stays : count (drive_of (disk_of after)) ≡ count (drive_of (disk_of before))
  pub later : faults (drive_of (disk_of before)) ≤ faults (drive_of (disk_of after))
  pub cause : result ≡ Err cat.Fault → CountRose (faults (drive_of (disk_of before))) (faults (drive_of (disk_of after)))
