-- Words of contracts. The calls that change the files of a catalogue: why they are refused, what they are to leave, and what they leave.
use Rattle.std.specs.Prelude.{◌≡◌, ◌⊎◌, ◌≤◌, ◌<◌, ◌+◌, [], ℕ, Bool, List, slice_index_or, Option, Some, None, is_some, if◌then◌else◌, Result, Ok, Err, ⊤}
use Rattle.edi_told.specs.Faults.{CountRose}
use Rattle.edi_told.specs.Told.{WhereTold}
use Rattle.edi_disk.specs.Shown.{cached, drive_of, reference_of}
use Rattle.edi_calls.specs.State.{File, find_file}
use Rattle.edi_image.specs.Image.{Holds, slots_of}
use Rattle.edi_image.specs.Stored.{StoredFile}
use Rattle.edi_catalog.specs.Files.{file_titled, find_index}
use Rattle.edi_catalog.specs.InSlots.{SlotsAnswer}
use Rattle.edi_catalog.specs.Refusing.{no_such}
use Rattle.edi_catalog.specs.Mounted.{IsMounted, disk_of, entry_blocks_of, files_of, room_reference}
use Rattle.edi_catalog.specs.declared.catalog.Catalog.{Catalog}
use Rattle.edi_catalog.specs.declared.ends.CatEnd.{CatEnd}
use Rattle.edi_catalog.specs.declared.ends.CatEnd.TheVariants as cat
use Rattle.edi_catalog.specs.SlotsChanged.{changed_at, file_protected, slots_changed}

-- ---- why a call is refused

-- no file has the title
abbrev pub not_found : Option StoredFile → Option CatEnd
not_found None = Some cat.NoSuch
not_found (Some file) = None

-- a file is neither deleted nor renamed where it is protected
abbrev pub not_deleted : Option StoredFile → Option CatEnd
not_deleted None = Some cat.NoSuch
not_deleted (Some file) = if file.record_.protected then Some cat.Protected else None

-- a file is not renamed where a file has the new title, also where it is itself that file
abbrev pub not_renamed : (file : Option StoredFile) → (there : Option StoredFile) → Option CatEnd
not_renamed None there = Some cat.NoSuch
not_renamed (Some file) there =
    if file.record_.protected then Some cat.Protected else (if is_some there then Some cat.Taken else None)

-- ---- what is changed

-- changes of a file that is kept
abbrev pub kept_protected : Bool → StoredFile → Option StoredFile
kept_protected now file = Some (record file { record_ = record file.record_ { protected = now } })

abbrev pub kept_renamed : List ℕ → StoredFile → Option StoredFile
kept_renamed title file = Some (record file { record_ = record file.record_ { title = title } })

-- the slots that are kept, with the file of a title changed
abbrev pub kept_changed : (StoredFile → Option StoredFile) → List ℕ → List (Option StoredFile) → List (Option StoredFile)
kept_changed change title files = changed_at change (find_index title files) files

-- ---- what a call leaves

-- A call is refused exactly for the first reason against it, and then all slots are as before; on Ok they are the wanted ones.
abbrev pub CatalogAnswers : {X : Type 0} → Result X CatEnd → (refusal : Option CatEnd) → (old wanted new : List (Option StoredFile)) → Type 0
CatalogAnswers (Ok done) refusal old wanted new = (refusal ≡ None) × (new ≡ wanted)
CatalogAnswers (Err cat.Fault) refusal old wanted new = refusal ≡ None
CatalogAnswers (Err why) refusal old wanted new = (refusal ≡ Some why) × (new ≡ old)

-- the blocks are a valid image, with the files from before a call or with those that the call was to leave
pub record BeforeOrAfter (before after : List (Option File)) (blocks : List (List ℕ)) : Type 0 where
  pub one : Holds blocks before ⊎ Holds blocks after

-- The drive's blocks after a call, where `before` are the files that they had and `after` those that they are to hold: on Ok they
-- hold these; after a fault of the drive the ones or the others, whatever call of the drive failed; after a refusal the blocks
-- are as they were.
abbrev pub Leaves : {X : Type 0} → Result X CatEnd → (before after : List (Option File)) → (old new : List (List ℕ)) → Type 0
Leaves (Ok done) before after old new = Holds new after
Leaves (Err cat.Fault) before after old new = BeforeOrAfter before after new
Leaves (Err why) before after old new = new ≡ old

-- a call that is refused leaves the catalogue itself as it was
abbrev pub Untouched : {X C : Type 0} → Result X CatEnd → (before after : C) → Type 0
Untouched (Ok done) before after = ⊤
Untouched (Err cat.Fault) before after = ⊤
Untouched (Err why) before after = after ≡ before

-- Whatever the drive tells: each block with entries that is kept otherwise than before is cached as it is kept.
abbrev pub ChangedAreCached : {D : Type 0} → (before after : Catalog D) → Type 0
ChangedAreCached before after = (k : ℕ) → k < 32
    → (slice_index_or (entry_blocks_of after) k [] ≡ slice_index_or (entry_blocks_of before) k [])
    ⊎ (cached (1 + k) (disk_of after) ≡ Some (slice_index_or (entry_blocks_of after) k []))

-- A call on a mounted catalogue, by its answer: `refusal` is the first reason against it, `kept` are the slots that are to be
-- kept in memory, `wanted` gives the files that the image is to have.
pub record Changes {D X : Type 0} (contents : D → Option (List (List ℕ))) (count faults : D → ℕ) (result : Result X CatEnd) (refusal : Option CatEnd)
    (kept : List (Option StoredFile)) (wanted : List (Option File) → List (Option File)) (before after : Catalog D) : Type 0 where
  pub answers : CatalogAnswers result refusal (files_of before) kept (files_of after)
  pub untouched : Untouched result before after
  pub mounted : (result ≡ Err cat.Fault) ⊎ IsMounted contents count after
  pub entries_cached : (result ≡ Err cat.Fault) ⊎ ChangedAreCached before after
  pub leaves : WhereTold (contents (drive_of (disk_of before))) (contents (drive_of (disk_of after)))
      (λ old new. Leaves result (slots_of old) (wanted (slots_of old)) old new)
  pub same_reference : reference_of (disk_of after) ≡ reference_of (disk_of before)
  pub same_room : room_reference after ≡ room_reference before
  pub count_stays : count (drive_of (disk_of after)) ≡ count (drive_of (disk_of before))
  pub later : faults (drive_of (disk_of before)) ≤ faults (drive_of (disk_of after))
  pub cause : result ≡ Err cat.Fault → CountRose (faults (drive_of (disk_of before))) (faults (drive_of (disk_of after)))

-- a file is protected, or released, whichever it was before; the one refusal is that no file has the title
abbrev pub SetsProtection : {D X : Type 0} → (contents : D → Option (List (List ℕ))) → (count faults : D → ℕ) → Result X CatEnd → (now : Bool)
    → (title : List ℕ) → (before after : Catalog D) → Type 0
SetsProtection contents count faults result now title before after =
    Changes contents count faults result (not_found (file_titled title (files_of before))) (kept_changed (kept_protected now) title (files_of before))
    (slots_changed (file_protected now) title) before after

-- the same, told by the slots of the image
abbrev pub SetsInSlots : {D X : Type 0} → (contents : D → Option (List (List ℕ))) → Result X CatEnd → (now : Bool) → (title : List ℕ)
    → (before after : Catalog D) → Type 0
SetsInSlots contents result now title before after =
    WhereTold (contents (drive_of (disk_of before))) (contents (drive_of (disk_of after)))
    (λ old new. SlotsAnswer result (no_such (find_file (slots_of old) title)) (slots_of old) (slots_changed (file_protected now) title (slots_of old))
    (slots_of new))
