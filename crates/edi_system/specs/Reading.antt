-- Words of contracts. Reading a text of the catalogue.
use Rattle.std.specs.Prelude.{◌≡◌, ℕ, ◌≤◌, ◌+◌, ◌%◌, Bool, true, false, nat_lt, ◌==◌, if◌then◌else◌, List, slice_get, slice_index, Option, Some, None, Result, Ok, Err, ⊤}
use Rattle.std.specs.Option.{option_map, option_and_then}
use Rattle.std.specs.Str.{bytes_eq}
use Rattle.edi_told.specs.Faults.{CountRose}
use Rattle.edi_told.specs.Told.{WhereTold}
use Rattle.edi_disk.specs.Shown.{drive_of, reference_of}
use Rattle.edi_calls.specs.State.{Found, State, character, find_file, title_of}
use Rattle.edi_calls.specs.Calls.{bytes_of, found_bytes, is_text, word_of}
use Rattle.edi_calls.specs.Ends.{IsTorn}
use Rattle.edi_catalog.specs.declared.catalog.Catalog.{Catalog}
use Rattle.edi_catalog.specs.declared.entry.Entry.{Entry}
use Rattle.edi_catalog.specs.Files.{entry_of, file_titled}
use Rattle.edi_image.specs.Image.{slots_of}
use Rattle.edi_image.specs.Stored.{StoredFile}
use Rattle.edi_catalog.specs.Mounted.{disk_of, files_of, room_reference}
use Rattle.edi_system.specs.declared.ends.Stop.{Stop}
use Rattle.edi_system.specs.declared.ends.Stop.TheVariants as stop
use Rattle.edi_system.specs.declared.reading.Reading.{Reading}

-- a text at its start
abbrev pub begun : (title : List ℕ) → (length : ℕ) → Reading
begun title length = record { title = title; position = 0; length = length; kept = None }

-- the text that is read where the catalogue tells this of the file of a title; a code is no text
abbrev pub text_of : (title : List ℕ) → Option Entry → Option Reading
text_of title None = None
text_of title (Some entry) = if is_text entry.kind then Some (begun title entry.length) else None

-- the text that is read where words spell a title
abbrev pub text_spelled : (words : List ℕ) → List (Option StoredFile) → Option Reading
text_spelled words files = option_and_then (λ title. text_of title (option_map entry_of (file_titled title files))) (title_of words)

-- this page is kept
abbrev pub is_kept : ℕ → Option ℕ → Bool
is_kept page None = false
is_kept page (Some other) = other == page

-- ---- the file after a change of the catalogue

-- the same, with no page kept
abbrev pub forgotten : Reading → Reading
forgotten reading = record reading { kept = None }

-- the text, with no page kept, unless it has this title
abbrev pub not_titled : (title : List ℕ) → Option Reading → Option Reading
not_titled title None = None
not_titled title (Some reading) = if bytes_eq reading.title title then None else Some (forgotten reading)

-- ---- its bytes

abbrev pub is_err : {X E : Type 0} → Result X E → Bool
is_err (Ok x) = false
is_err (Err e) = true

-- on Ok this is the byte, if there is one
abbrev pub GivesByte : {E : Type 0} → Result (Option ℕ) E → Option ℕ → Type 0
GivesByte (Ok byte) there = byte ≡ there
GivesByte (Err e) there = ⊤

-- the byte of the file of a title at a position, in the image that blocks are
abbrev pub byte_in : (blocks : List (List ℕ)) → (title : List ℕ) → (position : ℕ) → Option ℕ
byte_in blocks title position = slice_get (bytes_of (find_file (slots_of blocks) title)) position

-- what is kept of the files, the blocks of the drive and their number are as they were
pub record CatalogRests {D : Type 0} (contents : D → Option (List (List ℕ))) (count : D → ℕ) (before after : Catalog D) : Type 0 where
  pub files : files_of after ≡ files_of before
  pub blocks : WhereTold (contents (drive_of (disk_of before))) (contents (drive_of (disk_of after))) (λ old new. new ≡ old)
  pub count_ : count (drive_of (disk_of after)) ≡ count (drive_of (disk_of before))

-- The catalogue is only read, and is as it was where the drive has not failed.
pub record OnlyReads {D : Type 0} (faults : D → ℕ) (fault : Bool) (before after : Catalog D) : Type 0 where
  pub files : files_of after ≡ files_of before
  pub same_room : room_reference after ≡ room_reference before
  pub same_reference : reference_of (disk_of after) ≡ reference_of (disk_of before)
  pub later : faults (drive_of (disk_of before)) ≤ faults (drive_of (disk_of after))
  pub cause : fault ≡ true → CountRose (faults (drive_of (disk_of before))) (faults (drive_of (disk_of after)))

-- The next byte of the found file was looked for, of which there is one exactly before its end, and the file stays where it is.
abbrev pub LooksIn : Bool → (before after : Option Reading) → Type 0
LooksIn there None after = ⊥
LooksIn there (Some reading) None = ⊥
LooksIn there (Some reading) (Some next) = (next ≡ record reading { kept = next.kept }) × (there ≡ nat_lt reading.position reading.length)

-- the word that tells whether bytes are left
abbrev pub MoreIs : Option ℕ → (before after : Option Reading) → Type 0
MoreIs None before after = ⊥
MoreIs (Some word) before None = ⊥
MoreIs (Some word) None (Some next) = ⊥
MoreIs (Some word) (Some reading) (Some next) =
    (next ≡ record reading { kept = next.kept }) × (word ≡ word_of (nat_lt reading.position reading.length))

-- The position is one further, and the word is the character of the page at the old one; or at the end it is the same, and then the word
-- is that of the end.
abbrev pub GoesOn : Bool → ℕ → (page : List ℕ) → (before after : Reading) → Type 0
GoesOn true word page before after =
    (after ≡ record before { position = before.position + 1; kept = after.kept }) × (word ≡ character (slice_index page (before.position % 512)))
GoesOn false word page before after = (after ≡ record before { kept = after.kept }) × (word ≡ 25)

abbrev pub ReadsOn : Option ℕ → (page : List ℕ) → (before after : Option Reading) → Type 0
ReadsOn None page before after = ⊥
ReadsOn (Some word) page before None = ⊥
ReadsOn (Some word) page None (Some next) = ⊥
ReadsOn (Some word) page (Some reading) (Some next) =
    GoesOn (nat_lt reading.position reading.length) word page reading next

-- the next byte of the found file was looked for, which changes nothing
abbrev pub LooksAt : Result (Option ℕ) Stop → Option Found → State → State → Type 0
LooksAt (Ok byte) (Some found) before after = (byte ≡ slice_get (found_bytes before found) found.position) × (after ≡ before)
LooksAt (Err stop.NoFile) None before after = after ≡ before
LooksAt (Err stop.Fault) (Some found) before after = IsTorn before before after
LooksAt _ _ before after = ⊥
