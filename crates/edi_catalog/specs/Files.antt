-- Words of contracts. The files of a mounted catalogue.
use Rattle.std.specs.Prelude.{◌≡◌, ℕ, suc, ◌+◌, ◌*◌, if◌then◌else◌, List, [], ◌∷◌, ◌++◌, take, length, flat_map, slice_index, slice_index_or, Option, Some}
use Rattle.std.specs.Prelude.{None, Result, Ok, Err, ⊤}
use Rattle.std.specs.Option.{option_map, option_and_then}
use Rattle.edi_calls.specs.State.{File, find_file}
use Rattle.edi_image.specs.Entries.{block_at}
use Rattle.edi_image.specs.Stored.{StoredFile, is_titled, bytes_in}
use Rattle.edi_image.specs.Image.{slots_of}
use Rattle.edi_catalog.specs.declared.entry.Entry.{Entry}

-- what the catalogue tells of a file
abbrev pub entry_of : StoredFile → Entry
entry_of file = record {
  title = file.record_.title;
  kind = file.record_.kind;
  protected = file.record_.protected;
  length = file.record_.length;
}

-- the slot of the first file with this title
abbrev pub find_index : List ℕ → List (Option StoredFile) → Option ℕ
find_index title [] = None
find_index title (file ∷ files) = if is_titled title file then Some 0 else option_map suc (find_index title files)

-- the file with this title
abbrev pub file_titled : List ℕ → List (Option StoredFile) → Option StoredFile
file_titled title files = option_and_then (λ index. slice_index_or files index None) (find_index title files)

-- on Ok this is a page of the file
abbrev pub PageIs : {X E : Type 0} → Result X E → Option StoredFile → ℕ → List ℕ → List (List ℕ) → Type 0
PageIs (Ok x) (Some file) i bytes blocks = block_at blocks (slice_index file.pages i) ≡ bytes
PageIs (Ok x) None i bytes blocks = ⊥
PageIs (Err e) file i bytes blocks = ⊤

-- on Ok these pages stand one after another at the start of the bytes
abbrev pub PagesAre : {X E : Type 0} → Result X E → List ℕ → List ℕ → List (List ℕ) → Type 0
PagesAre (Ok x) pages bytes blocks = take (512 * length pages) bytes ≡ flat_map (block_at blocks) pages
PagesAre (Err e) pages bytes blocks = ⊤

-- on Ok a page stands behind the bytes up to an address, which are as they were
abbrev pub PageAt : {X E : Type 0} → Result X E → (page at : ℕ) → (old new : List ℕ) → List (List ℕ) → Type 0
PageAt (Ok x) page at old new blocks = take (at + 512) new ≡ take at old ++ block_at blocks page
PageAt (Err e) page at old new blocks = ⊤

-- the bytes start with these, and so many they are
abbrev pub Starts : ℕ → List ℕ → List ℕ → Type 0
Starts n contents bytes = (n ≡ length contents) × (take n bytes ≡ contents)

-- on Ok the bytes start with those of a file that is kept
abbrev pub StoredIs : {E : Type 0} → Result ℕ E → StoredFile → List ℕ → List (List ℕ) → Type 0
StoredIs (Ok n) file bytes blocks = Starts n (bytes_in blocks file) bytes
StoredIs (Err e) file bytes blocks = ⊤

-- there is a file, and the bytes start with those of it
abbrev pub FoundIs : ℕ → Option File → List ℕ → Type 0
FoundIs n None bytes = ⊥
FoundIs n (Some file) bytes = Starts n file.bytes bytes

-- on Ok the bytes start with those of the file with this title
abbrev pub FileIs : {E : Type 0} → Result ℕ E → (title : List ℕ) → List ℕ → List (List ℕ) → Type 0
FileIs (Ok n) title bytes blocks = FoundIs n (find_file (slots_of blocks) title) bytes
FileIs (Err e) title bytes blocks = ⊤
