-- Words of contracts. The files of a catalogue as it keeps them: their records, and their page numbers.
use Rattle.std.specs.Prelude.{ℕ, Bool, true, false, ◌&&◌, ◌==◌, nat_le, if◌then◌else◌, List, [], ◌∷◌, length, Option, Some, None, ◌≡◌, ◌+◌, take, flat_map, map}
use Rattle.std.specs.List.{list_all}
use Rattle.std.specs.Str.{bytes_eq}
use Rattle.edi_calls.specs.State.{is_title, most_bytes, pages_of, blocks_of}
use Rattle.edi_image.specs.Records.{FileRecord}
use Rattle.edi_image.specs.Entries.{is_data, block_at}
use Rattle.edi_image.specs.Image.{numbers_of, entries_of, mount_fault_of}
use Rattle.edi_image.specs.declared.entries.Said.{Said}
use Rattle.edi_image.specs.declared.entries.Said.TheVariants as said

-- a file's record, and its page numbers in the order of its maps
pub record StoredFile : Type 0 where
  pub record_ : FileRecord
  pub pages : List ℕ

-- what is kept of an entry
abbrev pub stored_of : List (List ℕ) → Said → Option StoredFile
stored_of blocks said.Free = None
stored_of blocks said.Wrong = None
stored_of blocks (said.File r) = Some (record { record_ = r; pages = numbers_of blocks (pages_of r.length) r.maps })

-- the titles of the files
abbrev pub titles_of : List (Option StoredFile) → List (List ℕ)
titles_of [] = []
titles_of (None ∷ files) = titles_of files
titles_of (Some file ∷ files) = file.record_.title ∷ titles_of files

-- all these blocks lie behind the catalogue and on the drive
abbrev pub are_data : (count : ℕ) → List ℕ → Bool
are_data count blocks = list_all (is_data 33 count) blocks

-- What is known of a record that is kept, whatever the drive tells: it has a map, and a second one exactly where there are
-- more than 255 pages, and they lie behind the catalogue.
abbrev pub is_record : (count : ℕ) → FileRecord → Bool
is_record count r =
    is_title r.title && nat_le r.length most_bytes && are_data count r.maps
    && length r.maps == (if nat_le (pages_of r.length) 255 then 1 else 2)

-- of a file that is kept
abbrev pub is_stored : (count : ℕ) → Option StoredFile → Bool
is_stored count None = true
is_stored count (Some file) =
    is_record count file.record_ && are_data count file.pages && length file.pages == pages_of file.record_.length

-- the file has this title
abbrev pub is_titled : List ℕ → Option StoredFile → Bool
is_titled title None = false
is_titled title (Some file) = bytes_eq title file.record_.title

-- what is known of what an entry says
abbrev pub is_fit : (count : ℕ) → Said → Bool
is_fit count said.Free = true
is_fit count said.Wrong = true
is_fit count (said.File r) = is_record count r

-- the blocks that files take: their pages, and a map block for the first 255 of them and one for the others
abbrev pub blocks_in : Option StoredFile → ℕ
blocks_in None = 0
blocks_in (Some file) = blocks_of file.record_.length

abbrev pub blocks_taken : List (Option StoredFile) → ℕ
blocks_taken [] = 0
blocks_taken (file ∷ files) = blocks_in file + blocks_taken files

-- the file is not too long
abbrev pub is_sized : Option StoredFile → Bool
is_sized None = true
is_sized (Some file) = nat_le file.record_.length most_bytes

-- the bytes of a file: its pages one after another, cut to its length
abbrev pub bytes_in : List (List ℕ) → StoredFile → List ℕ
bytes_in blocks file = take file.record_.length (flat_map (block_at blocks) file.pages)

-- the blocks are a valid image, and this is what is kept of its slots
pub record IsKeptOf (blocks : List (List ℕ)) (files : List (Option StoredFile)) : Type 0 where
  pub valid : mount_fault_of blocks ≡ None
  pub slots : files ≡ map (stored_of blocks) (entries_of blocks)
