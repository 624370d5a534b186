-- Words of contracts. Free blocks, and what is put in the blocks of a new file.
use Rattle.std.specs.Prelude.{◌≡◌, ℕ, ◌-◌, ◌*◌, ◌<◌, Bool, true, false, not, ◌&&◌, ◌||◌, nat_lt, if◌then◌else◌, List, [], ◌∷◌, ◌++◌, take, drop, length}
use Rattle.std.specs.Prelude.{slice_index, slice_index_or, Option, Some, None}
use Rattle.std.specs.List.{list_all}
use Rattle.edi_image.specs.Rules.{is_in}
use Rattle.edi_image.specs.Entries.{block_at}
use Rattle.edi_image.specs.Stored.{StoredFile, are_data}
use Rattle.edi_image.specs.Build.{filled, map_block}

-- the blocks that a file uses: its maps, then its pages
abbrev pub used_in : Option StoredFile → List ℕ
used_in None = []
used_in (Some file) = file.record_.maps ++ file.pages

abbrev pub blocks_used : List (Option StoredFile) → List ℕ
blocks_used [] = []
blocks_used (file ∷ files) = used_in file ++ blocks_used files

-- no number stands twice
abbrev pub are_different : List ℕ → Bool
are_different [] = true
are_different (n ∷ numbers) = not (is_in n numbers) && are_different numbers

-- Blocks where a new file may be laid beside these files, as long as they stand: each lies behind the catalogue and on the
-- drive, none is used, and none stands twice.
pub record AreFree (count : ℕ) (files : List (Option StoredFile)) (blocks : List ℕ) : Type 0 where
  pub on_drive : are_data count blocks ≡ true
  pub unused : list_all (λ n. not (is_in n (blocks_used files))) blocks ≡ true
  pub different : are_different blocks ≡ true

-- a number, where there is one
abbrev pub one_or_none : Option ℕ → List ℕ
one_or_none None = []
one_or_none (Some n) = n ∷ []

-- these blocks were put into a set of blocks, which tells of each of 4,096 whether it is in it
pub record Inserts (blocks : List ℕ) (before after : List Bool) : Type 0 where
  pub as_many : length after ≡ length before
  pub inserted : (n : ℕ) → n < length before → slice_index_or after n false ≡ (is_in n blocks || slice_index_or before n false)

-- ---- what is put

-- the i-th part of a list that is cut into parts of so many elements
abbrev pub part : {A : Type 0} → (size : ℕ) → List A → (i : ℕ) → List A
part size items i = take size (drop (size * i) items)

-- What is put in the i-th block of a file: its first blocks are its maps, each of which has up to 255 of the page numbers;
-- the others are its pages, each with up to 512 of the bytes. Zeros stand behind them.
abbrev pub content_of : StoredFile → List ℕ → ℕ → List ℕ
content_of file bytes i =
    if nat_lt i (length file.record_.maps)
    then map_block (part 255 file.pages i)
    else filled 512 (part 512 bytes (i - length file.record_.maps))

-- These are the blocks as they were, with so many of the contents each in its block.
pub record ArePut (numbers : List ℕ) (content : ℕ → List ℕ) (many : ℕ) (old new : List (List ℕ)) : Type 0 where
  pub as_many : length new ≡ length old
  pub there : (i : ℕ) → i < many → block_at new (slice_index numbers i) ≡ content i
  pub others : (n : ℕ) → is_in n numbers ≡ false → block_at new n ≡ block_at old n
