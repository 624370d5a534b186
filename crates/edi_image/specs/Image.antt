-- Definition. Images of version 2: the rules that a list of blocks of 512 bytes keeps, and the files that it holds.
--
--     block 0          `EDIS`, the version, 2, the number of blocks (two bytes each), zeros
--     blocks 1 to 32   256 entries of 64 bytes, 8 in each block, one for each slot
--     the others       map blocks, pages, or free
--
-- A map block has the number of its pages (two bytes), then their block numbers. The first map of a file has its first
-- 255 pages, or all where there are fewer, and the second map the others. The rest of a map block, and the bytes of the
-- last page behind the file's length, are not looked at.
use Rattle.std.specs.Prelude.{◌≡◌, ℕ, zero, suc, ◌+◌, ◌-◌, ◌*◌, ◌/◌, ◌%◌, false, not, ◌&&◌, ◌==◌, nat_le, min, List, [], ◌∷◌, ◌++◌, map, take, drop, length}
use Rattle.std.specs.Prelude.{flat_map, replicate, Option, Some, None}
use Rattle.std.specs.List.{list_any}
use Rattle.std.specs.Str.{bytes_eq}
use Rattle.edi_calls.specs.State.{File, pages_of}
use Rattle.edi_image.specs.declared.faults.MountFault.{MountFault}
use Rattle.edi_image.specs.declared.faults.MountFault.TheVariants as fault
use Rattle.edi_image.specs.Rules.{Rule, needs, uses, first_broken, page_rules}
use Rattle.edi_image.specs.Records.{FileRecord}
use Rattle.edi_image.specs.declared.entries.Said.{Said}
use Rattle.edi_image.specs.declared.entries.Said.TheVariants as said
use Rattle.edi_image.specs.Entries.{short_at, shorts, block_at, entry_says}

-- ---- what both versions have

-- block 0 of an image of this version that has so many blocks
unfoldable pub header_block : (version count : ℕ) → List ℕ
header_block version count = 69 ∷ 68 ∷ 73 ∷ 83 ∷ 0 ∷ version ∷ count / 256 ∷ count % 256 ∷ replicate 504 0

-- the page numbers in a map block that has so many
abbrev pub numbers_in : List ℕ → ℕ → List ℕ
numbers_in block pages = shorts pages (drop 2 block)

-- the page numbers of a file of so many pages, in the order of its maps
abbrev pub numbers_of : List (List ℕ) → ℕ → List ℕ → List ℕ
numbers_of blocks pages [] = []
numbers_of blocks pages (map ∷ maps) =
    numbers_in (block_at blocks map) (min pages 255) ++ numbers_of blocks (pages - 255) maps

-- the bytes of a file are its pages one after another, cut to its length
abbrev pub bytes_of : List (List ℕ) → FileRecord → List ℕ
bytes_of blocks r = take r.length (flat_map (block_at blocks) (numbers_of blocks (pages_of r.length) r.maps))

-- what is in the slot of an entry
abbrev pub slot_in : List (List ℕ) → Said → Option File
slot_in blocks said.Free = None
slot_in blocks said.Wrong = None
slot_in blocks (said.File r) =
    Some (record { title = r.title; kind = r.kind; protected = r.protected; bytes = bytes_of blocks r })

-- The rules on a map block of a file: it is used only here, tells the right number of pages, and these keep their rules.
abbrev pub map_rules : (first : ℕ) → List (List ℕ) → (slot pages map : ℕ) → List Rule
map_rules first blocks slot pages map =
    uses map
    ∷ needs (short_at (block_at blocks map) 0 == pages) (fault.Entry slot)
    ∷ page_rules first (length blocks) slot (numbers_in (block_at blocks map) pages)

-- the rules on all maps of a file of so many pages
abbrev pub maps_rules : (first : ℕ) → List (List ℕ) → (slot pages : ℕ) → List ℕ → List Rule
maps_rules first blocks slot pages [] = []
maps_rules first blocks slot pages (map ∷ maps) =
    map_rules first blocks slot (min pages 255) map ++ maps_rules first blocks slot (pages - 255) maps

-- the rules on a file, where the slots before have files of these titles: its title stands in no earlier slot, and its maps
-- keep their rules
abbrev pub file_rules : (first : ℕ) → List (List ℕ) → (slot : ℕ) → (titles : List (List ℕ)) → FileRecord → List Rule
file_rules first blocks slot titles r =
    needs (not (list_any (bytes_eq r.title) titles)) (fault.Entry slot)
    ∷ maps_rules first blocks slot (pages_of r.length) r.maps

-- the rules on an entry
abbrev pub entry_rules : (first : ℕ) → List (List ℕ) → (slot : ℕ) → (titles : List (List ℕ)) → Said → List Rule
entry_rules first blocks slot titles said.Free = []
entry_rules first blocks slot titles said.Wrong = needs false (fault.Entry slot) ∷ []
entry_rules first blocks slot titles (said.File r) = file_rules first blocks slot titles r

abbrev pub titles_in : Said → List (List ℕ)
titles_in said.Free = []
titles_in said.Wrong = []
titles_in (said.File r) = r.title ∷ []

-- The rules on the entries from a slot on, one after another. Files lie from the block `first` on.
abbrev pub slot_rules : (first : ℕ) → List (List ℕ) → (slot : ℕ) → (titles : List (List ℕ)) → List Said → List Rule
slot_rules first blocks slot titles [] = []
slot_rules first blocks slot titles (entry ∷ entries) =
    entry_rules first blocks slot titles entry ++ slot_rules first blocks (slot + 1) (titles ++ titles_in entry) entries

-- a drive has 64 blocks, or more up to 4096, and block 0 is that of its version and size
abbrev pub header_rules : (version : ℕ) → List (List ℕ) → List Rule
header_rules version blocks =
    needs (nat_le 64 (length blocks)) fault.Short
    ∷ needs (nat_le (length blocks) 4096 && bytes_eq (block_at blocks 0) (header_block version (length blocks))) fault.Header
    ∷ []

-- ---- version 2

-- the bytes of the entry of a slot
abbrev pub entry_at : List (List ℕ) → ℕ → List ℕ
entry_at blocks slot = take 64 (drop (64 * (slot % 8)) (block_at blocks (1 + slot / 8)))

-- what the entry of a slot says
abbrev pub said_at : List (List ℕ) → ℕ → Said
said_at blocks slot = entry_says (length blocks) (entry_at blocks slot)

-- what so many entries say, from a slot on
abbrev pub entries_from : List (List ℕ) → (slot : ℕ) → ℕ → List Said
entries_from blocks slot zero = []
entries_from blocks slot (suc n) = said_at blocks slot ∷ entries_from blocks (slot + 1) n

unfoldable pub entries_of : List (List ℕ) → List Said
entries_of blocks = entries_from blocks 0 256

unfoldable pub image_rules : List (List ℕ) → List Rule
image_rules blocks = header_rules 2 blocks ++ slot_rules 33 blocks 0 [] (entries_of blocks)

-- The first broken rule of an image. No block at all is no disk, and breaks none.
abbrev pub mount_fault_of : List (List ℕ) → Option MountFault
mount_fault_of [] = None
mount_fault_of (block ∷ blocks) = first_broken [] (image_rules (block ∷ blocks))

-- the files of an image, in its 256 slots; no disk has no files
unfoldable pub slots_of : List (List ℕ) → List (Option File)
slots_of blocks = map (slot_in blocks) (entries_of blocks)

-- the blocks are a valid image and hold these files
pub record Holds (blocks : List (List ℕ)) (slots : List (Option File)) : Type 0 where
  pub valid : mount_fault_of blocks ≡ None
  pub files : slots_of blocks ≡ slots
