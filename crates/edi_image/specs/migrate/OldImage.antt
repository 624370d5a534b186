-- Definition. Images of version 1, which are only read, to make images of version 2 of them.
--
--     block 0         `EDIS`, the version, 1, the number of blocks (two bytes each), zeros
--     blocks 1 to 4   64 entries of 32 bytes, 16 in each block, one for each slot
--     the others      map blocks, pages, or free
--
-- A file has one map block, which is as in version 2, with all its pages.
use Rattle.std.specs.Prelude.{◌≡◌, ℕ, zero, suc, ◌+◌, ◌*◌, ◌/◌, ◌%◌, List, [], ◌∷◌, ◌++◌, map, take, drop, length, Option, None}
use Rattle.edi_calls.specs.State.{File}
use Rattle.edi_image.specs.declared.faults.MountFault.{MountFault}
use Rattle.edi_image.specs.Rules.{first_broken}
use Rattle.edi_image.specs.declared.entries.Said.{Said}
use Rattle.edi_image.specs.Entries.{block_at}
use Rattle.edi_image.specs.migrate.OldEntries.{old_entry_says}
use Rattle.edi_image.specs.Image.{header_rules, slot_rules, slot_in}

-- the bytes of the entry of a slot
abbrev pub old_entry_at : List (List ℕ) → ℕ → List ℕ
old_entry_at blocks slot = take 32 (drop (32 * (slot % 16)) (block_at blocks (1 + slot / 16)))

-- what so many entries say, from a slot on
abbrev pub old_entries_from : List (List ℕ) → (slot : ℕ) → ℕ → List Said
old_entries_from blocks slot zero = []
old_entries_from blocks slot (suc n) =
    old_entry_says (length blocks) (old_entry_at blocks slot) ∷ old_entries_from blocks (slot + 1) n

unfoldable pub old_entries_of : List (List ℕ) → List Said
old_entries_of blocks = old_entries_from blocks 0 64

-- the first broken rule of an image of version 1; no block at all breaks none
abbrev pub old_fault_of : List (List ℕ) → Option MountFault
old_fault_of [] = None
old_fault_of (block ∷ blocks) =
    first_broken [] (header_rules 1 (block ∷ blocks) ++ slot_rules 5 (block ∷ blocks) 0 [] (old_entries_of (block ∷ blocks)))

-- the files of an image of version 1, in its 64 slots
unfoldable pub old_slots_of : List (List ℕ) → List (Option File)
old_slots_of blocks = map (slot_in blocks) (old_entries_of blocks)

-- the blocks are a valid image of version 1 and hold these files
pub record OldHolds (blocks : List (List ℕ)) (slots : List (Option File)) : Type 0 where
  pub valid : old_fault_of blocks ≡ None
  pub files : old_slots_of blocks ≡ slots
