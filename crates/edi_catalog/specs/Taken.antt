-- Words of contracts. What a check of an image shows whatever the drive tells: no block is used twice, and a fault fits the number of blocks.
use Rattle.std.specs.Prelude.{◌≡◌, ℕ, true, false, ◌||◌, List, ◌∷◌, ◌++◌, Option, Some}
use Rattle.std.specs.Str.{bytes_eq}
use Rattle.edi_disk.specs.declared.disk.Disk.{Disk}
use Rattle.edi_disk.specs.Shown.{cached}
use Rattle.edi_image.specs.Image.{header_block}
use Rattle.edi_image.specs.Rules.{is_in}
use Rattle.edi_image.specs.Stored.{StoredFile}
use Rattle.edi_catalog.specs.Plan.{are_different, blocks_used}

-- ---- blocks

-- Blocks that are used from now on: none of them was used, none stands twice, and no other is used that was not.
pub record AreTaken (before after blocks : List ℕ) : Type 0 where
  pub different : are_different blocks ≡ true
  pub fresh : (n : ℕ) → is_in n blocks ≡ true → is_in n before ≡ false
  pub used : (n : ℕ) → is_in n after ≡ (is_in n before || is_in n blocks)

-- a map and its pages are used from now on, and the pages stand behind the others
pub record TakesMap (map : ℕ) (used_before used_after before after : List ℕ) : Type 0 where
  pub pages : List ℕ
  pub behind : after ≡ before ++ pages
  pub taken : AreTaken used_before used_after (map ∷ pages)

-- the blocks in use are those of the files, and none is used twice
pub record IsUseOf (used : List ℕ) (files : List (Option StoredFile)) : Type 0 where
  pub different : are_different (blocks_used files) ≡ true
  pub same : (n : ℕ) → is_in n used ≡ is_in n (blocks_used files)

-- ---- faults

-- block 0 is cached, and is not that of an image of so many blocks; of a clean disk it is as the drive has given it or has taken it
pub record IsOtherHeader {D : Type 0} (count : ℕ) (disk : Disk D) : Type 0 where
  pub bytes : List ℕ
  pub read : cached 0 disk ≡ Some bytes
  pub other : bytes_eq bytes (header_block 2 count) ≡ false
