-- Words of contracts. A drive that has just been formatted.
use Rattle.std.specs.Prelude.{ℕ, ◌==◌, if◌then◌else◌, List, ◌∷◌, ◌++◌, drop, length, replicate}
use Rattle.edi_host.specs.Blocks.{zero_block}
use Rattle.edi_image.specs.Image.{header_block}

-- the blocks of the catalogue of an image of so many blocks that has no files
unfoldable pub new_catalogue : ℕ → List (List ℕ)
new_catalogue count = header_block 2 count ∷ replicate 32 zero_block

-- one of these blocks
unfoldable pub new_block : (count n : ℕ) → List ℕ
new_block count n = if n == 0 then header_block 2 count else zero_block

-- the blocks with the catalogue of no files; the others are as they were
abbrev pub formatted : List (List ℕ) → List (List ℕ)
formatted blocks = new_catalogue (length blocks) ++ drop 33 blocks
