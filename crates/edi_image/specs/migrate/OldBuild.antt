-- Helper. How images of version 1 are made, for worked examples.
use Rattle.std.specs.Prelude.{ℕ, ◌-◌, ◌/◌, ◌%◌, ◌^◌, List, ◌∷◌, ◌++◌, length, replicate}
use Rattle.edi_host.specs.Blocks.{zero_block}
use Rattle.edi_image.specs.Image.{header_block}
use Rattle.edi_image.specs.Build.{filled, two}

-- an entry of version 1
unfoldable pub old_entry_bytes : (title : List ℕ) (kind protected map length : ℕ) → List ℕ
old_entry_bytes title kind protected map bytes =
    filled 32 (title ++ (replicate (12 - length title) 32
    ++ (kind ∷ protected ∷ (two map ++ (two (bytes / 2 ^ 16) ++ two (bytes % 2 ^ 16))))))

-- an image of version 1 of 64 blocks whose first entries are these, with these blocks behind its catalogue
unfoldable pub old_image : (entries : List ℕ) → List (List ℕ) → List (List ℕ)
old_image entries behind =
    header_block 1 64 ∷ filled 512 entries ∷ (replicate 3 zero_block ++ (behind ++ replicate (59 - length behind) zero_block))
