-- Words of contracts. How blocks of an image are made: for worked examples, and for the files that are stored.
use Rattle.std.specs.Prelude.{ℕ, ◌-◌, ◌/◌, ◌%◌, ◌^◌, List, [], ◌∷◌, ◌++◌, length, replicate}
use Rattle.edi_host.specs.Blocks.{zero_block}
use Rattle.edi_image.specs.Image.{header_block}

-- bytes, and zeros behind them up to so many
unfoldable pub filled : ℕ → List ℕ → List ℕ
filled size bytes = bytes ++ replicate (size - length bytes) 0

-- a number in two bytes, the high one first
unfoldable pub two : ℕ → List ℕ
two n = n / 256 ∷ n % 256 ∷ []

-- an entry of version 2: a title and the blanks behind it, the kind, whether it is protected, the two maps, the length
unfoldable pub entry_bytes : (title : List ℕ) (kind protected first second length : ℕ) → List ℕ
entry_bytes title kind protected first second bytes =
    filled 64 (title ++ (replicate (24 - length title) 32
    ++ (kind ∷ protected ∷ (two first ++ (two second ++ (two (bytes / 2 ^ 16) ++ two (bytes % 2 ^ 16)))))))

-- a map block with these page numbers
abbrev pub all_two : List ℕ → List ℕ
all_two [] = []
all_two (n ∷ numbers) = two n ++ all_two numbers

unfoldable pub map_block : List ℕ → List ℕ
map_block pages = filled 512 (two (length pages) ++ all_two pages)

-- an image of 64 blocks whose first entries are these, with these blocks behind its catalogue
unfoldable pub image : (entries : List ℕ) → List (List ℕ) → List (List ℕ)
image entries behind =
    header_block 2 64 ∷ filled 512 entries ∷ (replicate 31 zero_block ++ (behind ++ replicate (31 - length behind) zero_block))
