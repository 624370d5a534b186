-- Words of contracts. How many bytes of an image of version 1 have to be fetched.
use Rattle.std.specs.Prelude.{◌≡◌, ℕ, List, take, None}
use Rattle.edi_host.specs.BytesAsBlocks.{blocks_of}
use Rattle.edi_image.specs.migrate.OldImage.{old_fault_of}

-- a block more than an image may have
abbrev pub most_fetched : ℕ
most_fetched = 2097664

-- The first 2,097,664 bytes of a file have, as an image of version 1, the same first broken rule as all of them, or none as these.
-- Where they break none, there are no others.
abbrev pub FirstBytesDecide : Type 0
FirstBytesDecide =
    (bytes : List ℕ) → (old_fault_of (blocks_of (take most_fetched bytes)) ≡ old_fault_of (blocks_of bytes))
    × (old_fault_of (blocks_of (take most_fetched bytes)) ≡ None → take most_fetched bytes ≡ bytes)
