-- Definition. Bytes as blocks of 512.
use Rattle.std.specs.Prelude.{ℕ, ◌/◌, List, length}
use Rattle.std.specs.Simd.{first_chunks}

-- bytes, a multiple of 512 of them, as blocks
abbrev pub blocks_of : List ℕ → List (List ℕ)
blocks_of bytes = first_chunks 512 (length bytes / 512) bytes
