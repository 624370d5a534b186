-- Words of contracts. How many bytes of a file of choices have to be fetched.
use Rattle.std.specs.Prelude.{◌≡◌, ℕ, List, take}
use Rattle.edi_trace.specs.Lines.{Reading, values, read_of}

-- one more than 65,536 lines of four bytes have
abbrev pub most_fetched : ℕ
most_fetched = 262145

-- The first 262,145 bytes of a file of choices have the same reading as all of them: the same choices, or the same first bad
-- line. Where they have choices, there are no others.
abbrev pub FirstBytesDecide : Type 0
FirstBytesDecide =
    (bytes : List ℕ) → (read_of (take most_fetched bytes) ≡ read_of bytes)
    × ((choices : List ℕ) → read_of (take most_fetched bytes) ≡ values choices → take most_fetched bytes ≡ bytes)
