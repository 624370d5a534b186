-- Words of contracts. How many bytes of a code file have to be fetched.
use Rattle.std.specs.Prelude.{◌≡◌, ℕ, List, take, None}
use Rattle.edi_target.specs.File.{code_fault_of}

-- one more than the header and 4,194,304 words have
abbrev pub most_fetched : ℕ
most_fetched = 8388641

-- The first 8,388,641 bytes of a code file have the same fault as all of them, or none as these. Where they have none, there are no
-- others.
abbrev pub FirstBytesDecide : Type 0
FirstBytesDecide =
    (bytes : List ℕ) → (code_fault_of (take most_fetched bytes) ≡ code_fault_of bytes)
    × (code_fault_of (take most_fetched bytes) ≡ None → take most_fetched bytes ≡ bytes)
