-- Words of contracts. How many bytes of a text have to be fetched.
use Rattle.std.specs.Prelude.{◌≡◌, ℕ, false, List, take}
use Rattle.edi_lex.specs.Symbols.{is_too_long, symbols_of}

-- one more than a text may have
abbrev pub most_fetched : ℕ
most_fetched = 262145

-- The first 262,145 bytes of a text have the same symbols as all of them, or the same fault. Where they are not too long, there are
-- no others.
abbrev pub FirstBytesDecide : Type 0
FirstBytesDecide =
    (text : List ℕ) → (symbols_of (take most_fetched text) ≡ symbols_of text)
    × (is_too_long (take most_fetched text) ≡ false → take most_fetched text ≡ text)
