-- Definition. The special symbols.
use Rattle.std.specs.Prelude.{ℕ, List, [], ◌∷◌, ◌==◌, Option, Some, None, if◌then◌else◌}
use Rattle.edi_lex.specs.declared.symbol.Symbol.{Symbol}
use Rattle.edi_lex.specs.declared.symbol.Symbol.TheVariants as is

-- the special symbol of this one byte
abbrev pub special_of : ℕ → Option Symbol
special_of b =
    if b == 40 then Some is.Open else
    if b == 41 then Some is.Close else
    if b == 42 then Some is.Star else
    if b == 43 then Some is.Plus else
    if b == 44 then Some is.Comma else
    if b == 45 then Some is.Minus else
    if b == 46 then Some is.Period else
    if b == 58 then Some is.Colon else
    if b == 59 then Some is.Semicolon else
    if b == 60 then Some is.Less else
    if b == 61 then Some is.Equal else
    if b == 62 then Some is.Greater else
    if b == 91 then Some is.OpenBracket else
    if b == 93 then Some is.CloseBracket else
    None

-- the special symbol of these two bytes: `<= >= :=` and `<>`
abbrev pub special_pair : ℕ → ℕ → Option Symbol
special_pair b c =
    if c == 61 then (if b == 60 then Some is.AtMost else if b == 62 then Some is.AtLeast else if b == 58 then Some is.Becomes else None) else
    if c == 62 then (if b == 60 then Some is.NotEqual else None) else
    None

-- the special symbol of this byte and the one behind it
abbrev pub special_with : ℕ → List ℕ → Option Symbol
special_with b [] = None
special_with b (c ∷ rest) = special_pair b c
