-- Definition. How symbols are spelled, but for word symbols and special symbols.
use Rattle.std.specs.Prelude.{ℕ, ◌+◌, ◌-◌, ◌*◌, ℤ, pos, nat_le, List, [], ◌∷◌, Option, Some, None}
use Rattle.std.specs.Prelude.{unwrap_or, if◌then◌else◌}
use Rattle.edi_lex.specs.Words.{word_of}
use Rattle.edi_lex.specs.declared.symbol.Symbol.{Symbol}
use Rattle.edi_lex.specs.declared.symbol.Symbol.TheVariants.{Name}

-- the number that these digits spell behind a number
abbrev pub number_from : ℕ → List ℕ → ℕ
number_from n [] = n
number_from n (d ∷ digits) = number_from (n * 10 + (d - 48)) digits

-- the number that digits spell, if it is at most 32767
abbrev pub number_of : List ℕ → Option ℤ
number_of digits = let n = number_from 0 digits in if nat_le n 32767 then Some (pos n) else None

-- a word symbol, or else a name
abbrev pub word_or_name : List ℕ → Symbol
word_or_name name = unwrap_or (word_of name) (Name name)
