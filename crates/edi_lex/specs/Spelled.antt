-- Words of contracts. When bytes spell a symbol.
use Rattle.std.specs.Prelude.{ℕ, pos, negsuc, Bool, true, false, ◌&&◌, ◌||◌, nat_le, ◌==◌, List, [], ◌∷◌, is_none}
use Rattle.std.specs.List.{list_all}
use Rattle.edi_lex.specs.Bytes.{is_letter, is_digit, is_name_byte, is_string_byte}
use Rattle.edi_lex.specs.Words.{word_of}
use Rattle.edi_lex.specs.declared.symbol.Symbol.{Symbol}
use Rattle.edi_lex.specs.declared.symbol.Symbol.TheVariants.{Name, Numeral, Chars}
use Rattle.edi_lex.specs.declared.symbol.Mark.{Mark}

-- a letter, and then letters, digits and `_`
abbrev pub is_name : List ℕ → Bool
is_name [] = false
is_name (b ∷ more) = is_letter b && list_all is_name_byte more

-- one or more digits
abbrev pub is_numeral : List ℕ → Bool
is_numeral [] = false
is_numeral (b ∷ more) = is_digit b && list_all is_digit more

-- one or more bytes of strings, or a single apostrophe
abbrev pub is_string : List ℕ → Bool
is_string [] = false
is_string (b ∷ []) = is_string_byte b || b == 39
is_string (b ∷ c ∷ more) = list_all is_string_byte (b ∷ c ∷ more)

-- a symbol that the language spells
abbrev pub is_spelled : Symbol → Bool
is_spelled (Name name) = is_name name && is_none (word_of name)
is_spelled (Numeral (pos n)) = nat_le n 32767
is_spelled (Numeral (negsuc n)) = false
is_spelled (Chars string) = is_string string
is_spelled _ = true

abbrev pub are_spelled : List Mark → Bool
are_spelled marks = list_all (λ m. is_spelled m.symbol) marks
