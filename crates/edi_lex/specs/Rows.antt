-- Computed rows. Small texts and their symbols.
use Rattle.std.specs.Prelude.{◌≡◌, refl, ℕ, pos, [], ◌∷◌, ◌++◌, Ok, Err, codes}
use Rattle.edi_lex.specs.Symbols.{piece_of, symbols_from, symbols_of}
use Rattle.edi_lex.specs.declared.symbol.Symbol.{Symbol}
use Rattle.edi_lex.specs.declared.symbol.Symbol.TheVariants as is
use Rattle.edi_lex.specs.declared.symbol.Mark.{Mark}
use Rattle.edi_lex.specs.declared.fault.LexFault.TheVariants.{BadCharacter, BadNumeral}

abbrev at : Symbol → ℕ → Mark
at symbol line = record { symbol = symbol; line = line }

pub row_empty : symbols_of [] ≡ Ok ([], 1)
unfolding symbols_from
row_empty = refl

pub row_line_feed : symbols_of (10 ∷ []) ≡ Ok ([], 2)
unfolding symbols_from piece_of
row_line_feed = refl

-- the longest symbol is taken
pub row_longest : symbols_of (codes "x:=-07<<=<>") ≡ Ok
    (at (is.Name (codes "x")) 1 ∷ at is.Becomes 1 ∷ at is.Minus 1 ∷ at (is.Numeral (pos 7)) 1 ∷ at is.Less 1 ∷ at is.AtMost 1 ∷ at is.NotEqual 1 ∷ [], 1)
unfolding symbols_from piece_of
row_longest = refl

-- word symbols are small letters, and whole
pub row_words : symbols_of (codes "do Do do_1") ≡ Ok (at is.Do 1 ∷ at (is.Name (codes "Do")) 1 ∷ at (is.Name (codes "do_1")) 1 ∷ [], 1)
unfolding symbols_from piece_of
row_words = refl

-- a string may be one apostrophe, and a comment may span lines
pub row_strings : symbols_of (codes "'''" ++ 34 ∷ 10 ∷ 39 ∷ 34 ∷ codes "'ab'") ≡ Ok (at (is.Chars (codes "'")) 1 ∷ at (is.Chars (codes "ab")) 2 ∷ [], 2)
unfolding symbols_from piece_of
row_strings = refl

pub row_numeral : symbols_of (codes "32767 32768") ≡ Err (BadNumeral 1)
unfolding symbols_from piece_of
row_numeral = refl

-- a string does not span lines
pub row_open_string : symbols_of (10 ∷ 39 ∷ 97 ∷ 10 ∷ 39 ∷ []) ≡ Err (BadCharacter 2)
unfolding symbols_from piece_of
row_open_string = refl

-- the fault of a comment is where it was opened
pub row_open_comment : symbols_of (10 ∷ 34 ∷ 10 ∷ 10 ∷ 127 ∷ 34 ∷ []) ≡ Err (BadCharacter 2)
unfolding symbols_from piece_of
row_open_comment = refl
