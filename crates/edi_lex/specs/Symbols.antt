-- Definition. The symbols of a text. The text is cut from the front into pieces. A piece is a separator, a comment, or the
-- longest symbol that stands there. The first place where no piece stands is the fault.
use Rattle.std.specs.Prelude.{◌≡◌, ℤ, ℕ, zero, suc, ◌+◌, Bool, ◌&&◌, ◌||◌, nat_lt, nat_eq, ◌==◌, List, [], ◌∷◌, ◌++◌, length, take, slice_index, Result, Ok}
use Rattle.std.specs.Prelude.{Err, Option, Some, None, if◌then◌else◌, codes, ⊤}
use Rattle.std.specs.List.{prefix_len, starts_with}
use Rattle.edi_lex.specs.Bytes.{is_separator, is_letter, is_digit, is_name_byte, is_string_byte, is_comment_byte, feeds_at, line_feeds}
use Rattle.edi_lex.specs.Specials.{special_of, special_with}
use Rattle.edi_lex.specs.Spelling.{number_of, word_or_name}
use Rattle.edi_lex.specs.declared.symbol.Symbol.{Symbol}
use Rattle.edi_lex.specs.declared.symbol.Symbol.TheVariants.{Numeral, Chars}
use Rattle.edi_lex.specs.declared.symbol.Mark.{Mark}
use Rattle.edi_lex.specs.declared.symbol.Symbols.{Symbols}
use Rattle.edi_lex.specs.declared.fault.LexFault.{LexFault}
use Rattle.edi_lex.specs.declared.fault.LexFault.TheVariants as fault

-- What stands at the front of a text. The number says how many bytes the piece has behind its first byte.
pub data Piece : Type 0 where
  -- a separator or a comment
  space : ℕ → Piece
  -- a symbol
  stands : Symbol → ℕ → Piece
  -- none: a bad character, or a string or a comment that is not ended as it should be
  stray : Piece
  -- none: a numeral above 32767
  too_great : Piece

-- behind the opening quotation mark: bytes of comments, and a quotation mark
abbrev pub comment_piece : List ℕ → Piece
comment_piece rest = let n = prefix_len is_comment_byte rest in if slice_index rest n == 34 then space (n + 1) else stray

-- a name or a word symbol is as long as it can be
abbrev pub name_piece : ℕ → List ℕ → Piece
name_piece b rest = let n = prefix_len is_name_byte rest in stands (word_or_name (b ∷ take n rest)) n

-- a numeral of this value, if it has one
abbrev pub with_value : Option ℤ → ℕ → Piece
with_value None n = too_great
with_value (Some value) n = stands (Numeral value) n

-- a numeral is as long as it can be
abbrev pub numeral_piece : ℕ → List ℕ → Piece
numeral_piece b rest = let n = prefix_len is_digit rest in with_value (number_of (b ∷ take n rest)) n

-- behind the opening apostrophe: two more apostrophes, which make the string of one apostrophe; or one or more
-- bytes of strings, and an apostrophe
abbrev pub string_piece : List ℕ → Piece
string_piece rest =
    let n = prefix_len is_string_byte rest in
    if starts_with nat_eq rest (codes "''") then stands (Chars (codes "'")) 2 else
    if nat_lt 0 n && slice_index rest n == 39 then stands (Chars (take n rest)) (n + 1) else
    stray

-- the longer one of a special symbol of one byte and one of two, of which the first byte is a symbol too
abbrev pub longer_of : Option Symbol → Option Symbol → Piece
longer_of None two = stray
longer_of (Some one) None = stands one 0
longer_of (Some one) (Some two) = stands two 1

abbrev pub special_piece : ℕ → List ℕ → Piece
special_piece b rest = longer_of (special_of b) (special_with b rest)

-- what stands at the front of a text, by its first byte
unfoldable pub piece_of : ℕ → List ℕ → Piece
piece_of b rest =
    if is_letter b then name_piece b rest else
    if is_digit b then numeral_piece b rest else
    if is_separator b then space 0 else
    if b == 34 then comment_piece rest else
    if b == 39 then string_piece rest else
    special_piece b rest

-- marks in front of those of the rest
abbrev pub with_front : List Mark → Result (List Mark × ℕ) LexFault → Result (List Mark × ℕ) LexFault
with_front marks (Ok rest) = Ok (marks ++ rest.0, rest.1)
with_front marks (Err fault) = Err fault

-- what a piece on this line gives, where `go k` is what comes behind its first byte, of which k bytes belong to it
abbrev pub by_piece : Piece → ℕ → (ℕ → Result (List Mark × ℕ) LexFault) → Result (List Mark × ℕ) LexFault
by_piece (space k) line go = go k
by_piece (stands symbol k) line go = with_front (record { symbol = symbol; line = line } ∷ []) (go k)
by_piece stray line go = Err (fault.BadCharacter line)
by_piece too_great line go = Err (fault.BadNumeral line)

-- the symbols of a text that begins on this line, with the line of its end, or its fault; its first k bytes belong to
-- a piece that has been taken already
unfoldable pub symbols_from : List ℕ → ℕ → ℕ → Result (List Mark × ℕ) LexFault
symbols_from [] k line = Ok ([], line)
symbols_from (b ∷ rest) (suc k) line = symbols_from rest k (line + feeds_at b)
symbols_from (b ∷ rest) zero line = by_piece (piece_of b rest) line (λ k. symbols_from rest k (line + feeds_at b))

-- more than 262,144 bytes, or more than 65,534 line feeds
abbrev pub is_too_long : List ℕ → Bool
is_too_long text = nat_lt 262144 (length text) || nat_lt 65534 (line_feeds text)

-- the symbols of a text with their lines, and the line of its end; or its fault
abbrev pub symbols_of : List ℕ → Result (List Mark × ℕ) LexFault
symbols_of text = if is_too_long text then Err fault.TooLong else symbols_from text 0 1

-- what the scanner answers, unless memory runs out
abbrev pub ScanGives : Result Symbols LexFault → Result (List Mark × ℕ) LexFault → Type 0
ScanGives (Ok found) known = known ≡ Ok (found.marks, found.last)
ScanGives (Err fault.NoMemory) known = ⊤
ScanGives (Err (fault.BadCharacter line)) known = known ≡ Err (fault.BadCharacter line)
ScanGives (Err (fault.BadNumeral line)) known = known ≡ Err (fault.BadNumeral line)
ScanGives (Err fault.TooLong) known = known ≡ Err fault.TooLong
