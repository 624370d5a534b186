-- Helper. What a byte does to the piece of text that is unfinished before it. No public contract cites this.
use Rattle.std.specs.Prelude.{ℕ, Bool, ◌==◌, Option, Some, None, if◌then◌else◌}
use Rattle.edi_lex.specs.Bytes.{is_separator, is_letter, is_digit, is_name_byte, is_string_byte, is_comment_byte}
use Rattle.edi_lex.specs.Specials.{special_of, special_pair}
use Rattle.edi_lex.specs.declared.symbol.Symbol.{Symbol}
use Rattle.edi_lex.specs.declared.fault.LexFault.TheVariants.{BadCharacter}
use Rattle.edi_lex.specs.declared.effect.Unfinished.{Unfinished}
use Rattle.edi_lex.specs.declared.effect.Unfinished.TheVariants.{Nothing, Comment, Name, Numeral, Chars, Apostrophes, Special}
use Rattle.edi_lex.specs.declared.effect.Effect.{Effect}
use Rattle.edi_lex.specs.declared.effect.Effect.TheVariants.{Passes, Keeps, Closes, Completes, Ends, Fails}

-- a byte that begins a special symbol, or nothing
abbrev pub special_turn : Option Symbol → ℕ → ℕ → Effect
special_turn None b line = Fails (BadCharacter line)
special_turn (Some symbol) b line = Passes (Special b)

-- where no piece is unfinished
abbrev pub first_effect : ℕ → ℕ → Effect
first_effect b line =
    if is_letter b then Keeps Name else
    if is_digit b then Keeps Numeral else
    if is_separator b then Passes Nothing else
    if b == 34 then Passes (Comment line) else
    if b == 39 then Passes Chars else
    special_turn (special_of b) b line

-- in a comment that has begun on this line
abbrev pub comment_turn : ℕ → ℕ → Effect
comment_turn begun b = if b == 34 then Passes Nothing else if is_comment_byte b then Passes (Comment begun) else Fails (BadCharacter begun)

-- in a string, which is empty so far or not
abbrev pub string_turn : Bool → ℕ → ℕ → Effect
string_turn is_empty b line =
    if b == 39 then (if is_empty then Keeps Apostrophes else Closes) else
    if is_string_byte b then Keeps Chars else
    Fails (BadCharacter line)

-- behind the first byte of a special symbol, with which the byte makes a symbol or none
abbrev pub pair_turn : Option Symbol → Effect
pair_turn None = Ends
pair_turn (Some symbol) = Completes symbol

-- behind an unfinished piece, of which no byte is kept or some are
abbrev pub next_effect : Unfinished → Bool → ℕ → ℕ → Effect
next_effect Nothing is_empty b line = Ends
next_effect (Comment begun) is_empty b line = comment_turn begun b
next_effect Name is_empty b line = if is_name_byte b then Keeps Name else Ends
next_effect Numeral is_empty b line = if is_digit b then Keeps Numeral else Ends
next_effect Chars is_empty b line = string_turn is_empty b line
next_effect Apostrophes is_empty b line = if b == 39 then Closes else Fails (BadCharacter line)
next_effect (Special first) is_empty b line = pair_turn (special_pair first b)
