-- Words of contracts. The text that a scanner has read, told by what is left to do: whatever comes, the answer for the whole text is the
-- answer from here on.
use Rattle.std.specs.Prelude.{◌≡◌, ℕ, ◌+◌, true, ◌==◌, List, [], ◌∷◌, ◌++◌, length, Result, Err, Option, Some, None, if◌then◌else◌}
use Rattle.edi_lex.specs.Bytes.{is_comment_byte, feeds_at, line_feeds}
use Rattle.edi_lex.specs.Symbols.{symbols_from, with_front, is_too_long}
use Rattle.edi_lex.specs.declared.symbol.Mark.{Mark}
use Rattle.edi_lex.specs.declared.fault.LexFault.{LexFault}
use Rattle.edi_lex.specs.declared.fault.LexFault.TheVariants.{BadCharacter, BadNumeral, TooLong, NoMemory}
use Rattle.edi_lex.specs.declared.effect.Unfinished.{Unfinished}
use Rattle.edi_lex.specs.declared.effect.Unfinished.TheVariants.{Nothing, Comment, Name, Numeral, Chars, Apostrophes, Special}
use Rattle.edi_lex.specs.declared.cutter.Cutter.{Cutter}
use Rattle.edi_lex.specs.declared.scanner.Scanner.{Scanner}

-- the symbols of a text that begins on this line within a comment, which was opened on that one
abbrev pub comment_from : List ℕ → ℕ → ℕ → Result (List Mark × ℕ) LexFault
comment_from [] begun line = Err (BadCharacter begun)
comment_from (b ∷ rest) begun line =
    if b == 34 then symbols_from rest 0 line else
    if is_comment_byte b then comment_from rest begun (line + feeds_at b) else
    Err (BadCharacter begun)

-- the symbols of an unfinished piece and the rest of the text behind it, on this line
abbrev pub rest_of : Unfinished → List ℕ → ℕ → List ℕ → Result (List Mark × ℕ) LexFault
rest_of Nothing kept line rest = symbols_from rest 0 line
rest_of (Comment begun) kept line rest = comment_from rest begun line
rest_of Name kept line rest = symbols_from (kept ++ rest) 0 line
rest_of Numeral kept line rest = symbols_from (kept ++ rest) 0 line
rest_of Chars kept line rest = symbols_from (39 ∷ (kept ++ rest)) 0 line
rest_of Apostrophes kept line rest = symbols_from (39 ∷ 39 ∷ rest) 0 line
rest_of (Special b) kept line rest = symbols_from (b ∷ rest) 0 line

-- the marks so far, and then those
abbrev pub goes_on : Cutter → ℕ → List ℕ → Result (List Mark × ℕ) LexFault
goes_on c line rest = with_front c.marks (rest_of c.unfinished c.kept line rest)

-- so many bytes have been read, this is the line of the next, and whatever rest comes has this answer
pub record Reads (bytes line : ℕ) (answer : List ℕ → Result (List Mark × ℕ) LexFault) (text : List ℕ) : Type 0 where
  pub counted : bytes ≡ length text
  pub lined : line ≡ 1 + line_feeds text
  pub stated : (rest : List ℕ) → answer rest ≡ symbols_from (text ++ rest) 0 1

-- this is the text that has been read, with that fault so far
abbrev pub ReadsTo : Option LexFault → Cutter → ℕ → ℕ → List ℕ → Type 0
ReadsTo None c line bytes text = Reads bytes line (goes_on c line) text
ReadsTo (Some (BadCharacter at)) c line bytes text = Reads bytes line (λ rest. Err (BadCharacter at)) text
ReadsTo (Some (BadNumeral at)) c line bytes text = Reads bytes line (λ rest. Err (BadNumeral at)) text
ReadsTo (Some TooLong) c line bytes text = is_too_long text ≡ true
ReadsTo (Some NoMemory) c line bytes text = ⊥

-- this is the text that the scanner has read, and memory has not run out
unfoldable pub HasRead : Scanner → List ℕ → Type 0
HasRead s text = ReadsTo s.fault s.cutter s.line s.bytes text

-- memory has run out
unfoldable pub HasFailed : Scanner → Type 0
HasFailed s = s.fault ≡ Some NoMemory
