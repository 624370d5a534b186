-- Helper. The scanner as a machine that takes one byte after another. No public contract cites this.
use Rattle.std.specs.Prelude.{◌≡◌, ℤ, ℕ, Bool, ◌&&◌, ◌||◌, ◌==◌, [], ◌∷◌, ◌++◌, length, Result, Ok, Err, Option, Some, None, ⊤}
use Rattle.edi_lex.specs.Specials.{special_of}
use Rattle.edi_lex.specs.Spelling.{number_of, word_or_name}
use Rattle.edi_lex.specs.Effects.{first_effect, next_effect}
use Rattle.edi_lex.specs.declared.symbol.Symbol.{Symbol}
use Rattle.edi_lex.specs.declared.symbol.Symbol.TheVariants as is
use Rattle.edi_lex.specs.declared.fault.LexFault.{LexFault}
use Rattle.edi_lex.specs.declared.fault.LexFault.TheVariants.{BadCharacter, BadNumeral, TooLong, NoMemory}
use Rattle.edi_lex.specs.declared.effect.Unfinished.TheVariants.{Nothing, Comment, Name, Numeral, Chars, Apostrophes, Special}
use Rattle.edi_lex.specs.declared.effect.Effect.{Effect}
use Rattle.edi_lex.specs.declared.effect.Effect.TheVariants.{Passes, Keeps, Closes, Completes, Ends, Fails}
use Rattle.edi_lex.specs.declared.cutter.Cutter.{Cutter}

-- one more symbol, and no piece unfinished
abbrev pub with_symbol : Cutter → Symbol → ℕ → Cutter
with_symbol c symbol line = record { marks = c.marks ++ record { symbol = symbol; line = line } ∷ []; unfinished = Nothing; kept = [] }

-- after this effect of a byte on this line
abbrev pub after_effect : Cutter → Effect → ℕ → ℕ → Result Cutter LexFault
after_effect c (Passes piece) b line = Ok (record c { unfinished = piece })
after_effect c (Keeps piece) b line = Ok (record c { unfinished = piece; kept = c.kept ++ b ∷ [] })
after_effect c (Completes symbol) b line = Ok (with_symbol c symbol line)
after_effect c Closes b line = Ok (with_symbol c (is.Chars c.kept) line)
after_effect c Ends b line = Ok c
after_effect c (Fails fault) b line = Err fault

-- with a symbol at its end, or with a fault
abbrev pub symbol_or : Cutter → Option Symbol → LexFault → ℕ → Result Cutter LexFault
symbol_or c None fault line = Err fault
symbol_or c (Some symbol) fault line = Ok (with_symbol c symbol line)

abbrev pub numeral_of : Option ℤ → Option Symbol
numeral_of None = None
numeral_of (Some value) = Some (is.Numeral value)

-- where the unfinished piece ends on this line
abbrev pub at_end : Cutter → ℕ → Result Cutter LexFault
at_end c line = elim c.unfinished [
  | Nothing ↦ Ok c
  | Comment begun ↦ Err (BadCharacter begun)
  | Name ↦ Ok (with_symbol c (word_or_name c.kept) line)
  | Numeral ↦ symbol_or c (numeral_of (number_of c.kept)) (BadNumeral line) line
  | Chars ↦ Err (BadCharacter line)
  | Apostrophes ↦ Err (BadCharacter line)
  | Special b ↦ symbol_or c (special_of b) (BadCharacter line) line
]

-- the first byte of a piece
abbrev pub after_first : Result Cutter LexFault → ℕ → ℕ → Result Cutter LexFault
after_first (Err fault) b line = Err fault
after_first (Ok c) b line = after_effect c (first_effect b line) b line

-- a byte that belongs to the unfinished piece, or ends it
abbrev pub after_next : Cutter → Effect → ℕ → ℕ → Result Cutter LexFault
after_next c Ends b line = after_first (at_end c line) b line
after_next c effect b line = after_effect c effect b line

-- one byte more
abbrev pub after_byte : Cutter → ℕ → ℕ → Result Cutter LexFault
after_byte c b line = after_next c (next_effect c.unfinished (length c.kept == 0) b line) b line

-- what a call of the cutter answers and leaves, unless memory runs out
abbrev pub CutterGives : Result (Unit {0}) LexFault → Cutter → Result Cutter LexFault → Type 0
CutterGives (Ok done) new known = known ≡ Ok new
CutterGives (Err NoMemory) new known = ⊤
CutterGives (Err (BadCharacter line)) new known = known ≡ Err (BadCharacter line)
CutterGives (Err (BadNumeral line)) new known = known ≡ Err (BadNumeral line)
CutterGives (Err TooLong) new known = known ≡ Err TooLong

-- the fault of a text with one byte more, which had this fault before, and what the cutter is left as
abbrev pub FaultGives : Option LexFault → Option LexFault → Cutter → Result Cutter LexFault → Type 0
FaultGives (Some before) fault new known = fault ≡ Some before
FaultGives None None new known = known ≡ Ok new
FaultGives None (Some NoMemory) new known = ⊤
FaultGives None (Some (BadCharacter line)) new known = known ≡ Err (BadCharacter line)
FaultGives None (Some (BadNumeral line)) new known = known ≡ Err (BadNumeral line)
FaultGives None (Some TooLong) new known = known ≡ Err TooLong

-- a byte on this line makes a text of so many bytes too long
abbrev pub is_full : ℕ → ℕ → ℕ → Bool
is_full bytes line b = bytes == 262144 || (b == 10 && line == 65535)
