-- Words of contracts. A piece as the code tells it, and classes of bytes.
use Rattle.std.specs.Prelude.{◌≡◌, ◌≤◌, ℕ, Bool, true, false, Option, Some, None}
use Rattle.edi_lex.specs.declared.symbol.Symbol.{Symbol}
use Rattle.edi_lex.specs.Bytes.{is_digit, is_name_byte, is_string_byte, is_comment_byte}
use Rattle.edi_lex.specs.Symbols.{Piece, space, stands, stray, too_great}
use Rattle.edi_explain.specs.declared.places.classes.Class.{Class}
use Rattle.edi_explain.specs.declared.places.classes.Class.TheVariants as class
use Rattle.edi_explain.specs.declared.places.cuts.Cut.{Cut}
use Rattle.edi_explain.specs.declared.places.cuts.Cut.TheVariants as cut

abbrev pub belongs : Class → ℕ → Bool
belongs class.Digits = is_digit
belongs class.Names = is_name_byte
belongs class.Strings = is_string_byte
belongs class.Comments = is_comment_byte

-- the piece that stands here, without its symbol; at a numeral that is too great no piece stands
abbrev pub Cuts : Piece → Cut → Type 0
Cuts (space k) c = c ≡ cut.Space k
Cuts (stands symbol k) c = c ≡ cut.Symbol k
Cuts stray c = c ≡ cut.Stray
Cuts too_great c = c ≡ cut.Stray

abbrev pub is_there : Option Symbol → Bool
is_there None = false
is_there (Some symbol) = true

-- it has no more bytes after its first than these
abbrev pub Within : ℕ → Cut → Type 0
Within n (cut.Space k) = k ≤ n
Within n (cut.Symbol k) = k ≤ n
Within n cut.Stray = Unit {0}
