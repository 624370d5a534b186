-- Helper. What the cutter keeps true of the marks so far and of the unfinished piece. No public contract cites this.
use Rattle.std.specs.Prelude.{◌≡◌, ℕ, ◌+◌, ◌≤◌, Bool, true, false, ◌&&◌, ◌||◌, not, ◌==◌, List, [], ◌∷◌, length, is_some}
use Rattle.std.specs.List.{list_all}
use Rattle.edi_lex.specs.Bytes.{is_letter, is_digit, is_separator, is_string_byte}
use Rattle.edi_lex.specs.Specials.{special_of}
use Rattle.edi_lex.specs.Spelled.{is_name, is_numeral, are_spelled}
use Rattle.edi_lex.specs.Order.{is_orderly, extent}
use Rattle.edi_lex.specs.declared.effect.Unfinished.{Unfinished}
use Rattle.edi_lex.specs.declared.effect.Unfinished.TheVariants.{Nothing, Comment, Name, Numeral, Chars, Apostrophes, Special}
use Rattle.edi_lex.specs.declared.cutter.Cutter.{Cutter}

abbrev pub is_empty : List ℕ → Bool
is_empty [] = true
is_empty (b ∷ more) = false

abbrev pub is_apostrophe : List ℕ → Bool
is_apostrophe (b ∷ []) = b == 39
is_apostrophe _ = false

-- a byte that begins a special symbol and nothing else
abbrev pub is_special : ℕ → Bool
is_special b = not (is_letter b || is_digit b || is_separator b || b == 34 || b == 39) && is_some (special_of b)

-- the bytes that are kept begin such a piece
abbrev pub is_begun : Unfinished → List ℕ → Bool
is_begun Nothing kept = is_empty kept
is_begun (Comment begun) kept = is_empty kept
is_begun Name kept = is_name kept
is_begun Numeral kept = is_numeral kept
is_begun Chars kept = list_all is_string_byte kept
is_begun Apostrophes kept = is_apostrophe kept
is_begun (Special b) kept = is_empty kept && is_special b

-- how many bytes of the text the unfinished piece has at least
abbrev pub pending : Unfinished → List ℕ → ℕ
pending Nothing kept = 0
pending (Comment begun) kept = 0
pending Name kept = 1
pending Numeral kept = 1
pending Chars kept = length kept
pending Apostrophes kept = 1
pending (Special b) kept = 1

-- the marks of a text of so many bytes, whose next byte stands on this line, are as `Symbols` keeps them
pub record IsSound (c : Cutter) (line bytes : ℕ) : Type 0 where
  pub spelled : are_spelled c.marks ≡ true
  pub orderly : is_orderly 1 c.marks line ≡ true
  pub begun : is_begun c.unfinished c.kept ≡ true
  pub few : extent c.marks + pending c.unfinished c.kept ≤ bytes
