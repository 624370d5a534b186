-- Definition. Classes of bytes.
use Rattle.std.specs.Prelude.{ℕ, ◌+◌, Bool, ◌&&◌, ◌||◌, not, nat_le, ◌==◌, List, [], ◌∷◌, if◌then◌else◌}

-- blank, tab, carriage return and line feed
abbrev pub is_separator : ℕ → Bool
is_separator b = b == 32 || b == 9 || b == 13 || b == 10

-- `a` to `z` and `A` to `Z`
abbrev pub is_letter : ℕ → Bool
is_letter b = (nat_le 97 b && nat_le b 122) || (nat_le 65 b && nat_le b 90)

-- `0` to `9`
abbrev pub is_digit : ℕ → Bool
is_digit b = nat_le 48 b && nat_le b 57

-- a letter, a digit or `_`
abbrev pub is_name_byte : ℕ → Bool
is_name_byte b = is_letter b || is_digit b || b == 95

-- a blank or a byte that prints
abbrev pub is_graphic : ℕ → Bool
is_graphic b = nat_le 32 b && nat_le b 126

-- what may stand in a string: such a byte, but no apostrophe
abbrev pub is_string_byte : ℕ → Bool
is_string_byte b = is_graphic b && not (b == 39)

-- what may stand in a comment: such a byte, but no quotation mark, or a separator
abbrev pub is_comment_byte : ℕ → Bool
is_comment_byte b = (is_graphic b && not (b == 34)) || is_separator b

-- 1 for a line feed, else 0
abbrev pub feeds_at : ℕ → ℕ
feeds_at b = if b == 10 then 1 else 0

-- how many line feeds a text has
abbrev pub line_feeds : List ℕ → ℕ
line_feeds [] = 0
line_feeds (b ∷ rest) = feeds_at b + line_feeds rest
