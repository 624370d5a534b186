-- Definition. How a line of a text is shown, with its number, and the caret below it: at most 200 columns of it, those round the caret. Two
-- periods stand where the line has more.
use Rattle.std.specs.Prelude.{ℕ, suc, ◌-◌, ◌==◌, not, ◌&&◌, nat_le, nat_lt, List, [], ◌∷◌, ◌++◌, length, take, drop, map}
use Rattle.std.specs.Prelude.{if◌then◌else◌, codes}
use Rattle.std.specs.Fmt.{decimal}
use Rattle.std.specs.List.{prefix_len}

-- ---- where a line begins and ends

-- in bytes from the front: where the line begins that as many line feeds stand before
abbrev pub line_start_from : List ℕ → (feeds at : ℕ) → ℕ
line_start_from [] feeds at = at
line_start_from (b ∷ rest) feeds at =
    if feeds == 0 then at else line_start_from rest (if b == 10 then feeds - 1 else feeds) (suc at)

-- where the line of this number begins, counted from 1
abbrev pub line_start : List ℕ → (line : ℕ) → ℕ
line_start text line = line_start_from text (line - 1) 0

-- how many bytes stand before the first line feed
abbrev pub before_feed : List ℕ → ℕ
before_feed bytes = prefix_len (λ b. not (b == 10)) bytes

abbrev pub to_feed : List ℕ → List ℕ
to_feed bytes = take (before_feed bytes) bytes

abbrev pub line_bytes : List ℕ → (line : ℕ) → List ℕ
line_bytes text line = to_feed (drop (line_start text line) text)

-- ---- bytes as they are shown

-- A byte that prints, a blank and a tab are shown as they are, a carriage return as a blank, every other byte as a period.
abbrev pub shown_byte : ℕ → ℕ
shown_byte b = if nat_le 32 b && nat_le b 126 then b else if b == 9 then 9 else if b == 13 then 32 else 46

-- below it, before the caret, is a blank; below a tab a tab
abbrev pub under_byte : ℕ → ℕ
under_byte b = if b == 9 then 9 else 32

-- ---- lines

abbrev pub most_columns : ℕ
most_columns = 200

-- from which byte on a line of so many bytes is shown, whose caret stands after so many: from the first one where all of it is shown
abbrev pub first_shown : (size at : ℕ) → ℕ
first_shown size at = if nat_le size most_columns then 0 else at - 100

-- the sign that the line has bytes before this one, which are not shown
abbrev pub sign_before : (from : ℕ) → List ℕ
sign_before from = if nat_lt 0 from then codes ".. " else []

-- the sign that of so many bytes not all are shown
abbrev pub sign_after : (left : ℕ) → List ℕ
sign_after left = if nat_lt most_columns left then codes " .." else []

-- these bytes of the line, from one on
abbrev pub shown_line : (line : ℕ) → List ℕ → (from : ℕ) → List ℕ
shown_line line bytes from =
    decimal line
    ++ (codes ": "
    ++ (sign_before from ++ (map shown_byte (take most_columns (drop from bytes)) ++ (sign_after (length bytes - from) ++ codes "\n"))))

abbrev pub caret_line : (line : ℕ) → List ℕ → (from at : ℕ) → List ℕ
caret_line line bytes from at =
    map under_byte (decimal line)
    ++ (codes "  " ++ (map under_byte (sign_before from) ++ (map under_byte (take (at - from) (drop from bytes)) ++ codes "^\n")))

-- the line of these bytes with the caret after so many of them
abbrev pub pointed_bytes : (line : ℕ) → List ℕ → (at : ℕ) → List ℕ
pointed_bytes line bytes at =
    let from = first_shown (length bytes) at in
    shown_line line bytes from ++ caret_line line bytes from at

-- THE LINE OF A PLACE, in bytes from the front of the text, with the caret at it
abbrev pub pointed_line : List ℕ → (line place : ℕ) → List ℕ
pointed_line text line place = pointed_bytes line (line_bytes text line) (place - line_start text line)

-- a line without a caret
abbrev pub whole_line : List ℕ → (line : ℕ) → List ℕ
whole_line text line = shown_line line (line_bytes text line) 0

-- the line of the end of the text
abbrev pub end_line : (line : ℕ) → List ℕ
end_line line = decimal line ++ codes ": (the end of the text)\n"
