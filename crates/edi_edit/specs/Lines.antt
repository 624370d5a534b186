-- Definition. A text as a list of lines.
use Rattle.std.specs.Prelude.{◌≡◌, false, ℕ, zero, suc, ◌+◌, ◌==◌, if◌then◌else◌, Option, None, List, [], ◌∷◌, ◌++◌, length, sum_by, slice_get, Bool}
use Rattle.std.specs.List.{list_any}

-- the lines with one more byte at their front
abbrev pub with_byte : ℕ → List (List ℕ) → List (List ℕ)
with_byte byte [] = (byte ∷ []) ∷ []
with_byte byte (line ∷ lines) = (byte ∷ line) ∷ lines

-- the pieces of a text between its line feeds; after the last line feed only a piece that is not empty
abbrev pub lines_of : List ℕ → List (List ℕ)
lines_of [] = []
lines_of (byte ∷ bytes) = if byte == 10 then [] ∷ lines_of bytes else with_byte byte (lines_of bytes)

-- whether a line feed is among these bytes
abbrev pub has_feed : List ℕ → Bool
has_feed bytes = list_any (λ byte. byte == 10) bytes

-- no line holds a line feed
abbrev pub HaveNoFeed : List (List ℕ) → Type 0
HaveNoFeed [] = Unit {0}
HaveNoFeed (line ∷ lines) = (has_feed line ≡ false) × HaveNoFeed lines

-- the lines as bytes, each with its line feed
abbrev pub bytes_of_lines : List (List ℕ) → List ℕ
bytes_of_lines [] = []
bytes_of_lines (line ∷ lines) = line ++ 10 ∷ bytes_of_lines lines

-- how many bytes these are
abbrev pub size_of_lines : List (List ℕ) → ℕ
size_of_lines lines = sum_by (λ line. length line + 1) lines

-- the line of that number, counted from 1
abbrev pub line_numbered : List (List ℕ) → ℕ → Option (List ℕ)
line_numbered lines zero = None
line_numbered lines (suc i) = slice_get lines i
