-- Definition. The command lines of the shell, and the lines of an editing: what the bytes of a line say.
use Rattle.std.specs.Prelude.{ℕ, ◌==◌, Bool, true, false, ◌&&◌, ◌||◌, nat_le, filter, List, [], ◌∷◌, take, length, if◌then◌else◌, codes}
use Rattle.std.specs.List.{list_all, slice_split}
use Rattle.std.specs.Str.{bytes_eq}
use Rattle.edi_calls.specs.State.{is_digit, is_title}
use Rattle.edi_trace.specs.Lines.{number_of}
use Rattle.edi_session.specs.declared.line.Line.{Line}
use Rattle.edi_session.specs.declared.line.Line.TheVariants as line
use Rattle.edi_session.specs.declared.line.EditLine.{EditLine}
use Rattle.edi_session.specs.declared.line.EditLine.TheVariants as edit

-- ---- command lines

-- a blank, a tab or a carriage return
abbrev pub is_gap : ℕ → Bool
is_gap b = b == 32 || b == 9 || b == 13

abbrev pub is_line_byte : ℕ → Bool
is_line_byte b = is_gap b || (nat_le 33 b && nat_le b 126)

abbrev pub is_word : List ℕ → Bool
is_word [] = false
is_word (b ∷ bytes) = true

abbrev pub words_in : List ℕ → List (List ℕ)
words_in line = filter is_word (slice_split is_gap line)

-- operands are titles, as many as the command has
abbrev pub none_of : List (List ℕ) → Line → Line
none_of [] command = command
none_of _ command = line.Bad

abbrev pub one_of : List (List ℕ) → (List ℕ → Line) → Line
one_of (f ∷ []) command = if is_title f then command f else line.Bad
one_of _ command = line.Bad

abbrev pub two_of : List (List ℕ) → (List ℕ → List ℕ → Line) → Line
two_of (f ∷ g ∷ []) command = if is_title f && is_title g then command f g else line.Bad
two_of _ command = line.Bad

-- the command of a first word with these operands: the second half of the table, in which a title alone is a program
abbrev pub line_of_more : List ℕ → List (List ℕ) → Line
line_of_more word operands =
    if bytes_eq word (codes "delete") then one_of operands line.Delete
    else (if bytes_eq word (codes "protect") then one_of operands line.Protect
    else (if bytes_eq word (codes "release") then one_of operands line.Release
    else (if bytes_eq word (codes "compile") then two_of operands line.Compile
    else (if bytes_eq word (codes "edit") then one_of operands line.Edit
    else (if bytes_eq word (codes "halt") then none_of operands line.Halt
    else (if is_title word then none_of operands (line.Execute word) else line.Bad))))))

-- the command of a first word with these operands
abbrev pub line_of_word : List ℕ → List (List ℕ) → Line
line_of_word word operands =
    if bytes_eq word (codes "list") then none_of operands line.Catalogue
    else (if bytes_eq word (codes "type") then one_of operands line.Show
    else (if bytes_eq word (codes "print") then one_of operands line.Print
    else (if bytes_eq word (codes "enter") then one_of operands line.Enter
    else (if bytes_eq word (codes "copy") then two_of operands line.Copy
    else (if bytes_eq word (codes "rename") then two_of operands line.Rename
    else line_of_more word operands)))))

abbrev pub line_of_words : List (List ℕ) → Line
line_of_words [] = line.Blank
line_of_words (word ∷ operands) = line_of_word word operands

-- the command of a line of bytes: at most 80, each a separator or 33 to 126
abbrev pub command_line : List ℕ → Line
command_line bytes = if nat_le (length bytes) 80 && list_all is_line_byte bytes then line_of_words (words_in bytes) else line.Bad

-- ---- lines of an editing

-- 1 to 6 digits
abbrev pub is_number : List ℕ → Bool
is_number digits = nat_le 1 (length digits) && nat_le (length digits) 6 && list_all is_digit digits

-- `i`, `r`, `d` and `l` with a number
abbrev pub numbered_line : ℕ → ℕ → EditLine
numbered_line c n =
    if c == 105 then edit.Insert n
    else (if c == 114 then edit.Replace n
    else (if c == 100 then edit.Delete n
    else (if c == 108 then edit.Look n else edit.Bad)))

-- `u`, `w` and `q` alone
abbrev pub lettered : ℕ → EditLine
lettered c = if c == 117 then edit.Undo else (if c == 119 then edit.Write else (if c == 113 then edit.Quit else edit.Bad))

-- the letter, and before a number one blank
abbrev pub edit_line : List ℕ → EditLine
edit_line [] = edit.Bad
edit_line (c ∷ []) = lettered c
edit_line (c ∷ blank ∷ digits) = if blank == 32 && is_number digits then numbered_line c (number_of digits) else edit.Bad

-- of a longer line so many bytes are kept
abbrev pub kept_line : List ℕ → List ℕ
kept_line line = take 261121 line
