-- Definition. The state of a session, and what the shell takes and shows.
use Rattle.std.specs.Prelude.{ℕ, ◌+◌, ◌==◌, Bool, true, false, ◌&&◌, nat_le, if◌then◌else◌, List, [], ◌∷◌, ◌++◌, drop}
use Rattle.std.specs.Str.{bytes_eq}
use Rattle.edi_calls.specs.State.{State}
use Rattle.edi_edit.specs.Editing.{Editing}
use Rattle.edi_session.specs.Course.{Course, starts_in, shows, prints, leaves_input}
use Rattle.edi_session.specs.Texts.{line_end}

-- what the next line is: a command, or a line of the editing of a file
pub data Mode : Type 0 where
  commanding : Mode
  editing : (title : List ℕ) → Editing → Mode

-- The system with its course, the number of bytes that the shell itself has taken, and the number of choices drawn. So many bytes
-- had been shown before the session.
pub record Shell : Type 0 where
  pub system : Course
  pub taken : ℕ
  pub drawn : ℕ
  pub shown_before : ℕ
  pub mode : Mode

abbrev pub state_in : Shell → State
state_in s = s.system.now

-- a session begins
abbrev pub session_on : State → (drawn shown_before : ℕ) → Shell
session_on state drawn shown_before =
    record { system = starts_in state; taken = 0; drawn = drawn; shown_before = shown_before; mode = commanding }

-- ---- showing and printing

abbrev pub shown_by : List ℕ → Shell → Shell
shown_by bytes s = record s { system = shows bytes s.system }

abbrev pub printed_by : List ℕ → Shell → Shell
printed_by bytes s = record s { system = prints bytes s.system }

-- the bytes that the session has shown so far
abbrev pub shown_in : Shell → List ℕ
shown_in s = drop s.shown_before (state_in s).shown

-- the fresh-line rule
abbrev pub on_fresh_line : Shell → Shell
on_fresh_line s = shown_by (line_end (shown_in s)) s

-- a shown line
abbrev pub says : List ℕ → Shell → Shell
says text s = shown_by (text ++ 10 ∷ []) s

-- ---- taking lines

-- the most bytes that the shell takes in a session
abbrev pub limit : ℕ
limit = 4194304

-- what came of asking for lines: these bytes; or the input ended first; or the limit had been taken and another byte was
-- asked for, which comes before the end of the input is seen
pub data Taken : Type 0 where
  took : List ℕ → Shell → Taken
  ended : Shell → Taken
  limited : Shell → Taken

-- the shell at which it came
abbrev pub shell_of : Taken → Shell
shell_of (took bytes s) = s
shell_of (ended s) = s
shell_of (limited s) = s

abbrev pub took_byte : (left : List ℕ) → Shell → Shell
took_byte left s = record s { system = leaves_input left s.system; taken = s.taken + 1 }

-- a command line is shown as it comes, other lines are not
abbrev pub echoed : Bool → List ℕ → Shell → Shell
echoed true bytes s = shown_by bytes s
echoed false bytes s = s

-- a last line without its line feed counts where it is not empty
abbrev pub last_line : Bool → List ℕ → Shell → Taken
last_line echo [] s = ended s
last_line echo (b ∷ bytes) s = took (b ∷ bytes) (echoed echo (10 ∷ []) s)

-- a line, of which some bytes are taken already, from this input
abbrev pub take_line : Bool → (input line : List ℕ) → Shell → Taken
take_line echo [] line s = if nat_le limit s.taken then limited s else last_line echo line s
take_line echo (b ∷ input) line s =
    if nat_le limit s.taken then limited s
    else (if b == 10 then took line (echoed echo (10 ∷ []) (took_byte input s))
    else take_line echo input (line ++ b ∷ []) (echoed echo (b ∷ []) (took_byte input s)))

-- the next line of the session's input
abbrev pub next_line : Bool → Shell → Taken
next_line echo s = take_line echo (state_in s).input [] s

-- the line that ends a text which is entered: `.`
abbrev pub ends_text : List ℕ → Bool
ends_text line = bytes_eq line (46 ∷ [])

-- the text and the line with one more byte: a line feed ends the line, which then stands in the text
abbrev pub text_with : ℕ → (text line : List ℕ) → List ℕ
text_with b text line = if b == 10 then text ++ (line ++ 10 ∷ []) else text

abbrev pub line_with : ℕ → (line : List ℕ) → List ℕ
line_with b line = if b == 10 then [] else line ++ b ∷ []

-- lines up to the one that ends the text, each but that one with its line feed
abbrev pub take_text : (input text line : List ℕ) → Shell → Taken
take_text [] text line s =
    if nat_le limit s.taken then limited s else (if ends_text line then took text s else ended s)
take_text (b ∷ input) text line s =
    if nat_le limit s.taken then limited s
    else (if b == 10 && ends_text line then took text (took_byte input s)
    else take_text input (text_with b text line) (line_with b line) (took_byte input s))

abbrev pub next_text : Shell → Taken
next_text s = take_text (state_in s).input [] [] s
