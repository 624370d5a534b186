-- Definition. THE TEXT of a timeline: a line for each of the first 100,000 stints. Where there are more, one more line says how many, and how the run
-- has ended.
use Rattle.std.specs.Prelude.{ℕ, suc, Bool, ◌&&◌, ◌==◌, not, nat_le, nat_lt, if◌then◌else◌, List, [], ◌∷◌, ◌++◌, length, take, codes}
use Rattle.std.specs.Prelude.{Option, Some, None}
use Rattle.std.specs.Fmt.{decimal}
use Rattle.edi_calls.specs.declared.kinds.Cause.TheVariants as cause
use Rattle.edi_calls.specs.Names.{Name}
use Rattle.edi_calls.specs.Outcome as outcome
use Rattle.edi_calls.specs.Outcome.{Ending}
use Rattle.edi_texts.specs.Lines.{cause_text, on_line, with_number}
use Rattle.edi_timeline.specs.Stints.{Start, begin, join, at, End, arrives, waits, tries, forks, ends, over, Stint}

-- ---- words

-- branch i, counted from 1, of a `cobegin`; the name counts it from 0
abbrev pub branch_text : (fork i : ℕ) → List ℕ
branch_text fork i = decimal fork ++ (codes "." ++ decimal (suc i))

abbrev pub branches_text : Name → List ℕ
branches_text (f ∷ i ∷ []) = branch_text f i
branches_text (f ∷ i ∷ g ∷ name) = branch_text f i ++ (codes "/" ++ branches_text (g ∷ name))
branches_text _ = []

-- `main`; `1.2`, branch 2 of its first `cobegin`; `1.2/1.1`, branch 1 of the first `cobegin` of that
abbrev pub process_text : Name → List ℕ
process_text [] = codes "main"
process_text (f ∷ name) = branches_text (f ∷ name)

-- ` N` for each line
abbrev pub place_text : List ℕ → List ℕ
place_text [] = []
place_text (line ∷ lines) = codes " " ++ (decimal line ++ place_text lines)

abbrev pub start_text : Start → List ℕ
start_text begin = codes " begin"
start_text join = codes " join"
start_text (at lines) = place_text lines

abbrev pub ending_text : Ending → List ℕ
ending_text outcome.done = codes "done"
ending_text (outcome.halted line) = on_line line (cause_text cause.Halt)
ending_text (outcome.failed why line) = on_line line (cause_text why)
ending_text outcome.turns = codes "turn limit"
ending_text outcome.standstill = codes "standstill"
ending_text (outcome.bad address) = with_number (codes "bad code state") address

-- `: ENDING`, if it is told
abbrev pub how_text : Option Ending → List ℕ
how_text None = []
how_text (Some ending) = codes ": " ++ ending_text ending

abbrev pub end_text : End → List ℕ
end_text (arrives lines) = codes "arrives" ++ place_text lines
end_text waits = codes "waits"
end_text tries = codes "tries"
end_text (forks n) = codes "forks " ++ decimal n
end_text ends = codes "ends"
end_text (over ending) = ending_text ending

abbrev pub turns_text : (first last : ℕ) → List ℕ
turns_text first last =
    if nat_le first last then codes " turns " ++ (decimal first ++ (codes " " ++ decimal last)) else codes " no turn"

-- ---- what was shown

-- a character that stands for itself: from the blank to `~`, but `"` and `\`
abbrev pub is_plain : ℕ → Bool
is_plain c = nat_le 32 c && nat_le c 126 && not (c == 34) && not (c == 92)

-- what makes a number one of three digits, which no digit that was shown prolongs
abbrev pub zeros_before : ℕ → List ℕ
zeros_before c = if nat_lt c 10 then codes "00" else if nat_lt c 100 then codes "0" else []

-- any other is `\` with its number in three digits, and a line feed `\n`
abbrev pub character_text : ℕ → List ℕ
character_text c = if is_plain c then c ∷ [] else if c == 10 then codes "\\n" else codes "\\" ++ (zeros_before c ++ decimal c)

abbrev pub characters_text : List ℕ → List ℕ
characters_text [] = []
characters_text (c ∷ cs) = character_text c ++ characters_text cs

-- between quotation marks, the first six characters; `..` behind them where there are more, and nothing where nothing was shown
abbrev pub shown_text : List ℕ → List ℕ
shown_text shown =
    if length shown == 0 then []
    else if nat_lt 6 (length shown) then codes " shown \"" ++ (characters_text (take 6 shown) ++ codes "\"..")
    else codes " shown \"" ++ (characters_text shown ++ codes "\"")

-- ---- lines

-- `N turns A B process P`
abbrev pub head_text : (number : ℕ) → Stint → List ℕ
head_text number x = decimal number ++ (turns_text x.first x.last ++ (codes " process " ++ process_text x.process))

-- ` from PLACE END`, and what was shown
abbrev pub tail_text : Stint → List ℕ
tail_text x = codes " from" ++ (start_text x.from ++ (codes " " ++ (end_text x.end ++ shown_text x.shown)))

-- a line, without its line feed
abbrev pub stint_text : (number : ℕ) → Stint → List ℕ
stint_text number x = head_text number x ++ tail_text x

-- a line for each, from this number on
abbrev pub lines_text : (number : ℕ) → List Stint → List ℕ
lines_text number [] = []
lines_text number (x ∷ xs) = stint_text number x ++ (codes "\n" ++ lines_text (suc number) xs)

abbrev pub most_lines : ℕ
most_lines = 100000

-- a text that is cut says of how many stints it has the first, and how the run has ended
abbrev pub cut_text : (count : ℕ) → Option Ending → List ℕ
cut_text count ending =
    if nat_le count most_lines then []
    else codes "first 100000 of " ++ (decimal count ++ (codes " stints" ++ (how_text ending ++ codes "\n")))

-- THE TEXT, of the first 100,000 of so many stints, of a run that has ended so, if it has
abbrev pub text_of : (count : ℕ) → Option Ending → List Stint → List ℕ
text_of count ending xs = lines_text 1 (take most_lines xs) ++ cut_text count ending

-- ---- what a timeline keeps of a stint

-- the first seven characters that were shown: of these the text tells six, and whether there is a seventh
abbrev pub kept : Stint → Stint
kept x = record x { shown = take 7 x.shown }
