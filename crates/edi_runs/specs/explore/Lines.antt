-- Definition. WHAT `explore` SHOWS: a line for each ending that was found, with what the program shows by then where that is asked for; a line that
-- says whether these are all; and lines that say how far executions go, and whether another order of steps may end otherwise. And the status by
-- which they are told.
use Rattle.std.specs.Prelude.{ℕ, zero, suc, ◌+◌, ◌-◌, ◌==◌, nat_lt, nat_le, Bool, true, false, if◌then◌else◌, List, [], ◌∷◌, ◌++◌, length, take, Option, Some, None, codes}
use Rattle.std.specs.Fmt.{decimal}
use Rattle.edi_calls.specs.Outcome as outcome
use Rattle.edi_calls.specs.Outcome.{Ending}
use Rattle.edi_timeline.specs.Text.{characters_text, ending_text, process_text}
use Rattle.edi_waits.specs.Waits.{Waiting}
use Rattle.edi_explore.specs.declared.ends.Verdict.{Verdict}
use Rattle.edi_explore.specs.declared.ends.Verdict.TheVariants as verdict
use Rattle.edi_runs.specs.declared.explore.summary.Summary.{Summary}
use Rattle.edi_runs.specs.declared.explore.summary.Summary.TheVariants as summary
use Rattle.edi_runs.specs.explore.Explorations.{Findings, Reached}
use Rattle.edi_runs.specs.explore.Orders.{OpenName, OrdersOfSteps, settled, unsaid, used}
use Rattle.edi_runs.specs.explore.Records.{most_records, record_name}

-- ---- words

-- ` N` for each number
abbrev pub numbers_text : List ℕ → List ℕ
numbers_text [] = []
numbers_text (n ∷ numbers) = codes " " ++ (decimal n ++ numbers_text numbers)

-- so many choices are shown at most
abbrev pub most_shown : ℕ
most_shown = 100

-- `no choices`, `choices 4 0`; of more than 100 the first 100, and how many they are
abbrev pub choices_text : List ℕ → List ℕ
choices_text choices =
    if length choices == 0 then codes "no choices"
    else if nat_lt most_shown (length choices)
    then codes "choices" ++ (numbers_text (take most_shown choices) ++ (codes " .. (" ++ (decimal (length choices) ++ codes " in all)")))
    else codes "choices" ++ numbers_text choices

-- the end of the plural
abbrev pub plural : ℕ → List ℕ
plural n = if n == 1 then [] else codes "s"

-- `1 turn`, `57 turns`
abbrev pub turns_text : ℕ → List ℕ
turns_text n = decimal n ++ (codes " turn" ++ plural n)

abbrev pub moves_text : ℕ → List ℕ
moves_text n = decimal n ++ (codes " move" ++ plural n)

abbrev pub states_text : ℕ → List ℕ
states_text n = decimal n ++ (codes " state" ++ plural n)

-- ---- the lines

-- ` waits at line 15` for the first line, `, called on line 28` for each other one
abbrev pub line_text : (first : Bool) → ℕ → List ℕ
line_text true line = codes " waits at line " ++ decimal line
line_text false line = codes ", called on line " ++ decimal line

abbrev pub lines_text : (first : Bool) → List ℕ → List ℕ
lines_text first [] = []
lines_text first (line ∷ lines) = line_text first line ++ lines_text false lines

-- `  1.1 waits at line 15, called on line 28`
abbrev pub wait_line : Waiting → List ℕ
wait_line w = codes "  " ++ (process_text w.process ++ (lines_text true w.lines ++ codes "\n"))

abbrev pub wait_lines : List Waiting → List ℕ
wait_lines [] = []
wait_lines (w ∷ waits) = wait_line w ++ wait_lines waits

-- so many characters of an output are told at most
abbrev pub most_told : ℕ
most_told = 400

-- `1\n"`; of more than 400 characters the first 400, and that there are more
abbrev pub output_text : (shown : List ℕ) → List ℕ
output_text shown =
    if nat_lt most_told (length shown) then characters_text (take most_told shown) ++ codes "\"..\n" else characters_text shown ++ codes "\"\n"

-- `  shown "1\n"`, or that nothing is shown
abbrev pub output_line : (shown : List ℕ) → List ℕ
output_line shown = if length shown == 0 then codes "  shows nothing\n" else codes "  shown \"" ++ output_text shown

-- where it is asked for
abbrev pub output_lines : (asks : Bool) → (shown : List ℕ) → List ℕ
output_lines true shown = output_line shown
output_lines false shown = []

-- ` in NAME.3`, if the choices of so many endings are kept under this name
abbrev pub kept_text : (name : List ℕ) → (most number : ℕ) → List ℕ
kept_text name most number = if nat_le number most then codes " in " ++ record_name name number else []

-- `line 12 range after 57 turns: `
abbrev pub head_text : Reached → List ℕ
head_text one = ending_text one.ending ++ (codes " after " ++ (turns_text one.turns ++ codes ": "))

-- what is shown, and who waits where
abbrev pub under_text : (asks : Bool) → Reached → List ℕ
under_text asks one = output_lines asks one.shown ++ wait_lines one.waits

-- `choices 4 0 in NAME.3`, and the lines under it
abbrev pub tail_text : (asks : Bool) → (name : List ℕ) → (most number : ℕ) → Reached → List ℕ
tail_text asks name most number one = choices_text one.choices ++ (kept_text name most number ++ (codes "\n" ++ under_text asks one))

abbrev pub ending_line : (asks : Bool) → (name : List ℕ) → (most number : ℕ) → Reached → List ℕ
ending_line asks name most number one = head_text one ++ tail_text asks name most number one

-- from this number on
abbrev pub ending_lines : (asks : Bool) → (name : List ℕ) → (most number : ℕ) → List Reached → List ℕ
ending_lines asks name most number [] = []
ending_lines asks name most number (one ∷ found) = ending_line asks name most number one ++ ending_lines asks name most (number + 1) found

-- Where all executions were followed. That one ends so does not say that each one ends.
abbrev pub all_text : (found : ℕ) → List ℕ
all_text zero = codes "every execution goes on for ever"
all_text (suc n) = codes "no execution ends otherwise"

-- Where not all were followed there may be other endings: not of the executions of fewer moves.
abbrev pub below_text : ℕ → List ℕ
below_text n = if n == 0 then [] else codes "; every execution of fewer than " ++ (moves_text n ++ codes " was followed")

abbrev pub verdict_text : Verdict → (found : ℕ) → (cut : List ℕ) → List ℕ
verdict_text verdict.All found cut = all_text found
verdict_text (verdict.Full moves) found cut = codes "perhaps not all: --states allows no more" ++ below_text moves
verdict_text (verdict.Many moves) found cut = codes "perhaps not all: --shown allows no more" ++ below_text moves
verdict_text (verdict.Cut moves) found cut =
    codes "perhaps not all: a process goes on for more turns than --turns allows, with " ++ (choices_text cut ++ below_text moves)
verdict_text (verdict.Unrecorded moves) found cut = codes "perhaps not all: an ending has no record" ++ below_text moves
verdict_text (verdict.NoMemory moves) found cut = codes "perhaps not all: memory ran out" ++ below_text moves

-- the line on other endings
abbrev pub verdict_line : Findings → List ℕ
verdict_line f = verdict_text f.verdict (length f.endings) f.cut ++ (codes "; " ++ (states_text f.states ++ codes "\n"))

-- how far executions go, where that was found; attempts that fail and mark their process are no moves
abbrev pub longest_text : Option ℕ → List ℕ
longest_text None = []
longest_text (Some most) = codes "no execution makes more than " ++ (moves_text most ++ codes "\n")

-- where all executions were followed
abbrev pub longest_line : Verdict → Option ℕ → List ℕ
longest_line verdict.All longest = longest_text longest
longest_line _ longest = []

-- so many variables are named at most
abbrev pub most_named : ℕ
most_named = 10

abbrev pub name_line : OpenName → List ℕ
name_line one = one.name ++ (codes " of " ++ (one.block ++ codes " may be used outside critical phases\n"))

abbrev pub name_lines : List OpenName → List ℕ
name_lines [] = []
name_lines (one ∷ names) = name_line one ++ name_lines names

abbrev pub more_text : ℕ → List ℕ
more_text n = codes "and " ++ (decimal n ++ codes " more\n")

-- of more than 10 the first 10, and how many more there are
abbrev pub names_text : List OpenName → List ℕ
names_text names =
    if nat_lt most_named (length names)
    then name_lines (take most_named names) ++ more_text (length names - most_named)
    else name_lines names

abbrev pub used_text : List OpenName → List ℕ
used_text names = names_text names ++ codes "another order of steps may end otherwise\n"

-- no order ends otherwise than in one of so many ways
abbrev pub settled_text : (found : ℕ) → List ℕ
settled_text zero = codes "no order of steps ends, but perhaps by process limit\n"
settled_text (suc n) = codes "no order of steps ends otherwise, but perhaps by process limit\n"

abbrev pub orders_text : (found : ℕ) → OrdersOfSteps → List ℕ
orders_text found settled = settled_text found
orders_text found (used names) = used_text names
orders_text found unsaid = []

-- whether there are other endings, how far executions go, and what is said of every order of steps
abbrev pub last_lines : Findings → List ℕ
last_lines f = verdict_line f ++ (longest_line f.verdict f.longest ++ orders_text (length f.endings) f.orders)

-- THE LINES, where output is asked for or not, and choices are kept under this name or not
abbrev pub report_text : (asks : Bool) → Option (List ℕ) → Findings → List ℕ
report_text asks None f = ending_lines asks [] 0 1 f.endings ++ last_lines f
report_text asks (Some name) f = ending_lines asks name most_records 1 f.endings ++ last_lines f

-- ---- the status

abbrev pub is_done : Ending → Bool
is_done outcome.done = true
is_done _ = false

-- how many endings are not `done`
abbrev pub others_in : List Reached → ℕ
others_in [] = 0
others_in (one ∷ found) = if is_done one.ending then others_in found else suc (others_in found)

-- where all executions were followed, and so many endings were found
abbrev pub summary_all : (found : ℕ) → Summary
summary_all zero = summary.Endless
summary_all (suc n) = summary.Fine

abbrev pub summary_without : Verdict → (found : ℕ) → Summary
summary_without verdict.All found = summary_all found
summary_without _ found = summary.NotAll

-- Endings other than `done` come first, all or not; then whether all executions were followed.
abbrev pub summary_with : (others : ℕ) → Verdict → (found : ℕ) → Summary
summary_with zero v found = summary_without v found
summary_with (suc n) v found = summary.Found (suc n)

abbrev pub summary_of : Findings → Summary
summary_of f = summary_with (others_in f.endings) f.verdict (length f.endings)
