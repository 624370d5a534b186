-- Computed rows. Small programs, run by their meaning: their stints, and the lines of these. The text of each stands in its comment, with its lines.
use Rattle.std.specs.Prelude.{◌≡◌, ℕ, zero, suc, pos, List, [], ◌∷◌, ◌++◌, take, codes, Some, None, refl}
use Rattle.std.specs.Fmt.{digits}
use Rattle.edi_calls.specs.Choice.{listed}
use Rattle.edi_calls.specs.Names.{Name}
use Rattle.edi_calls.specs.Outcome as outcome
use Rattle.edi_calls.specs.declared.kinds.Cause.TheVariants as cause
use Rattle.edi_unit.specs.declared.expressions.Operator.TheVariants as op
use Rattle.edi_unit.specs.declared.expressions.Callee.TheVariants as callee
use Rattle.edi_unit.specs.declared.units.BlockKind.TheVariants as kind
use Rattle.edi_unit.specs.Values.{zero_value}
use Rattle.edi_unit.specs.Tree.{Act, apply_of, convert, by_value, no_argument, argument_then, skip, assign, call, halt, when_act, cobegin, ProgramUnit}
use Rattle.edi_meaning.specs.Select.{Selected, unfinished, finished, select_from_start}
use Rattle.edi_meaning.specs.Rows.{empty_system, variable, value_of, number, true_value, false_value, two, one_clause, block_of, program_of, head}
use Rattle.edi_timeline.specs.Stints.{begin, join, at, arrives, waits, tries, forks, ends, over, Start, End, Stint, ending_of, stints_of}
use Rattle.edi_timeline.specs.Text.{process_text, characters_text, stint_text, lines_text, cut_text}
use Rattle.edi_timeline.specs.Picture.{lanes_of, line_to, lines_on, box, heading}

-- ---- executions of at most forty turns, and eighty steps

abbrev pub order_of : Selected → List Name
order_of unfinished = []
order_of (finished ending system turns drawn order) = order

abbrev pub timeline : ProgramUnit → List ℕ → List Stint
timeline unit choices = stints_of unit empty_system 40 (order_of (select_from_start unit empty_system 40 (listed choices) 80))

-- a stint in a line
abbrev pub row : (first last : ℕ) → Name → Start → End → (shown : List ℕ) → Stint
row first last p from end shown = record { process = p; first = first; last = last; from = from; end = end; shown = shown }

-- branch i, counted from 1, of the first `cobegin` of the program
abbrev pub branch : ℕ → Name
branch zero = []
branch (suc i) = 1 ∷ i ∷ []

-- ---- an update that is lost

--  3 proc main(proc display(value: char))
--  4 var x: int
--  6 proc add
--  7 var seen: int
--  8 begin
--  9   when true do seen := x end;
-- 10   when true do x := seen + 1 end
-- 11 end
-- 13 begin
-- 14   x := 0;
-- 15   cobegin 1 do add also 2 do add end;
-- 16   display(char(48 + x));
-- 17   display(char(10))
-- 18 end
abbrev pub call_of_add : Act
call_of_add = call (callee.Block 1 1) no_argument 15

abbrev pub program_that_loses : ProgramUnit
program_that_loses =
    program_of [] (2 ∷ [])
    (head (0 ∷ []) 20
    (assign (variable 0 1) (number (pos 0))
    ∷ cobegin (2 ∷ 3 ∷ []) 15
    ∷ call (callee.Formal 0 0) (argument_then (by_value (convert 1 (two (number (pos 48)) op.Plus (value_of 0 1) 16) 16)) no_argument) 16
    ∷ call (callee.Formal 0 0) (argument_then (by_value (convert 1 (number (pos 10)) 17)) no_argument) 17
    ∷ [])
    ∷ block_of kind.Procedure 0 None [] (0 ∷ []) 12
    (when_act (one_clause true_value (assign (variable 0 0) (value_of 1 1) ∷ [])) 9
    ∷ when_act (one_clause true_value (assign (variable 1 1) (two (value_of 0 0) op.Plus (number (pos 1)) 10) ∷ [])) 10
    ∷ [])
    ∷ block_of kind.Branch 0 None [] [] 8 (call_of_add ∷ [])
    ∷ block_of kind.Branch 0 None [] [] 8 (call_of_add ∷ [])
    ∷ [])

-- The entry takes turn 1 and the fork turn 2; each process enters `add` and arrives at line 9; an attempt that succeeds takes no turn, so it
-- arrives at line 10 with one; leaves `add` and ends with two more; and the end of the program takes one.
abbrev pub lost_update : List Stint
lost_update =
    row 1 2 [] begin (forks 2) []
    ∷ row 3 4 (branch 1) begin (arrives (9 ∷ 15 ∷ [])) []
    ∷ row 5 6 (branch 2) begin (arrives (9 ∷ 15 ∷ [])) []
    ∷ row 7 7 (branch 1) (at (9 ∷ 15 ∷ [])) (arrives (10 ∷ 15 ∷ [])) []
    ∷ row 8 8 (branch 2) (at (9 ∷ 15 ∷ [])) (arrives (10 ∷ 15 ∷ [])) []
    ∷ row 9 10 (branch 1) (at (10 ∷ 15 ∷ [])) ends []
    ∷ row 11 12 (branch 2) (at (10 ∷ 15 ∷ [])) ends []
    ∷ row 13 13 [] join (over outcome.done) (49 ∷ 10 ∷ [])
    ∷ []

pub row_lost_update : timeline program_that_loses [] ≡ lost_update
unfolding zero_value
row_lost_update = refl

-- the second process begins only where the first has ended: then no update is lost
pub row_kept_update : timeline program_that_loses (0 ∷ 1 ∷ 1 ∷ []) ≡
    row 1 2 [] begin (forks 2) []
    ∷ row 3 4 (branch 1) begin (arrives (9 ∷ 15 ∷ [])) []
    ∷ row 5 5 (branch 1) (at (9 ∷ 15 ∷ [])) (arrives (10 ∷ 15 ∷ [])) []
    ∷ row 6 7 (branch 1) (at (10 ∷ 15 ∷ [])) ends []
    ∷ row 8 9 (branch 2) begin (arrives (9 ∷ 15 ∷ [])) []
    ∷ row 10 10 (branch 2) (at (9 ∷ 15 ∷ [])) (arrives (10 ∷ 15 ∷ [])) []
    ∷ row 11 12 (branch 2) (at (10 ∷ 15 ∷ [])) ends []
    ∷ row 13 13 [] join (over outcome.done) (50 ∷ 10 ∷ [])
    ∷ []
unfolding zero_value
row_kept_update = refl

pub row_first_lines : lines_text 1 (take 3 lost_update) ≡
    codes "1 turns 1 2 process main from begin forks 2\n2 turns 3 4 process 1.1 from begin arrives 9 15\n3 turns 5 6 process 1.2 from begin arrives 9 15\n"
unfolding digits
row_first_lines = refl

pub row_last_line : stint_text 8 (row 13 13 [] join (over outcome.done) (49 ∷ 10 ∷ []))
    ≡ codes "8 turns 13 13 process main from join done shown \"1\\n\""
unfolding digits
row_last_line = refl

-- ---- two that wait

-- 1 proc main
-- 2 begin
-- 3   cobegin 1 do when false do skip end
-- 4   also 2 do when false do skip end end
-- 5 end
abbrev pub program_where_two_wait : ProgramUnit
program_where_two_wait =
    program_of [] []
    (block_of kind.Program 0 None [] [] 5 (cobegin (1 ∷ 2 ∷ []) 3 ∷ [])
    ∷ block_of kind.Branch 0 None [] [] 6 (when_act (one_clause false_value (skip ∷ [])) 3 ∷ [])
    ∷ block_of kind.Branch 0 None [] [] 6 (when_act (one_clause false_value (skip ∷ [])) 4 ∷ [])
    ∷ [])

-- the second attempt that fails completes the standstill
abbrev pub two_wait : List Stint
two_wait =
    row 1 2 [] begin (forks 2) []
    ∷ row 3 3 (branch 1) begin (arrives (3 ∷ [])) []
    ∷ row 4 4 (branch 2) begin (arrives (4 ∷ [])) []
    ∷ row 5 5 (branch 1) (at (3 ∷ [])) waits []
    ∷ row 6 6 (branch 2) (at (4 ∷ [])) (over outcome.standstill) []
    ∷ []

pub row_two_wait : timeline program_where_two_wait [] ≡ two_wait
unfolding zero_value
row_two_wait = refl

pub row_waits : stint_text 4 (row 5 5 (branch 1) (at (3 ∷ [])) waits []) ≡ codes "4 turns 5 5 process 1.1 from 3 waits"
unfolding digits
row_waits = refl

pub row_standstill : stint_text 5 (row 6 6 (branch 2) (at (4 ∷ [])) (over outcome.standstill) []) ≡ codes "5 turns 6 6 process 1.2 from 4 standstill"
unfolding digits
row_standstill = refl

-- ---- branches of branches, and a halt

-- 1 proc main
-- 2 begin
-- 3   cobegin 1 do
-- 4     cobegin 1 do skip
-- 5     also 2 do when true do skip end; halt end
-- 6   end
-- 7 end
abbrev pub program_that_halts : ProgramUnit
program_that_halts =
    program_of [] []
    (block_of kind.Program 0 None [] [] 5 (cobegin (1 ∷ []) 3 ∷ [])
    ∷ block_of kind.Branch 0 None [] [] 5 (cobegin (2 ∷ 3 ∷ []) 4 ∷ [])
    ∷ block_of kind.Branch 1 None [] [] 5 (skip ∷ [])
    ∷ block_of kind.Branch 1 None [] [] 6 (when_act (one_clause true_value (skip ∷ [])) 5 ∷ halt 5 ∷ [])
    ∷ [])

-- The attempt takes no turn, and the halt takes none: the last stint has none.
abbrev pub halted : List Stint
halted =
    row 1 2 [] begin (forks 1) []
    ∷ row 3 3 (branch 1) begin (forks 2) []
    ∷ row 4 4 (1 ∷ 0 ∷ 1 ∷ 0 ∷ []) begin ends []
    ∷ row 5 5 (1 ∷ 0 ∷ 1 ∷ 1 ∷ []) begin (arrives (5 ∷ [])) []
    ∷ row 6 5 (1 ∷ 0 ∷ 1 ∷ 1 ∷ []) (at (5 ∷ [])) (over (outcome.halted 5)) []
    ∷ []

pub row_halts : timeline program_that_halts [] ≡ halted
unfolding zero_value
row_halts = refl

pub row_no_turn : stint_text 5 (row 6 5 (1 ∷ 0 ∷ 1 ∷ 1 ∷ []) (at (5 ∷ [])) (over (outcome.halted 5)) [])
    ≡ codes "5 no turn process 1.1/1.2 from 5 line 5 halt"
unfolding digits
row_no_turn = refl

-- ---- a condition that calls a function

-- 1 proc main
-- 2 var x: bool
-- 3 proc is_set: bool begin val is_set := x end
-- 4 begin
-- 5   cobegin 1 do when is_set do skip end
-- 6   also 2 do x := true end
-- 7 end
abbrev pub program_that_tries : ProgramUnit
program_that_tries =
    program_of [] []
    (block_of kind.Program 0 None [] (2 ∷ []) 8 (cobegin (2 ∷ 3 ∷ []) 5 ∷ [])
    ∷ block_of kind.Function 0 (Some 2) [] [] 8 (assign (variable 0 0) (value_of 1 0) ∷ [])
    ∷ block_of kind.Branch 0 None [] [] 8 (when_act (one_clause (apply_of (callee.Block 1 1) no_argument 5) (skip ∷ [])) 5 ∷ [])
    ∷ block_of kind.Branch 0 None [] [] 8 (assign (variable 1 0) true_value ∷ [])
    ∷ [])

-- The call of the function and its end take a turn each, and the attempt that fails takes one more.
abbrev pub tried : List Stint
tried =
    row 1 2 [] begin (forks 2) []
    ∷ row 3 3 (branch 1) begin (arrives (5 ∷ [])) []
    ∷ row 4 6 (branch 1) (at (5 ∷ [])) tries []
    ∷ row 7 7 (branch 2) begin ends []
    ∷ row 8 10 (branch 1) (at (5 ∷ [])) ends []
    ∷ row 11 11 [] join (over outcome.done) []
    ∷ []

pub row_tried : timeline program_that_tries (0 ∷ 1 ∷ []) ≡ tried
unfolding zero_value
row_tried = refl

pub row_tries : stint_text 3 (row 4 6 (branch 1) (at (5 ∷ [])) tries []) ≡ codes "3 turns 4 6 process 1.1 from 5 tries"
unfolding digits
row_tries = refl

-- ---- words

-- branch 31 of the tenth `cobegin` of branch 2 of the first
pub row_names : process_text (1 ∷ 1 ∷ 10 ∷ 30 ∷ []) ≡ codes "1.2/10.31"
unfolding digits
row_names = refl

pub row_fails : stint_text 12 (row 30 31 [] (at (7 ∷ 6 ∷ [])) (over (outcome.failed cause.Range 9)) (codes "a \"<\\"))
    ≡ codes "12 turns 30 31 process main from 7 6 line 9 range shown \"a \\034<\\092\""
unfolding digits
row_fails = refl

-- six characters, and those behind them
pub row_six : (stint_text 1 (row 1 1 [] begin ends (codes "123456")) ≡ codes "1 turns 1 1 process main from begin ends shown \"123456\"")
    × (stint_text 1 (row 1 1 [] begin ends (codes "1234567")) ≡ codes "1 turns 1 1 process main from begin ends shown \"123456\"..")
unfolding digits
row_six = (refl, refl)

-- a text that is cut
pub row_cut : (cut_text 100000 (Some outcome.done) ≡ []) × (cut_text 100001 (Some outcome.turns) ≡ codes "first 100000 of 100001 stints: turn limit\n")
    × (cut_text 100001 None ≡ codes "first 100000 of 100001 stints\n")
unfolding digits
row_cut = (refl, refl, refl)

-- a character by its number: three digits, so that a `2` behind a tab does not make it a `\\`
pub row_characters : (characters_text (9 ∷ 50 ∷ []) ≡ codes "\\0092") × (characters_text (92 ∷ []) ≡ codes "\\092") × (characters_text (127 ∷ 10 ∷ []) ≡ codes "\\127\\n")
unfolding digits
row_characters = (refl, refl, refl)

-- ---- the picture

-- the two branches have their lanes behind that of the program
pub row_lanes : lanes_of two_wait ≡ [] ∷ branch 1 ∷ branch 2 ∷ []
row_lanes = refl

-- Branch 2 is ready from the fork, three columns before its arrival; and branch 1 from its arrival on, two columns before its attempt.
pub row_lines :
    (line_to (branch 2) 1 (row 3 3 (branch 1) begin (arrives (3 ∷ [])) [] ∷ row 1 2 [] begin (forks 2) [] ∷ [])
    ≡ codes "<path d=\"M-44 13H0\" stroke=\"#56a8d8\" stroke-width=\"4\"/>")
    × (line_to (branch 1) 1 (row 6 6 (branch 2) (at (4 ∷ [])) waits [] ∷ row 5 5 (branch 1) (at (3 ∷ [])) waits [] ∷ [])
    ≡ codes "<path d=\"M-44 13H0\" stroke=\"#000\" stroke-width=\"2\" stroke-dasharray=\"4 3\"/>")
    × (line_to [] 1 [] ≡ [])
unfolding digits
row_lines = (refl, refl, refl)

-- Behind the last of three columns: the program waits for its branches, branch 1 has ended, and branch 2 waits at its `when`.
pub row_lines_on :
    lines_on 3 0 ([] ∷ branch 1 ∷ branch 2 ∷ [])
    (row 5 5 (branch 2) (at (4 ∷ [])) waits [] ∷ row 3 3 (branch 1) begin ends [] ∷ row 1 2 [] begin (forks 2) [] ∷ []) ≡
    codes "<g transform=\"translate(214 62)\"><path d=\"M-82 13H0\" stroke=\"#666\" stroke-width=\"2\" stroke-dasharray=\"1 4\"/></g>\n"
    ++ codes "<g transform=\"translate(214 108)\"></g>\n<g transform=\"translate(214 154)\"><path d=\"M-6 13H0\" stroke=\"#000\" stroke-width=\"2\" stroke-dasharray=\"4 3\"/></g>\n"
unfolding digits
row_lines_on = refl

-- the first box of a program that shows `<` at once
pub row_box : box 1 0 [] (row 1 1 [] begin (over outcome.done) (60 ∷ [])) ≡
    codes "<text x=\"116\" y=\"42\" font-size=\"10\">1</text><g transform=\"translate(100 62)\"><title>1 turns 1 1 process main from begin done shown \"&lt;\"</title>"
    ++ codes "<rect width=\"32\" height=\"26\" rx=\"13\" fill=\"#000\"/><text x=\"16\" y=\"17\" fill=\"#fff\">&#183;</text><text x=\"16\" y=\"-4\" font-weight=\"bold\">&lt;</text></g>\n"
unfolding digits
row_box = refl

pub row_headings : (heading 5 (ending_of two_wait) ≡ codes "5 stints: standstill")
    × (heading 1001 (Some outcome.turns) ≡ codes "first 1000 of 1001 stints: turn limit")
unfolding digits
row_headings = (refl, refl)
