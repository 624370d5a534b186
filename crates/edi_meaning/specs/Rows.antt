-- Computed rows. Small programs, run by their meaning. The text of each stands in its comment; HEAD is the line
-- `proc main(proc display(value: char))`.
use Rattle.std.specs.Prelude.{◌≡◌, ℕ, ℤ, pos, ◌-◌, List, [], ◌∷◌, ◌++◌, replicate, Option, Some, None, refl}
use Rattle.edi_calls.specs.declared.kinds.Cause.TheVariants as cause
use Rattle.edi_calls.specs.State.{State}
use Rattle.edi_calls.specs.Choice.{listed}
use Rattle.edi_calls.specs.Outcome as outcome
use Rattle.edi_calls.specs.Outcome.{Ending}
use Rattle.edi_unit.specs.declared.expressions.Operator.{Operator}
use Rattle.edi_unit.specs.declared.expressions.Operator.TheVariants as op
use Rattle.edi_unit.specs.declared.expressions.Callee.{Callee}
use Rattle.edi_unit.specs.declared.expressions.Callee.TheVariants as callee
use Rattle.edi_unit.specs.declared.units.BlockKind.{BlockKind}
use Rattle.edi_unit.specs.declared.units.BlockKind.TheVariants as kind
use Rattle.edi_unit.specs.declared.units.Parameter.{Parameter}
use Rattle.edi_unit.specs.declared.units.Parameter.TheVariants as parameter
use Rattle.edi_unit.specs.Types.{Shape, array_of, standard_types}
use Rattle.edi_unit.specs.Values.{zero_value}
use Rattle.edi_unit.specs.Tree.{Expression, constant, load, chain, convert, apply_of, link, no_link, link_then, Place, place, index, no_part, part_then}
use Rattle.edi_unit.specs.Tree.{by_value, by_variable, by_procedure, no_argument, argument_then, Act, skip, assign, call, if_act, while_act, when_act}
use Rattle.edi_unit.specs.Tree.{cobegin, Acts, no_act, act_then, clause, Clauses, no_clause, clause_then, Block, ProgramUnit}
use Rattle.edi_meaning.specs.Select.{Selected, unfinished, finished, select_from_start}

-- ---- writing programs down

abbrev pub empty_system : State
empty_system = record { input = []; shown = []; printed = []; slots = replicate 256 None; blocks = 0; found = None; buffer = None }

abbrev pub list_of : List Act → Acts
list_of [] = no_act
list_of (a ∷ as') = act_then a (list_of as')

abbrev pub variable : ℕ → ℕ → Place
variable levels v = place levels v no_part

abbrev pub value_of : ℕ → ℕ → Expression
value_of levels v = load (variable levels v)

abbrev pub number : ℤ → Expression
number n = constant 0 n

abbrev pub true_value : Expression
true_value = constant 2 (pos 1)

abbrev pub false_value : Expression
false_value = constant 2 (pos 0)

abbrev pub two : Expression → Operator → Expression → ℕ → Expression
two a o b line = chain a (link_then (link o b line) no_link)

abbrev pub one_clause : Expression → List Act → Clauses
one_clause e as' = clause_then (clause e (list_of as')) no_clause

abbrev pub two_clauses : Expression → List Act → Expression → List Act → Clauses
two_clauses e as' f bs = clause_then (clause e (list_of as')) (one_clause f bs)

-- display is variable 0 of the program
abbrev pub display : ℕ → ℤ → Act
display levels c = call (callee.Formal levels 0) (argument_then (by_value (constant 1 c)) no_argument) 1

abbrev pub block_of : BlockKind → ℕ → Option ℕ → List Parameter → List ℕ → ℕ → List Act → Block
block_of k up result parameters variables need body =
    record { kind = k; up = up; result = result; parameters = parameters; variables = variables; need = need; body = list_of body }

abbrev pub program_of : List Shape → List ℕ → List Block → ProgramUnit
program_of types calls blocks = record { types = standard_types ++ types; blocks = blocks; program = 0; calls = calls }

-- HEAD, with variables and a body
abbrev pub head : List ℕ → ℕ → List Act → Block
head variables need body = block_of kind.Program 0 None (parameter.Formal None ∷ []) variables need body

-- what is shown, how it ends, how many of the twenty turns it took, and how many choices it drew
abbrev pub summary : Selected → List ℕ × Ending × ℕ × ℕ
summary unfinished = ([], outcome.turns, 0, 0)
summary (finished ending system turns drawn order) = (system.now.shown, ending, 20 - turns, drawn)

abbrev pub selected : ProgramUnit → List ℕ → List ℕ × Ending × ℕ × ℕ
selected unit choices = summary (select_from_start unit empty_system 20 (listed choices) 60)

-- ---- sequential programs

-- HEAD begin display('a') end
abbrev pub program_that_shows : ProgramUnit
program_that_shows = program_of [] (2 ∷ []) (head [] 9 (display 0 (pos 97) ∷ []) ∷ [])

pub row_shows : selected program_that_shows [] ≡ (97 ∷ [], outcome.done, 2, 0)
unfolding zero_value
row_shows = refl

-- HEAD var x: int begin while x < 3 do display('k'); x := x + 1 end end
abbrev pub program_that_counts : ProgramUnit
program_that_counts =
    program_of [] (2 ∷ []) (head (0 ∷ []) 12
    (while_act (one_clause (two (value_of 0 1) op.Less (number (pos 3)) 1)
    (display 0 (pos 107) ∷ assign (variable 0 1) (two (value_of 0 1) op.Plus (number (pos 1)) 1) ∷ [])) ∷ []) ∷ [])

pub row_counts : selected program_that_counts [] ≡ (107 ∷ 107 ∷ 107 ∷ [], outcome.done, 5, 0)
unfolding zero_value
row_counts = refl

-- HEAD var x: int begin display('a'); x := 32767 + 1 end, the sum on line 4: output before a failure stays
abbrev pub program_that_overflows : ProgramUnit
program_that_overflows =
    program_of [] (2 ∷ []) (head (0 ∷ []) 12 (display 0 (pos 97) ∷ assign (variable 0 1) (two (number (pos 32767)) op.Plus (number (pos 1)) 4) ∷ []) ∷ [])

pub row_overflows : selected program_that_overflows [] ≡ (97 ∷ [], outcome.failed cause.Range 4, 1, 0)
unfolding zero_value
row_overflows = refl

-- HEAD array t [1:2] (char) var a: t; i: int proc f: char begin i := 2; val f := 'q' end
-- begin i := 1; a[i] := f; display(a[1]); if a[2] = char(0) do display('z') end end
-- The index is determined before the function changes i.
abbrev pub element : ℕ → Expression → Place
element levels e = place levels 1 (part_then (index e 1) no_part)

abbrev pub program_with_index : ProgramUnit
program_with_index =
    program_of (array_of 0 (pos 1) (pos 2) 1 ∷ []) (2 ∷ [])
    (head (3 ∷ 0 ∷ []) 13
    (assign (variable 0 2) (number (pos 1))
    ∷ assign (element 0 (value_of 0 2)) (apply_of (callee.Block 0 1) no_argument 1)
    ∷ call (callee.Formal 0 0) (argument_then (by_value (load (element 0 (number (pos 1))))) no_argument) 1
    ∷ if_act (one_clause (two (load (element 0 (number (pos 2)))) op.Equal (convert 1 (number (pos 0)) 1) 1) (display 0 (pos 122) ∷ []))
    ∷ [])
    ∷ block_of kind.Function 0 (Some 1) [] [] 8 (assign (variable 1 2) (number (pos 2)) ∷ assign (variable 0 0) (constant 1 (pos 113)) ∷ [])
    ∷ [])

pub row_with_index : selected program_with_index [] ≡ (113 ∷ 122 ∷ [], outcome.done, 4, 0)
unfolding zero_value
row_with_index = refl

-- HEAD var g: int proc p(var v: int) begin v := 1; if g = 1 do display('1') end; g := 2; if v = 2 do display('2') end end
-- begin p(g) end: one variable under two names
abbrev pub program_with_alias : ProgramUnit
program_with_alias =
    program_of [] (2 ∷ [])
    (head (0 ∷ []) 10 (call (callee.Block 0 1) (argument_then (by_variable (variable 0 1)) no_argument) 1 ∷ [])
    ∷ block_of kind.Procedure 0 None (parameter.Var 0 ∷ []) [] 8
    (assign (variable 0 0) (number (pos 1))
    ∷ if_act (one_clause (two (value_of 1 1) op.Equal (number (pos 1)) 1) (display 1 (pos 49) ∷ []))
    ∷ assign (variable 1 1) (number (pos 2))
    ∷ if_act (one_clause (two (value_of 0 0) op.Equal (number (pos 2)) 1) (display 1 (pos 50) ∷ []))
    ∷ [])
    ∷ [])

pub row_with_alias : selected program_with_alias [] ≡ (49 ∷ 50 ∷ [], outcome.done, 4, 0)
unfolding zero_value
row_with_alias = refl

-- HEAD proc go(n: int; proc q)
--   proc r begin if n = 1 do display('1') else n = 2 do display('2') end end
--   begin if n = 1 do go(2, r) else true do q end end
-- proc none begin skip end
-- begin go(1, none) end: r means the n of the instance in which it was passed
abbrev pub go_with : ℕ → ℤ → Callee → Act
go_with levels n q = call (callee.Block levels 1) (argument_then (by_value (number n)) (argument_then (by_procedure q) no_argument)) 1

abbrev pub program_with_procedure : ProgramUnit
program_with_procedure =
    program_of [] (2 ∷ [])
    (head [] 12 (go_with 0 (pos 1) (callee.Block 0 3) ∷ [])
    ∷ block_of kind.Procedure 0 None (parameter.Value 0 ∷ parameter.Formal None ∷ []) [] 13
    (if_act (two_clauses (two (value_of 0 0) op.Equal (number (pos 1)) 1) (go_with 1 (pos 2) (callee.Block 0 2) ∷ []) true_value
    (call (callee.Formal 0 1) no_argument 1 ∷ [])) ∷ [])
    ∷ block_of kind.Procedure 1 None [] [] 7
    (if_act (two_clauses (two (value_of 1 0) op.Equal (number (pos 1)) 1) (display 2 (pos 49) ∷ []) (two (value_of 1 0) op.Equal (number (pos 2)) 1)
    (display 2 (pos 50) ∷ [])) ∷ [])
    ∷ block_of kind.Procedure 0 None [] [] 5 (skip ∷ [])
    ∷ [])

-- HEAD proc p(n: int) begin if n = 1 do p(2) else true do display('x') end end begin p(1) end: the second instance of p
-- is called from the first, and means the variables of the program all the same
abbrev pub program_that_recurs : ProgramUnit
program_that_recurs =
    program_of [] (2 ∷ [])
    (head [] 9 (call (callee.Block 0 1) (argument_then (by_value (number (pos 1))) no_argument) 1 ∷ [])
    ∷ block_of kind.Procedure 0 None (parameter.Value 0 ∷ []) [] 8
    (if_act (two_clauses (two (value_of 0 0) op.Equal (number (pos 1)) 1)
    (call (callee.Block 1 1) (argument_then (by_value (number (pos 2))) no_argument) 1 ∷ []) true_value (display 1 (pos 120) ∷ [])) ∷ [])
    ∷ [])

pub row_instances :
    (selected program_with_procedure [] ≡ (49 ∷ [], outcome.done, 8, 0)) × (selected program_that_recurs [] ≡ (120 ∷ [], outcome.done, 6, 0))
unfolding zero_value
row_instances = (refl, refl)

-- HEAD var x: int proc f: int begin when true do val f := 1 end end begin x := f end, the `when` on line 5
abbrev pub program_that_is_held : ProgramUnit
program_that_is_held =
    program_of [] (2 ∷ [])
    (head (0 ∷ []) 11 (assign (variable 0 1) (apply_of (callee.Block 0 1) no_argument 7) ∷ [])
    ∷ block_of kind.Function 0 (Some 0) [] [] 8 (when_act (one_clause true_value (assign (variable 0 0) (number (pos 1)) ∷ [])) 5 ∷ [])
    ∷ [])

pub row_held : selected program_that_is_held [] ≡ ([], outcome.failed cause.Held 5, 2, 0)
unfolding zero_value
row_held = refl

-- HEAD begin if false and (1 div 0 = 1) do skip else true do display('k') end end: `and` looks no further
abbrev pub program_that_decides : ProgramUnit
program_that_decides =
    program_of [] (2 ∷ [])
    (head [] 10 (if_act (two_clauses (two false_value op.And (two (two (number (pos 1)) op.Div (number (pos 0)) 1) op.Equal (number (pos 1)) 1) 1) (skip ∷ [])
    true_value (display 0 (pos 107) ∷ [])) ∷ []) ∷ [])

pub row_decides : selected program_that_decides [] ≡ (107 ∷ [], outcome.done, 2, 0)
unfolding zero_value
row_decides = refl

-- proc main begin p end with a procedure p that needs n words, called on line 3, beside the 5 words of main
abbrev pub program_that_needs : ℕ → ProgramUnit
program_that_needs n =
    program_of [] []
    (block_of kind.Program 0 None [] [] 5 (call (callee.Block 0 1) no_argument 3 ∷ [])
    ∷ block_of kind.Procedure 0 None [] [] n (skip ∷ [])
    ∷ [])

-- proc main begin cobegin 1 do skip also 2 do skip end end, with the word `cobegin` on line 2 and branches that need n words: they
-- share the 65,531 words that main leaves
abbrev pub program_that_shares : ℕ → ProgramUnit
program_that_shares n =
    program_of [] []
    (block_of kind.Program 0 None [] [] 5 (cobegin (1 ∷ 2 ∷ []) 2 ∷ [])
    ∷ block_of kind.Branch 0 None [] [] n (skip ∷ [])
    ∷ block_of kind.Branch 0 None [] [] n (skip ∷ [])
    ∷ [])

pub row_needs :
    (selected (program_that_needs 65531) [] ≡ ([], outcome.done, 4, 0))
    × (selected (program_that_needs 65532) [] ≡ ([], outcome.failed cause.VariableLimit 3, 1, 0))
    × (selected (program_that_shares 32765) [] ≡ ([], outcome.done, 5, 1))
    × (selected (program_that_shares 32766) [] ≡ ([], outcome.failed cause.VariableLimit 2, 1, 0))
unfolding zero_value
row_needs = (refl, refl, refl, refl)

-- ---- processes

-- HEAD var x: int begin cobegin 1 do when x = 0 do display('a'); x := 1 end also 2 do when true do display('b') end end end
abbrev pub program_that_forks : ProgramUnit
program_that_forks =
    program_of [] (2 ∷ [])
    (head (0 ∷ []) 9 (cobegin (1 ∷ 2 ∷ []) 3 ∷ [])
    ∷ block_of kind.Branch 0 None [] [] 7
    (when_act (one_clause (two (value_of 1 1) op.Equal (number (pos 0)) 3) (display 1 (pos 97) ∷ assign (variable 1 1) (number (pos 1)) ∷ [])) 3 ∷ [])
    ∷ block_of kind.Branch 0 None [] [] 6 (when_act (one_clause true_value (display 1 (pos 98) ∷ [])) 4 ∷ [])
    ∷ [])

pub row_forks :
    (selected program_that_forks [] ≡ (97 ∷ 98 ∷ [], outcome.done, 7, 3))
    × (selected program_that_forks (0 ∷ 0 ∷ 1 ∷ []) ≡ (98 ∷ 97 ∷ [], outcome.done, 7, 3))
    × (selected program_that_forks (1 ∷ []) ≡ (98 ∷ 97 ∷ [], outcome.done, 7, 3))
unfolding zero_value
row_forks = (refl, refl, refl)

-- proc main begin when false do skip end end: the entry, the arrival and one attempt
abbrev pub program_that_waits : ProgramUnit
program_that_waits = program_of [] [] (block_of kind.Program 0 None [] [] 6 (when_act (one_clause false_value (skip ∷ [])) 1 ∷ []) ∷ [])

-- proc main begin cobegin 1 do when false do skip end also 2 do when false do skip end end end
abbrev pub program_where_two_wait : ProgramUnit
program_where_two_wait =
    program_of [] []
    (block_of kind.Program 0 None [] [] 5 (cobegin (1 ∷ 2 ∷ []) 1 ∷ [])
    ∷ block_of kind.Branch 0 None [] [] 6 (when_act (one_clause false_value (skip ∷ [])) 1 ∷ [])
    ∷ block_of kind.Branch 0 None [] [] 6 (when_act (one_clause false_value (skip ∷ [])) 1 ∷ [])
    ∷ [])

pub row_standstills :
    (selected program_that_waits [] ≡ ([], outcome.standstill, 3, 0)) × (selected program_where_two_wait [] ≡ ([], outcome.standstill, 6, 4))
unfolding zero_value
row_standstills = (refl, refl)

-- proc main proc f: bool begin val f := false end begin when f do skip end end: a condition that calls a function marks
-- nothing, so this waits until its turns are used up
abbrev pub program_that_asks : ProgramUnit
program_that_asks =
    program_of [] []
    (block_of kind.Program 0 None [] [] 6 (when_act (one_clause (apply_of (callee.Block 0 1) no_argument 1) (skip ∷ [])) 1 ∷ [])
    ∷ block_of kind.Function 0 (Some 2) [] [] 8 (assign (variable 0 0) false_value ∷ [])
    ∷ [])

pub row_asks : selected program_that_asks [] ≡ ([], outcome.turns, 20, 0)
unfolding zero_value
row_asks = refl

-- var x, y: int begin cobegin 1 do when x = 1 do y := 1 end also 2 do when y = 1 do display('b') end
-- also 3 do when true do x := 1 end end end: the third branch empties the marks of the others
abbrev pub program_that_goes_on : ProgramUnit
program_that_goes_on =
    program_of [] (2 ∷ [])
    (head (0 ∷ 0 ∷ []) 10 (cobegin (1 ∷ 2 ∷ 3 ∷ []) 3 ∷ [])
    ∷ block_of kind.Branch 0 None [] [] 7 (when_act
    (one_clause (two (value_of 1 1) op.Equal (number (pos 1)) 3) (assign (variable 1 2) (number (pos 1)) ∷ [])) 3 ∷ [])
    ∷ block_of kind.Branch 0 None [] [] 7 (when_act (one_clause (two (value_of 1 2) op.Equal (number (pos 1)) 3) (display 1 (pos 98) ∷ [])) 3 ∷ [])
    ∷ block_of kind.Branch 0 None [] [] 7 (when_act (one_clause true_value (assign (variable 1 1) (number (pos 1)) ∷ [])) 3 ∷ [])
    ∷ [])

pub row_goes_on : selected program_that_goes_on (0 ∷ 0 ∷ 0 ∷ 0 ∷ 0 ∷ 0 ∷ 1 ∷ []) ≡ (98 ∷ [], outcome.done, 12, 8)
unfolding zero_value
row_goes_on = refl

-- proc main begin cobegin 1 do skip also .. end end, with the word `cobegin` on line 2: 31 branches, and 32
abbrev pub program_of_branches : ℕ → ProgramUnit
program_of_branches n =
    program_of [] []
    (block_of kind.Program 0 None [] [] 5 (cobegin (replicate n 1) 2 ∷ [])
    ∷ block_of kind.Branch 0 None [] [] 5 (skip ∷ [])
    ∷ [])

-- with a hundred turns and steps enough
abbrev pub ending_of : Selected → Ending × ℕ
ending_of unfinished = (outcome.bad 0, 0)
ending_of (finished ending system turns drawn order) = (ending, 100 - turns)

pub row_31_branches : ending_of (select_from_start (program_of_branches 31) empty_system 100 (listed []) 200) ≡ (outcome.done, 34)
unfolding zero_value
row_31_branches = refl

pub row_32_branches : ending_of (select_from_start (program_of_branches 32) empty_system 100 (listed []) 200) ≡ (outcome.failed cause.ProcessLimit 2, 1)
unfolding zero_value
row_32_branches = refl
