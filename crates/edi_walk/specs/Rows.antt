-- Computed rows. Walks through small programs. The text of each stands in its comment; HEAD is the line
-- `proc main(proc display(value: char))`.
use Rattle.std.specs.Prelude.{◌≡◌, ℕ, pos, List, [], ◌∷◌, None, refl}
use Rattle.edi_calls.specs.Choice.{listed}
use Rattle.edi_calls.specs.Names.{Name}
use Rattle.edi_calls.specs.Outcome as outcome
use Rattle.edi_calls.specs.Outcome.{Ending}
use Rattle.edi_unit.specs.declared.expressions.Operator.TheVariants as op
use Rattle.edi_unit.specs.declared.expressions.Callee.TheVariants as callee
use Rattle.edi_unit.specs.declared.units.BlockKind.TheVariants as kind
use Rattle.edi_unit.specs.Values.{zero_value}
use Rattle.edi_unit.specs.Tree.{assign, call, if_act, when_act, cobegin, no_argument, ProgramUnit}
use Rattle.edi_meaning.specs.Select.{Selected, unfinished, finished}
use Rattle.edi_meaning.specs.Rows.{empty_system, variable, value_of, number, true_value, false_value, two, one_clause, two_clauses, display, block_of}
use Rattle.edi_meaning.specs.Rows.{program_of, head, summary, selected}
use Rattle.edi_walk.specs.Walk.{walked_from_start}

abbrev walked_by : ProgramUnit → List ℕ → List ℕ × Ending × ℕ × ℕ
walked_by unit choices = summary (walked_from_start unit empty_system 20 (listed choices) 0 60)

abbrev order_of : Selected → List Name
order_of unfinished = []
order_of (finished ending system turns drawn order) = order

-- HEAD var x: int
-- proc p var y: int begin y := x; x := y + 1 end
-- begin cobegin 1 do p also 2 do p end; if x = 2 do display('2') else true do display('1') end end
abbrev pub program_that_adds : ProgramUnit
program_that_adds =
    program_of [] (2 ∷ [])
    (head (0 ∷ []) 11
    (cobegin (2 ∷ 3 ∷ []) 4
    ∷ if_act (two_clauses (two (value_of 0 1) op.Equal (number (pos 2)) 5) (display 0 (pos 50) ∷ []) true_value (display 0 (pos 49) ∷ [])) ∷ [])
    ∷ block_of kind.Procedure 0 None [] (0 ∷ []) 9
    (assign (variable 0 0) (value_of 1 1) ∷ assign (variable 1 1) (two (value_of 0 0) op.Plus (number (pos 1)) 3) ∷ [])
    ∷ block_of kind.Branch 0 None [] [] 5 (call (callee.Block 1 1) no_argument 4 ∷ [])
    ∷ block_of kind.Branch 0 None [] [] 5 (call (callee.Block 1 1) no_argument 4 ∷ []) ∷ [])

-- the steps of the two branches alternate, and both read x before either has changed it
pub row_adds : walked_by program_that_adds [] ≡ (49 ∷ [], outcome.done, 9, 9)
unfolding zero_value
row_adds = refl

-- with these choices the second branch goes to its end first
pub row_adds_in_turn : walked_by program_that_adds (1 ∷ 1 ∷ 1 ∷ 1 ∷ 1 ∷ 1 ∷ []) ≡ (50 ∷ [], outcome.done, 9, 5)
unfolding zero_value
row_adds_in_turn = refl

-- who steps where the first choice takes the second branch, which goes to the back of the list then
pub row_order :
    order_of (walked_from_start program_that_adds empty_system 20 (listed (1 ∷ 0 ∷ 1 ∷ [])) 0 60)
    ≡ [] ∷ [] ∷ (1 ∷ 1 ∷ []) ∷ (1 ∷ 0 ∷ []) ∷ (1 ∷ 0 ∷ []) ∷ (1 ∷ 1 ∷ []) ∷ (1 ∷ 0 ∷ []) ∷ (1 ∷ 1 ∷ []) ∷ (1 ∷ 0 ∷ []) ∷ (1 ∷ 1 ∷ [])
    ∷ (1 ∷ 0 ∷ []) ∷ (1 ∷ 1 ∷ []) ∷ [] ∷ [] ∷ [] ∷ []
unfolding zero_value
row_order = refl

-- a selection lets each branch go to its end, whatever the choices
pub row_adds_selected : selected program_that_adds [] ≡ (50 ∷ [], outcome.done, 9, 1)
unfolding zero_value
row_adds_selected = refl

-- proc main begin when false do skip end end: no standstill is seen, and all turns are taken
abbrev pub program_that_waits : ProgramUnit
program_that_waits = program_of [] [] (block_of kind.Program 0 None [] [] 5 (when_act (one_clause false_value []) 1 ∷ []) ∷ [])

pub row_waits : walked_by program_that_waits [] ≡ ([], outcome.turns, 20, 0)
unfolding zero_value
row_waits = refl

-- HEAD var x: int
-- proc p var y: int begin when true do y := x; x := y + 1 end end
-- begin cobegin 1 do p also 2 do p end; if x = 2 do display('2') else true do display('1') end end
abbrev pub program_that_excludes : ProgramUnit
program_that_excludes =
    program_of [] (2 ∷ [])
    (head (0 ∷ []) 11
    (cobegin (2 ∷ 3 ∷ []) 4
    ∷ if_act (two_clauses (two (value_of 0 1) op.Equal (number (pos 2)) 5) (display 0 (pos 50) ∷ []) true_value (display 0 (pos 49) ∷ [])) ∷ [])
    ∷ block_of kind.Procedure 0 None [] (0 ∷ []) 9
    (when_act (one_clause true_value
    (assign (variable 0 0) (value_of 1 1) ∷ assign (variable 1 1) (two (value_of 0 0) op.Plus (number (pos 1)) 3) ∷ [])) 2 ∷ [])
    ∷ block_of kind.Branch 0 None [] [] 5 (call (callee.Block 1 1) no_argument 4 ∷ [])
    ∷ block_of kind.Branch 0 None [] [] 5 (call (callee.Block 1 1) no_argument 4 ∷ []) ∷ [])

-- the two branches alternate as before; but each phase is one step, and no update is lost
pub row_excludes : walked_by program_that_excludes [] ≡ (50 ∷ [], outcome.done, 11, 9)
unfolding zero_value
row_excludes = refl

-- HEAD begin
--   cobegin 1 do
--     cobegin 1 do display('a') also 2 do display('b') end; display('c')
--   also 2 do display('d'); display('e'); display('f')
--   end
-- end
abbrev pub program_that_forks : ProgramUnit
program_that_forks =
    program_of [] (2 ∷ [])
    (head [] 9 (cobegin (1 ∷ 2 ∷ []) 2 ∷ [])
    ∷ block_of kind.Branch 0 None [] [] 9 (cobegin (3 ∷ 4 ∷ []) 3 ∷ display 1 (pos 99) ∷ [])
    ∷ block_of kind.Branch 0 None [] [] 9 (display 1 (pos 100) ∷ display 1 (pos 101) ∷ display 1 (pos 102) ∷ [])
    ∷ block_of kind.Branch 1 None [] [] 9 (display 2 (pos 97) ∷ [])
    ∷ block_of kind.Branch 1 None [] [] 9 (display 2 (pos 98) ∷ []) ∷ [])

-- the children of the first branch stand behind the second branch, in the order of the text; and so does the first branch when they
-- have ended
pub row_forks : walked_by program_that_forks [] ≡ (100 ∷ 97 ∷ 98 ∷ 101 ∷ 102 ∷ 99 ∷ [], outcome.done, 8, 10)
unfolding zero_value
row_forks = refl

-- 0 of two takes the front, and 5 of three the place 5 % 3 behind it; with no choice left the front is taken
pub row_forks_chosen : walked_by program_that_forks (0 ∷ 5 ∷ []) ≡ (98 ∷ 100 ∷ 97 ∷ 101 ∷ 102 ∷ 99 ∷ [], outcome.done, 8, 10)
unfolding zero_value
row_forks_chosen = refl
