-- Computed rows. Small programs with several processes, run by their meaning: what they show, how they end, and how many moves they have. The
-- text of each stands in its comment; HEAD is the line `proc main(proc display(value: char))`.
use Rattle.std.specs.Prelude.{◌≡◌, ◌-◌, ℕ, pos, List, [], ◌∷◌, None, refl}
use Rattle.edi_calls.specs.State.{Traced, begun}
use Rattle.edi_calls.specs.Choice.{listed}
use Rattle.edi_calls.specs.Names.{Name}
use Rattle.edi_calls.specs.Outcome as outcome
use Rattle.edi_calls.specs.Outcome.{Ending}
use Rattle.edi_unit.specs.declared.expressions.Operator.TheVariants as op
use Rattle.edi_unit.specs.declared.units.BlockKind.TheVariants as kind
use Rattle.edi_unit.specs.Values.{zero_value}
use Rattle.edi_unit.specs.Tree.{assign, if_act, when_act, cobegin, Block, ProgramUnit}
use Rattle.edi_meaning.specs.Select.{Selected, unfinished, finished, select_from_start}
use Rattle.edi_meaning.specs.Rows.{empty_system, variable, value_of, number, true_value, two, one_clause, two_clauses, display, block_of, program_of, head}
use Rattle.edi_meaning.specs.Rows.{program_that_waits, program_where_two_wait}
use Rattle.edi_explored.specs.Moves.{moves_of}

-- ---- executions of at most forty turns, and eighty steps

abbrev pub run_of : ProgramUnit → List ℕ → Selected
run_of unit choices = select_from_start unit empty_system 40 (listed choices) 80

abbrev pub end_of : Selected → Traced
end_of unfinished = begun empty_system
end_of (finished ending system turns drawn order) = system

abbrev pub order_of : Selected → List Name
order_of unfinished = []
order_of (finished ending system turns drawn order) = order

-- what was shown, how it ends, the turns that it took, and the choices that it drew
abbrev pub seen : Selected → List ℕ × Ending × ℕ × ℕ
seen unfinished = ([], outcome.turns, 0, 0)
seen (finished ending system turns drawn order) = (system.now.shown, ending, 40 - turns, drawn)

abbrev pub moves_in : ProgramUnit → List ℕ → ℕ
moves_in unit choices = moves_of unit empty_system 40 (listed choices) 80

-- ---- an update that may be lost

-- HEAD var x, y, z: int begin cobegin
-- 1 do when true do y := x end; when true do x := y + 1 end
-- also 2 do when true do z := x end; when true do x := z + 1 end end;
-- if x = 1 do display('1') else true do display('2') end end
abbrev pub branch_with : ℕ → Block
branch_with v =
    block_of kind.Branch 0 None [] [] 7
    (when_act (one_clause true_value (assign (variable 1 v) (value_of 1 1) ∷ [])) 2
    ∷ when_act (one_clause true_value (assign (variable 1 1) (two (value_of 1 v) op.Plus (number (pos 1)) 2) ∷ [])) 2
    ∷ [])

abbrev pub program_that_loses : ProgramUnit
program_that_loses =
    program_of [] (2 ∷ [])
    (head (0 ∷ 0 ∷ 0 ∷ []) 12
    (cobegin (1 ∷ 2 ∷ []) 1
    ∷ if_act (two_clauses (two (value_of 0 1) op.Equal (number (pos 1)) 4) (display 0 (pos 49) ∷ []) true_value (display 0 (pos 50) ∷ []))
    ∷ [])
    ∷ branch_with 2
    ∷ branch_with 3
    ∷ [])

-- both read 0: one update is lost; or the second reads what the first has written
pub row_loses :
    (seen (run_of program_that_loses []) ≡ (49 ∷ [], outcome.done, 9, 5))
    × (seen (run_of program_that_loses (0 ∷ 0 ∷ 0 ∷ 1 ∷ [])) ≡ (50 ∷ [], outcome.done, 9, 4))
unfolding zero_value
row_loses = (refl, refl)

-- the fork; of each branch an arrival, the first phase with the second arrival, and the second phase with the end. The last process of an
-- execution makes no move.
pub row_moves : (moves_in program_that_loses [] ≡ 7) × (moves_in program_that_loses (0 ∷ 0 ∷ 0 ∷ 1 ∷ []) ≡ 7)
unfolding zero_value
row_moves = (refl, refl)

-- ---- processes that wait for ever

-- two wait for each other: the fork and two arrivals are moves, and the attempts that fail are none
pub row_waits :
    (seen (run_of program_where_two_wait []) ≡ ([], outcome.standstill, 6, 4))
    × (moves_in program_where_two_wait [] ≡ 3)
    × (moves_in program_that_waits [] ≡ 1)
unfolding zero_value
row_waits = (refl, refl, refl)
