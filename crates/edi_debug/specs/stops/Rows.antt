-- Computed rows. Small programs that are watched: where their `when`s stand, and the lines that they give, from the variables and from the memory.
use Rattle.std.specs.Prelude.{◌≡◌, ℕ, true, List, [], ◌∷◌, pos, negsuc, Some, None, codes, refl}
use Rattle.edi_calls.specs.Choice.{listed}
use Rattle.edi_store.specs.Memory.{zero_words}
use Rattle.edi_unit.specs.declared.expressions.Operator.TheVariants as op
use Rattle.edi_unit.specs.declared.units.BlockKind.TheVariants as kind
use Rattle.edi_unit.specs.Types.{size}
use Rattle.edi_unit.specs.Values.{zero_value}
use Rattle.edi_unit.specs.declared.expressions.Callee.TheVariants as callee
use Rattle.edi_unit.specs.declared.units.Parameter.TheVariants as parameter
use Rattle.edi_unit.specs.Tree.{by_variable, no_argument, argument_then, assign, call, skip, when_act, cobegin, ProgramUnit}
use Rattle.edi_meaning.specs.Rows.{empty_system, variable, value_of, number, true_value, two, one_clause, block_of, program_of}
use Rattle.edi_target.specs.Decode.{decode}
use Rattle.edi_target.specs.Fetch.{fetch}
use Rattle.edi_scheme.specs.Code.{code_of}
use Rattle.edi_scheme.specs.Sides.{with_needs}
use Rattle.edi_scheme.specs.Awaits.{await_address, await_number}
use Rattle.edi_target.specs.Arrivals.{arrived_from_start}
use Rattle.edi_debug.specs.stops.Kept.{after_lines}
use Rattle.edi_debug.specs.stops.Stops.{Watched, line_of, log_lines}
use Rattle.edi_debug.specs.stops.Watching.{run_lines}

-- proc main var x: int
-- begin x := -3;
--   when x = 0 do skip end end, with `when` on line 4: it waits for itself for ever
abbrev waits : ProgramUnit
waits = with_needs (program_of [] []
    (block_of kind.Program 0 None [] (0 ∷ []) 0
    (assign (variable 0 0) (number (negsuc 2)) ∷ when_act (one_clause (two (value_of 0 0) op.Equal (number (pos 0)) 4) (skip ∷ [])) 4 ∷ []) ∷ []))

-- `4 x`
abbrev four : List Watched
four = record { line = 4; name = codes "x"; sights = record { block = 0; index = 0; slot = Some (record { levels = 0; variable = 0 }) } ∷ [] } ∷ []

abbrev lines_of_four : List (List ℕ)
lines_of_four = line_of 2 4 (codes "x") (negsuc 2) ∷ line_of 3 4 (codes "x") (negsuc 2) ∷ []

-- ENTRY has six words, the assignment seven, WHEN two
pub row_address : await_address waits 0 0 ≡ Some 15
unfolding size
row_address = refl

pub row_no_address : await_address waits 0 1 ≡ None
unfolding size
row_no_address = refl

-- the second statement of the body
pub row_number : await_number waits (record { of = 0; path = 1 ∷ [] }) ≡ Some 0
row_number = refl

-- the arrival, and the attempt that completes the standstill
pub row_meant : log_lines waits empty_system 20 ([] ∷ [] ∷ [] ∷ [] ∷ []) four ≡ lines_of_four
unfolding size zero_value
row_meant = refl

pub row_run : run_lines waits 20 four (arrived_from_start (fetch (code_of waits)) 0 [] empty_system 20 (listed []) 0 100) ≡ lines_of_four
unfolding decode zero_words size zero_value
row_run = refl

-- proc main var x: int
-- begin cobegin 1 do when x = 0 do x := 1 end
-- also 2 do when true do skip end end end, with the words on lines 3 and 4
abbrev both_wait : ProgramUnit
both_wait = with_needs (program_of [] []
    (block_of kind.Program 0 None [] (0 ∷ []) 0 (cobegin (1 ∷ 2 ∷ []) 3 ∷ [])
    ∷ block_of kind.Branch 0 None [] [] 0 (when_act (one_clause (two (value_of 1 0) op.Equal (number (pos 0)) 3) (assign (variable 1 0) (number (pos 1)) ∷ [])) 3 ∷ [])
    ∷ block_of kind.Branch 0 None [] [] 0 (when_act (one_clause true_value (skip ∷ [])) 4 ∷ []) ∷ []))

-- `3 x` and `4 x`
abbrev three_and_four : List Watched
three_and_four =
    record { line = 3; name = codes "x"; sights = record { block = 1; index = 0; slot = Some (record { levels = 1; variable = 0 }) } ∷ [] }
    ∷ record { line = 4; name = codes "x"; sights = record { block = 2; index = 0; slot = Some (record { levels = 1; variable = 0 }) } ∷ [] } ∷ []

pub row_both_run : run_lines both_wait 20 three_and_four (arrived_from_start (fetch (code_of both_wait)) 0 [] empty_system 20 (listed []) 0 200)
    ≡ line_of 3 3 (codes "x") (pos 0) ∷ line_of 4 4 (codes "x") (pos 0) ∷ []
unfolding decode zero_words size zero_value
row_both_run = refl

-- proc main var y, x: int / proc p(var v: int) begin when true do skip end end begin x := 5; p(x) end, with the word on line 3: what `v` means
-- is the variable of the program
abbrev watches_a_place : ProgramUnit
watches_a_place = with_needs (program_of [] []
    (block_of kind.Program 0 None [] (0 ∷ 0 ∷ []) 0
    (assign (variable 0 1) (number (pos 5)) ∷ call (callee.Block 0 1) (argument_then (by_variable (variable 0 1)) no_argument) 2 ∷ [])
    ∷ block_of kind.Procedure 0 None (parameter.Var 0 ∷ []) [] 0 (when_act (one_clause true_value (skip ∷ [])) 3 ∷ []) ∷ []))

-- `3 v`
abbrev three_v : List Watched
three_v = record { line = 3; name = codes "v"; sights = record { block = 1; index = 0; slot = Some (record { levels = 0; variable = 0 }) } ∷ [] } ∷ []

pub row_place_run : run_lines watches_a_place 20 three_v (arrived_from_start (fetch (code_of watches_a_place)) 0 [] empty_system 20 (listed []) 0 100)
    ≡ line_of 3 3 (codes "v") (pos 5) ∷ []
unfolding decode zero_words size zero_value
row_place_run = refl

-- proc main var y, x: int begin x := 7; cobegin 1 do cobegin 2 do when true do skip end; when true do skip end end end end, with both words on
-- line 4: `x` stands two blocks out, and each of the two gives its line
abbrev watches_further_out : ProgramUnit
watches_further_out = with_needs (program_of [] []
    (block_of kind.Program 0 None [] (0 ∷ 0 ∷ []) 0 (assign (variable 0 1) (number (pos 7)) ∷ cobegin (1 ∷ []) 3 ∷ [])
    ∷ block_of kind.Branch 0 None [] [] 0 (cobegin (2 ∷ []) 3 ∷ [])
    ∷ block_of kind.Branch 1 None [] [] 0
    (when_act (one_clause true_value (skip ∷ [])) 4 ∷ when_act (one_clause true_value (skip ∷ [])) 4 ∷ []) ∷ []))

-- `4 x`
abbrev both_of_four : List Watched
both_of_four =
    record {
      line = 4;
      name = codes "x";
      sights =
          record { block = 2; index = 0; slot = Some (record { levels = 2; variable = 1 }) }
          ∷ record { block = 2; index = 1; slot = Some (record { levels = 2; variable = 1 }) } ∷ [];
    } ∷ []

pub row_further_run : run_lines watches_further_out 20 both_of_four
    (arrived_from_start (fetch (code_of watches_further_out)) 0 [] empty_system 20 (listed []) 0 100)
    ≡ line_of 4 4 (codes "x") (pos 7) ∷ line_of 5 4 (codes "x") (pos 7) ∷ []
unfolding decode zero_words size zero_value
row_further_run = refl

-- behind a line that did not fit nothing is kept
pub row_full : after_lines (codes "short" ∷ codes "x" ∷ []) (record { bytes = codes "kept"; full = true }) ≡ record { bytes = codes "kept"; full = true }
row_full = refl
