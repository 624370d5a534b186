-- Computed rows. Calls that find the right instance, and just as much room as they need: these programs run on the machine as they do by
-- their meaning. The text of each stands in its comment; HEAD and `show` are as in Programs.
use Rattle.std.specs.Prelude.{◌≡◌, ℕ, List, [], ◌∷◌, Option, Some, None, refl}
use Rattle.edi_calls.specs.declared.kinds.Cause.TheVariants as cause
use Rattle.edi_calls.specs.Choice.{listed}
use Rattle.edi_calls.specs.Outcome as outcome
use Rattle.edi_calls.specs.Outcome.{Ending}
use Rattle.edi_store.specs.Memory.{zero_words}
use Rattle.edi_unit.specs.declared.expressions.Operator.TheVariants as op
use Rattle.edi_unit.specs.declared.expressions.Callee.TheVariants as callee
use Rattle.edi_unit.specs.declared.units.BlockKind.TheVariants as kind
use Rattle.edi_unit.specs.declared.units.Parameter.TheVariants as parameter
use Rattle.edi_unit.specs.Types.{size}
use Rattle.edi_unit.specs.Values.{zero_value}
use Rattle.edi_unit.specs.Tree.{no_argument, apply_of, by_value, by_procedure, assign, ProgramUnit}
use Rattle.edi_unit.specs.Tree.{if_act}
use Rattle.edi_meaning.specs.Rows.{empty_system, variable, value_of, true_value, two, block_of, program_of, head}
use Rattle.edi_target.specs.Decode.{decode}
use Rattle.edi_scheme.specs.Programs.{clauses, natural, call_formal, call_block, function, show, program_with, procedure}
use Rattle.edi_scheme.specs.Sides.{End, both, twice, with_needs}

-- these bytes shown, this ending, so many turns, and no choice
abbrev ends : List ℕ → Ending → ℕ → Option End × Option End
ends shown ending turns = twice (record empty_system { shown = shown }, ending, turns, 0)

-- HEAD proc p(n: int; proc f) proc g begin show n end
--   begin if n = 2 do p(1, g) else n = 1 do p(0, f) else true do f end end
-- proc q begin show 9 end
-- begin p(2, q) end: g is called two instances of p above the one whose n it means
abbrev program_that_calls_back : ProgramUnit
program_that_calls_back =
    program_with [] []
    (call_block 0 1 (by_value (natural 2) ∷ by_procedure (callee.Block 0 3) ∷ []) ∷ [])
    (procedure 0 (parameter.Value 0 ∷ parameter.Formal None ∷ []) []
    (if_act (clauses (
    (two (value_of 0 0) op.Equal (natural 2) 1, call_block 1 1 (by_value (natural 1) ∷ by_procedure (callee.Block 0 2) ∷ []) ∷ [])
    ∷ (two (value_of 0 0) op.Equal (natural 1) 1, call_block 1 1 (by_value (natural 0) ∷ by_procedure (callee.Formal 0 1) ∷ []) ∷ [])
    ∷ (true_value, call_formal 0 1 [] ∷ [])
    ∷ [])) ∷ [])
    ∷ procedure 1 [] [] (show 2 (value_of 1 0) ∷ [])
    ∷ procedure 0 [] [] (show 1 (natural 9) ∷ [])
    ∷ [])

pub row_calls_back : both (with_needs program_that_calls_back) empty_system 100 (listed []) ≡ ends (2 ∷ []) outcome.done 10
unfolding decode zero_words size zero_value
row_calls_back = refl

-- HEAD proc f: int begin val f := 7 end proc apply(proc h: int): int begin val apply := 1 + h end
-- begin show apply(f) end, with h on line 7, where f needs n words: main needs 11 and apply 12
abbrev program_that_needs_inside : ℕ → ProgramUnit
program_that_needs_inside n =
    program_of [] (2 ∷ [])
    (head [] 11 (show 0 (function 0 2 (by_procedure (callee.Block 0 1) ∷ [])) ∷ [])
    ∷ block_of kind.Function 0 (Some 0) [] [] n (assign (variable 0 0) (natural 7) ∷ [])
    ∷ block_of kind.Function 0 (Some 0) (parameter.Formal (Some 0) ∷ []) [] 12
    (assign (variable 0 0) (two (natural 1) op.Plus (apply_of (callee.Formal 0 1) no_argument 7) 1) ∷ [])
    ∷ [])

-- the words that are left are those behind the frames, whatever operands the calling frame has
pub row_fits_inside : both (program_that_needs_inside 65513) empty_system 100 (listed []) ≡ ends (8 ∷ []) outcome.done 6
unfolding decode zero_words size zero_value
row_fits_inside = refl

pub row_does_not_fit_inside : both (program_that_needs_inside 65514) empty_system 100 (listed []) ≡ ends [] (outcome.failed cause.VariableLimit 7) 2
unfolding decode zero_words size zero_value
row_does_not_fit_inside = refl
