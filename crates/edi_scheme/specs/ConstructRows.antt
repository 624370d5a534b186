-- Computed rows. Each construct of the language as code: the small programs of Programs run on the machine as they do by their meaning.
use Rattle.std.specs.Prelude.{◌≡◌, ℕ, pos, negsuc, List, [], ◌∷◌, Option, refl}
use Rattle.edi_calls.specs.declared.kinds.Cause.TheVariants as cause
use Rattle.edi_calls.specs.Choice.{listed}
use Rattle.edi_calls.specs.Outcome as outcome
use Rattle.edi_calls.specs.Outcome.{Ending}
use Rattle.edi_store.specs.Memory.{zero_words}
use Rattle.edi_word.specs.Sets.{members_where}
use Rattle.edi_unit.specs.declared.expressions.Operator.TheVariants as op
use Rattle.edi_unit.specs.Types.{Shape, enumeration, size}
use Rattle.edi_unit.specs.Values.{zero_value}
use Rattle.edi_unit.specs.Tree.{Expression, constant, sign_of, convert, ProgramUnit}
use Rattle.edi_meaning.specs.Rows.{empty_system, number, two}
use Rattle.edi_target.specs.Decode.{decode}
use Rattle.edi_scheme.specs.Programs.{program_of_operators, program_that_shows_value, program_with_clauses, program_that_halts, program_of_sets}
use Rattle.edi_scheme.specs.Programs.{program_with_member, program_of_records, program_with_bound, program_with_string, program_that_hands_on}
use Rattle.edi_scheme.specs.Programs.{program_with_parts, program_of_procedures, program_of_functions, program_through_outer, program_through_levels}
use Rattle.edi_scheme.specs.Programs.{program_that_calls_itself}
use Rattle.edi_scheme.specs.Sides.{End, both, twice, with_needs}

-- with a bound of a hundred turns
abbrev run : ProgramUnit → List ℕ → Option End × Option End
run unit choices = both (with_needs unit) empty_system 100 (listed choices)

-- these bytes shown, this ending, so many turns and choices
abbrev ends : List ℕ → Ending → ℕ → ℕ → Option End × Option End
ends shown ending turns drawn = twice (record empty_system { shown = shown }, ending, turns, drawn)

-- an expression shows this byte, or fails on line 3 because it is no value of its type
abbrev shows : List Shape → Expression → ℕ → Type 0
shows types e n = run (program_that_shows_value types e) [] ≡ ends (n ∷ []) outcome.done 2 0

abbrev fails : List Shape → Expression → Type 0
fails types e = run (program_that_shows_value types e) [] ≡ ends [] (outcome.failed cause.Range 3) 1 0

-- ---- operators

pub row_operators : run program_of_operators [] ≡ ends (3 ∷ 5 ∷ 4 ∷ 6 ∷ 8 ∷ []) outcome.done 2 0
unfolding decode zero_words size zero_value members_where
row_operators = refl

-- division rounds to 0, and the remainder has the sign of the dividend: -3 + 10, and -1 + 10
pub row_division :
    shows [] (two (two (number (negsuc 6)) op.Div (number (pos 2)) 1) op.Plus (number (pos 10)) 1) 7
    × shows [] (two (two (number (negsuc 6)) op.Mod (number (pos 2)) 1) op.Plus (number (pos 10)) 1) 9
unfolding decode zero_words size zero_value members_where
row_division = (refl, refl)

-- what is no value of `int`: a difference, a product, quotients, a remainder and a sign
pub row_no_integers :
    fails [] (two (number (negsuc 32767)) op.Minus (number (pos 1)) 3)
    × fails [] (two (number (pos 256)) op.Times (number (pos 128)) 3)
    × fails [] (two (number (pos 1)) op.Div (number (pos 0)) 3)
    × fails [] (two (number (pos 1)) op.Mod (number (pos 0)) 3)
    × fails [] (two (number (negsuc 32767)) op.Div (number (negsuc 0)) 3)
    × fails [] (sign_of (number (negsuc 32767)) 3)
unfolding decode zero_words size zero_value members_where
row_no_integers = (refl, refl, refl, refl, refl, refl)

-- conversions: a character, a truth value and a constant of an enumeration have to be there; a number is always
pub row_characters :
    shows [] (convert 1 (number (pos 127)) 3) 127 × fails [] (convert 1 (number (pos 128)) 3) × fails [] (convert 1 (number (negsuc 0)) 3)
unfolding decode zero_words size zero_value members_where
row_characters = (refl, refl, refl)

pub row_truths : shows [] (convert 2 (number (pos 1)) 3) 1 × fails [] (convert 2 (number (pos 2)) 3)
unfolding decode zero_words size zero_value members_where
row_truths = (refl, refl)

pub row_constants :
    shows (enumeration 3 ∷ []) (convert 3 (number (pos 2)) 3) 2
    × fails (enumeration 3 ∷ []) (convert 3 (number (pos 3)) 3)
    × shows (enumeration 3 ∷ []) (convert 0 (constant 3 (pos 2)) 3) 2
unfolding decode zero_words size zero_value members_where
row_constants = (refl, refl, refl)

-- ---- statements

pub row_clauses : run program_with_clauses [] ≡ ends (3 ∷ 2 ∷ 9 ∷ 0 ∷ []) outcome.done 5 0
unfolding decode zero_words size zero_value members_where
row_clauses = refl

pub row_halts : run program_that_halts [] ≡ ends (1 ∷ []) (outcome.halted 6) 1 0
unfolding decode zero_words size zero_value members_where
row_halts = refl

-- ---- sets, records and arrays

pub row_sets : run program_of_sets [] ≡ ends (1 ∷ 2 ∷ 4 ∷ 6 ∷ 7 ∷ 9 ∷ 10 ∷ []) outcome.done 2 0
unfolding decode zero_words size zero_value members_where
row_sets = refl

pub row_records : run program_of_records [] ≡ ends (6 ∷ 2 ∷ 3 ∷ 7 ∷ 8 ∷ 6 ∷ 9 ∷ 4 ∷ []) outcome.done 2 0
unfolding decode zero_words size zero_value members_where
row_records = refl

-- members of a set and elements of an array, within the bounds and outside
pub row_bounds :
    (run (program_with_member (pos 127)) [] ≡ ends (1 ∷ 2 ∷ []) outcome.done 2 0)
    × (run (program_with_member (pos 128)) [] ≡ ends (1 ∷ []) (outcome.failed cause.Range 8) 1 0)
    × (run (program_with_member (negsuc 0)) [] ≡ ends (1 ∷ []) (outcome.failed cause.Range 8) 1 0)
    × (run (program_with_bound (pos 1)) [] ≡ ends (3 ∷ 0 ∷ []) outcome.done 2 0)
    × (run (program_with_bound (pos 2)) [] ≡ ends (3 ∷ []) (outcome.failed cause.Range 4) 1 0)
    × (run (program_with_bound (negsuc 1)) [] ≡ ends (3 ∷ []) (outcome.failed cause.Range 4) 1 0)
unfolding decode zero_words size zero_value members_where
row_bounds = (refl, refl, refl, refl, refl, refl)

pub row_string : run program_with_string [] ≡ ends (99 ∷ 61 ∷ []) outcome.done 2 0
unfolding decode zero_words size zero_value members_where
row_string = refl

-- ---- procedures and functions

pub row_hands_on : run program_that_hands_on [] ≡ ends (12 ∷ []) outcome.done 6 0
unfolding decode zero_words size zero_value members_where
row_hands_on = refl

pub row_parts : run program_with_parts [] ≡ ends (4 ∷ 3 ∷ []) outcome.done 6 0
unfolding decode zero_words size zero_value members_where
row_parts = refl

pub row_procedures : run program_of_procedures [] ≡ ends (107 ∷ 4 ∷ 6 ∷ []) outcome.done 8 0
unfolding decode zero_words size zero_value members_where
row_procedures = refl

pub row_functions : run program_of_functions [] ≡ ends (7 ∷ 10 ∷ 31 ∷ []) outcome.done 24 0
unfolding decode zero_words size zero_value members_where
row_functions = refl

pub row_through_outer : run program_through_outer [] ≡ ends (0 ∷ 1 ∷ 2 ∷ []) outcome.done 14 0
unfolding decode zero_words size zero_value members_where
row_through_outer = refl

pub row_through_levels : run program_through_levels [] ≡ ends (5 ∷ 7 ∷ []) outcome.done 6 0
unfolding decode zero_words size zero_value members_where
row_through_levels = refl

pub row_calls_itself : both (with_needs program_that_calls_itself) (record empty_system { input = 97 ∷ 98 ∷ 99 ∷ [] }) 100 (listed [])
    ≡ twice (record empty_system { input = 99 ∷ []; shown = 98 ∷ 97 ∷ [] }, outcome.done, 4, 0)
unfolding decode zero_words size zero_value members_where
row_calls_itself = refl
