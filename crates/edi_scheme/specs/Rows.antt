-- Computed rows. The programs of `edi_meaning` as code: each runs on the machine as it does by its meaning.
use Rattle.std.specs.Prelude.{◌≡◌, ℕ, List, [], ◌∷◌, Option, refl}
use Rattle.edi_calls.specs.declared.kinds.Cause.TheVariants as cause
use Rattle.edi_calls.specs.Choice.{listed}
use Rattle.edi_calls.specs.Outcome as outcome
use Rattle.edi_calls.specs.Outcome.{Ending}
use Rattle.edi_store.specs.Memory.{zero_words}
use Rattle.edi_unit.specs.Types.{size}
use Rattle.edi_unit.specs.Values.{zero_value}
use Rattle.edi_unit.specs.Tree.{ProgramUnit}
use Rattle.edi_meaning.specs.Rows as program
use Rattle.edi_target.specs.Decode.{decode}
use Rattle.edi_scheme.specs.Sides.{End, both, twice, with_needs}

-- with a bound of twenty turns
abbrev run : ProgramUnit → List ℕ → Option End × Option End
run unit choices = both (with_needs unit) program.empty_system 20 (listed choices)

-- these bytes shown, this ending, so many turns and choices
abbrev ends : List ℕ → Ending → ℕ → ℕ → Option End × Option End
ends shown ending turns drawn = twice (record program.empty_system { shown = shown }, ending, turns, drawn)

-- ---- sequential programs

pub row_shows : run program.program_that_shows [] ≡ ends (97 ∷ []) outcome.done 2 0
unfolding decode zero_words size zero_value
row_shows = refl

pub row_counts : run program.program_that_counts [] ≡ ends (107 ∷ 107 ∷ 107 ∷ []) outcome.done 5 0
unfolding decode zero_words size zero_value
row_counts = refl

pub row_overflows : run program.program_that_overflows [] ≡ ends (97 ∷ []) (outcome.failed cause.Range 4) 1 0
unfolding decode zero_words size zero_value
row_overflows = refl

pub row_with_index : run program.program_with_index [] ≡ ends (113 ∷ 122 ∷ []) outcome.done 4 0
unfolding decode zero_words size zero_value
row_with_index = refl

pub row_with_alias : run program.program_with_alias [] ≡ ends (49 ∷ 50 ∷ []) outcome.done 4 0
unfolding decode zero_words size zero_value
row_with_alias = refl

pub row_with_procedure : run program.program_with_procedure [] ≡ ends (49 ∷ []) outcome.done 8 0
unfolding decode zero_words size zero_value
row_with_procedure = refl

pub row_recurs : run program.program_that_recurs [] ≡ ends (120 ∷ []) outcome.done 6 0
unfolding decode zero_words size zero_value
row_recurs = refl

pub row_is_held : run program.program_that_is_held [] ≡ ends [] (outcome.failed cause.Held 5) 2 0
unfolding decode zero_words size zero_value
row_is_held = refl

pub row_decides : run program.program_that_decides [] ≡ ends (107 ∷ []) outcome.done 2 0
unfolding decode zero_words size zero_value
row_decides = refl

-- ---- processes

pub row_forks : run program.program_that_forks [] ≡ ends (97 ∷ 98 ∷ []) outcome.done 7 3
unfolding decode zero_words size zero_value
row_forks = refl

pub row_forks_chosen : run program.program_that_forks (0 ∷ 0 ∷ 1 ∷ []) ≡ ends (98 ∷ 97 ∷ []) outcome.done 7 3
unfolding decode zero_words size zero_value
row_forks_chosen = refl

pub row_forks_at_once : run program.program_that_forks (1 ∷ []) ≡ ends (98 ∷ 97 ∷ []) outcome.done 7 3
unfolding decode zero_words size zero_value
row_forks_at_once = refl

pub row_waits : run program.program_that_waits [] ≡ ends [] outcome.standstill 3 0
unfolding decode zero_words size zero_value
row_waits = refl

pub row_two_wait : run program.program_where_two_wait [] ≡ ends [] outcome.standstill 6 4
unfolding decode zero_words size zero_value
row_two_wait = refl

pub row_asks : run program.program_that_asks [] ≡ ends [] outcome.turns 20 0
unfolding decode zero_words size zero_value
row_asks = refl

pub row_goes_on : run program.program_that_goes_on (0 ∷ 0 ∷ 0 ∷ 0 ∷ 0 ∷ 0 ∷ 1 ∷ []) ≡ ends (98 ∷ []) outcome.done 12 8
unfolding decode zero_words size zero_value
row_goes_on = refl

-- ---- limits

-- a procedure finds just as many words as it needs, and one too few
pub row_fits : both (program.program_that_needs 65531) program.empty_system 20 (listed []) ≡ ends [] outcome.done 4 0
unfolding decode zero_words size zero_value
row_fits = refl

pub row_does_not_fit : both (program.program_that_needs 65532) program.empty_system 20 (listed []) ≡ ends [] (outcome.failed cause.VariableLimit 3) 1 0
unfolding decode zero_words size zero_value
row_does_not_fit = refl

-- with one process, 31 branches are as many as there may be
abbrev run_longer : ProgramUnit → Option End × Option End
run_longer unit = both (with_needs unit) program.empty_system 100 (listed [])

pub row_31_branches : run_longer (program.program_of_branches 31) ≡ ends [] outcome.done 34 30
unfolding decode zero_words size zero_value
row_31_branches = refl

pub row_32_branches : run_longer (program.program_of_branches 32) ≡ ends [] (outcome.failed cause.ProcessLimit 2) 1 0
unfolding decode zero_words size zero_value
row_32_branches = refl
