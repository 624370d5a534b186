-- Computed rows. Processes and calls of the system as code: these programs run on the machine as they do by their meaning.
use Rattle.std.specs.Prelude.{◌≡◌, ℕ, List, [], ◌∷◌, Option, Some, refl}
use Rattle.edi_calls.specs.declared.kinds.Cause.TheVariants as cause
use Rattle.edi_calls.specs.Choice.{listed, seeded}
use Rattle.edi_calls.specs.Outcome as outcome
use Rattle.edi_calls.specs.Outcome.{Ending}
use Rattle.edi_store.specs.Memory.{zero_words}
use Rattle.edi_word.specs.Sets.{members_where}
use Rattle.edi_unit.specs.Types.{size}
use Rattle.edi_unit.specs.Values.{zero_value}
use Rattle.edi_unit.specs.Tree.{skip, when_act, cobegin, ProgramUnit}
use Rattle.edi_meaning.specs.Rows as program
use Rattle.edi_meaning.specs.Rows.{empty_system, true_value, one_clause}
use Rattle.edi_target.specs.Decode.{decode}
use Rattle.edi_scheme.specs.ProcessPrograms.{program_with_phases, program_with_called_index, program_with_forks_inside, program_that_shares}
use Rattle.edi_scheme.specs.ProcessPrograms.{program_in_phase, program_that_halts_in_branch, program_that_accepts, program_without_file, program_of_files}
use Rattle.edi_scheme.specs.Sides.{End, both, twice, with_needs}

-- with a bound of a hundred turns
abbrev run : ProgramUnit → List ℕ → Option End × Option End
run unit choices = both (with_needs unit) empty_system 100 (listed choices)

-- these bytes shown, this ending, so many turns and choices
abbrev ends : List ℕ → Ending → ℕ → ℕ → Option End × Option End
ends shown ending turns drawn = twice (record empty_system { shown = shown }, ending, turns, drawn)

-- ---- processes

pub row_phases : run program_with_phases [] ≡ ends (2 ∷ 7 ∷ 9 ∷ 3 ∷ []) outcome.done 11 3
unfolding decode zero_words size zero_value members_where
row_phases = refl

pub row_called_index : run program_with_called_index [] ≡ ends [] outcome.turns 100 0
unfolding decode zero_words size zero_value members_where
row_called_index = refl

pub row_forks_inside : run program_with_forks_inside [] ≡ ends (1 ∷ 2 ∷ 5 ∷ 6 ∷ 9 ∷ []) outcome.done 15 7
unfolding decode zero_words size zero_value members_where
row_forks_inside = refl

-- two branches share the 65,531 words that main leaves

pub row_shares : both (program_that_shares 32765) empty_system 100 (listed []) ≡ ends [] outcome.done 5 1
unfolding decode zero_words size zero_value members_where
row_shares = refl

pub row_does_not_share : both (program_that_shares 32766) empty_system 100 (listed []) ≡ ends [] (outcome.failed cause.VariableLimit 2) 1 0
unfolding decode zero_words size zero_value members_where
row_does_not_share = refl

-- a critical phase holds the process

pub row_fork_in_phase : run (program_in_phase (cobegin (1 ∷ []) 7)) [] ≡ ends (1 ∷ []) (outcome.failed cause.Held 7) 2 0
unfolding decode zero_words size zero_value members_where
row_fork_in_phase = refl

pub row_when_in_phase : run (program_in_phase (when_act (one_clause true_value (skip ∷ [])) 8)) [] ≡ ends (1 ∷ []) (outcome.failed cause.Held 8) 2 0
unfolding decode zero_words size zero_value members_where
row_when_in_phase = refl

pub row_halts_in_branch : run program_that_halts_in_branch [] ≡ ends (1 ∷ []) (outcome.halted 3) 2 1
unfolding decode zero_words size zero_value members_where
row_halts_in_branch = refl

pub row_halts_in_other_branch : run program_that_halts_in_branch (1 ∷ []) ≡ ends (2 ∷ 1 ∷ []) (outcome.halted 3) 3 1
unfolding decode zero_words size zero_value members_where
row_halts_in_other_branch = refl

-- ---- bounds, and choices by a seed
-- what is shown of three characters with a bound on the turns
abbrev bounded : ℕ → Option End × Option End
bounded bound = both (with_needs program.program_that_counts) empty_system bound (listed [])

pub row_bound_0 : bounded 0 ≡ ends [] outcome.turns 0 0
unfolding decode zero_words size zero_value members_where
row_bound_0 = refl

pub row_bound_1 : bounded 1 ≡ ends (107 ∷ []) outcome.turns 1 0
unfolding decode zero_words size zero_value members_where
row_bound_1 = refl

pub row_bound_2 : bounded 2 ≡ ends (107 ∷ 107 ∷ []) outcome.turns 2 0
unfolding decode zero_words size zero_value members_where
row_bound_2 = refl

pub row_bound_4 : bounded 4 ≡ ends (107 ∷ 107 ∷ 107 ∷ []) outcome.turns 4 0
unfolding decode zero_words size zero_value members_where
row_bound_4 = refl

pub row_bound_5 : bounded 5 ≡ ends (107 ∷ 107 ∷ 107 ∷ []) outcome.done 5 0
unfolding decode zero_words size zero_value members_where
row_bound_5 = refl

pub row_seeded : both (with_needs program.program_that_forks) empty_system 100 (seeded 3) ≡ ends (98 ∷ 97 ∷ []) outcome.done 7 2
unfolding decode zero_words size zero_value members_where
row_seeded = refl

-- ---- calls of the system

pub row_accepts : both (with_needs program_that_accepts) (record empty_system { input = 97 ∷ [] }) 100 (listed [])
    ≡ twice (record empty_system { printed = 97 ∷ 25 ∷ [] }, outcome.done, 4, 0)
unfolding decode zero_words size zero_value members_where
row_accepts = refl

pub row_without_file : run program_without_file [] ≡ ends [] (outcome.failed cause.NoFile 5) 1 0
unfolding decode zero_words size zero_value members_where
row_without_file = refl

pub row_files : both (with_needs program_of_files) empty_system 100 (listed [])
    ≡ twice (record empty_system { shown = 1 ∷ []; buffer = Some (120 ∷ []) }, outcome.done, 2, 0)
unfolding decode zero_words size zero_value members_where
row_files = refl
