-- Computed rows. The code of the small programs of `edi_timeline`, run by the machine: it has the stints that their meaning has.
use Rattle.std.specs.Prelude.{◌≡◌, ℕ, List, [], ◌∷◌, refl}
use Rattle.edi_calls.specs.Choice.{listed}
use Rattle.edi_store.specs.Memory.{zero_words}
use Rattle.edi_unit.specs.Types.{size}
use Rattle.edi_unit.specs.Values.{zero_value}
use Rattle.edi_unit.specs.Tree.{ProgramUnit}
use Rattle.edi_meaning.specs.Rows.{empty_system}
use Rattle.edi_target.specs.Decode.{decode}
use Rattle.edi_scheme.specs.Laws.{parts_of}
use Rattle.edi_scheme.specs.Sides.{with_needs}
use Rattle.edi_timeline.specs.Stints.{Stint}
use Rattle.edi_timeline.specs.Rows.{program_that_loses, lost_update, program_where_two_wait, two_wait, program_that_halts, halted, program_that_tries, tried}
use Rattle.edi_timed.specs.Ran.{stints_of_code}

-- of at most forty turns, and a thousand instructions
abbrev pub code_timeline : ProgramUnit → List ℕ → List Stint
code_timeline unit choices = stints_of_code (parts_of (with_needs unit)) empty_system 40 (listed choices) 0 1000

pub row_code_loses : code_timeline program_that_loses [] ≡ lost_update
unfolding decode zero_words size zero_value
row_code_loses = refl

pub row_code_waits : code_timeline program_where_two_wait [] ≡ two_wait
unfolding decode zero_words size zero_value
row_code_waits = refl

pub row_code_halts : code_timeline program_that_halts [] ≡ halted
unfolding decode zero_words size zero_value
row_code_halts = refl

pub row_code_tries : code_timeline program_that_tries (0 ∷ 1 ∷ []) ≡ tried
unfolding decode zero_words size zero_value
row_code_tries = refl
