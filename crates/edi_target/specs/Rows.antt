-- Computed rows. Small codes, run by the definition of the machine.
use Rattle.std.specs.Prelude.{◌≡◌, ℕ, List, [], ◌∷◌, ◌++◌, replicate, None, refl}
use Rattle.edi_calls.specs.State.{State}
use Rattle.edi_calls.specs.Choice.{listed}
use Rattle.edi_calls.specs.Outcome as outcome
use Rattle.edi_calls.specs.Outcome.{Ending, outcome_of}
use Rattle.edi_store.specs.Memory.{zero_words}
use Rattle.edi_target.specs.Decode.{decode}
use Rattle.edi_target.specs.Fetch.{fetch}
use Rattle.edi_target.specs.Mach.{MachineRun, unfinished, finished, run_from_start}

abbrev empty_system : State
empty_system = record { input = []; shown = []; printed = []; slots = replicate 256 None; blocks = 0; found = None; buffer = None }

-- what is shown by the end, the ending, the turns that are left, and the choices drawn
abbrev summary : MachineRun → List ℕ × Ending × ℕ × ℕ
summary unfinished = ([], outcome.standstill, 0, 0)
summary (finished ending m drawn) = (m.system.shown, ending, m.turns, drawn)

-- at most 60 instructions, with ten turns
abbrev summary_of : List ℕ → List ℕ → List ℕ → List ℕ × Ending × ℕ × ℕ
summary_of words calls choices = summary (run_from_start (fetch words) 0 calls empty_system 10 (listed choices) 60)

-- ENTRY, CONST, CALLP, RETURN
abbrev code_that_shows : List ℕ
code_that_shows = 33 ∷ 9 ∷ 0 ∷ 3 ∷ 0 ∷ 0 ∷ 1 ∷ 97 ∷ 35 ∷ 0 ∷ 5 ∷ 1 ∷ 37 ∷ 0 ∷ 0 ∷ []

-- a program that shows one character and ends, with its two turns
pub row_shows : summary_of code_that_shows (2 ∷ []) [] ≡ (97 ∷ [], outcome.done, 8, 0)
unfolding decode zero_words
row_shows = refl

-- ENTRY, WHEN, then CONST, FALSE, DONE, JUMP, QUIET, and RETURN
abbrev code_that_waits : List ℕ
code_that_waits =
    33 ∷ 6 ∷ 0 ∷ 0 ∷ 0 ∷ 0 ∷ 39 ∷ 1 ∷ 1 ∷ 0 ∷ 29 ∷ 0 ∷ 17 ∷ 41 ∷ 28 ∷ 0 ∷ 20 ∷ 44 ∷ 0 ∷ 8 ∷ 37 ∷ 0 ∷ 0 ∷ []

-- a `when` whose condition is false for ever: the entry, the arrival and one attempt
pub row_waits : summary_of code_that_waits [] [] ≡ ([], outcome.standstill, 7, 0)
unfolding decode zero_words
row_waits = refl

-- the program: ENTRY, COBEGIN, RETURN; a branch that waits for x = 0, shows `a` and sets x; a branch that shows `b`
abbrev code_that_forks : List ℕ
code_that_forks =
    (33 ∷ 9 ∷ 0 ∷ 3 ∷ 1 ∷ 0 ∷ 42 ∷ 2 ∷ 3 ∷ 7 ∷ 0 ∷ 18 ∷ 6 ∷ 0 ∷ 53 ∷ 37 ∷ 0 ∷ 0 ∷ [])
    ++ ((39 ∷ 3 ∷ 4 ∷ 1 ∷ 8 ∷ 7 ∷ 1 ∷ 1 ∷ 0 ∷ 16 ∷ 1 ∷ 29 ∷ 0 ∷ 49 ∷ 1 ∷ 97 ∷ 35 ∷ 1 ∷ 5 ∷ 3 ∷ 4 ∷ 1 ∷ 8 ∷ 1 ∷ 1 ∷ 8 ∷ 1 ∷ 41 ∷ 28 ∷ 0 ∷ 52 ∷ 44 ∷ 0 ∷ 20 ∷ 43
    ∷ [])
    ++ (39 ∷ 4 ∷ 1 ∷ 1 ∷ 29 ∷ 0 ∷ 70 ∷ 1 ∷ 98 ∷ 35 ∷ 1 ∷ 5 ∷ 4 ∷ 41 ∷ 28 ∷ 0 ∷ 73 ∷ 44 ∷ 0 ∷ 55 ∷ 43 ∷ []))

-- its seven turns whatever the choices, and the order that they select
pub row_forks : summary_of code_that_forks (2 ∷ []) [] ≡ (97 ∷ 98 ∷ [], outcome.done, 3, 3)
unfolding decode zero_words
row_forks = refl

pub row_forks_chosen : summary_of code_that_forks (2 ∷ []) (0 ∷ 0 ∷ 1 ∷ []) ≡ (98 ∷ 97 ∷ [], outcome.done, 3, 3)
unfolding decode zero_words
row_forks_chosen = refl

pub row_forks_at_once : summary_of code_that_forks (2 ∷ []) (1 ∷ []) ≡ (98 ∷ 97 ∷ [], outcome.done, 3, 3)
unfolding decode zero_words
row_forks_at_once = refl
