-- Definition. What the run of a program leaves.
use Rattle.std.specs.Prelude.{ℕ, List, Option}
use Rattle.edi_calls.specs.declared.kinds.Cause.{Cause}
use Rattle.edi_calls.specs.State.{File, State}

-- how a run ends: the program came to its end; it called `halt`, or failed for a cause, at a line of its text; the
-- bound on its turns was used up; no process can go on any more; or, for code alone, the instruction at an address
-- has no meaning in the state that it met
pub data Ending : Type 0 where
  done : Ending
  halted : (line : ℕ) → Ending
  failed : Cause → (line : ℕ) → Ending
  turns : Ending
  standstill : Ending
  bad : (address : ℕ) → Ending

-- what is left of the input, what was shown and printed, the files, how the run ended, the turns that it took,
-- and the number of choices that it drew
pub record Outcome : Type 0 where
  pub input : List ℕ
  pub shown : List ℕ
  pub printed : List ℕ
  pub slots : List (Option File)
  pub ending : Ending
  pub turns : ℕ
  pub draws : ℕ

abbrev pub outcome_of : State → Ending → ℕ → ℕ → Outcome
outcome_of state ending used drawn = record {
  input = state.input;
  shown = state.shown;
  printed = state.printed;
  slots = state.slots;
  ending = ending;
  turns = used;
  draws = drawn;
}
