-- Words of contracts. A LAW of dumps: told objects decide the dump of a run, unless the run has used up its turns.
use Rattle.std.specs.Prelude.{◌≡◌, ℕ, List}
use Rattle.edi_calls.specs.Choice.{Choices}
use Rattle.edi_calls.specs.Outcome as outcome
use Rattle.edi_calls.specs.State.{State}
use Rattle.edi_timed.specs.on.Timelines.{Timable}
use Rattle.edi_dumped.specs.Dumps.{IsDumpOf}

-- Two dumps of a text, or of a code, on a system, with a bound and choices, are the same; where a run ends by its turns nothing is said.
abbrev pub DumpsAreOne : Type 0
DumpsAreOne =
    (program : Timable) (system : State) (bound : ℕ) (choices : Choices) (told other : List ℕ) → (one : IsDumpOf program system bound choices told) →
    IsDumpOf program system bound choices other → (one.3.run.ending ≡ outcome.turns → ⊥) → told ≡ other
