-- Words of contracts. THE LAW of stints: those of a run of the code are those of the program's execution.
use Rattle.std.specs.Prelude.{◌≡◌, ℕ, List, ◌++◌}
use Rattle.edi_calls.specs.Choice.{Choices}
use Rattle.edi_calls.specs.Names.{Name}
use Rattle.edi_calls.specs.Outcome.{Ending}
use Rattle.edi_calls.specs.State.{State, Traced}
use Rattle.edi_unit.specs.Tree.{ProgramUnit}
use Rattle.edi_meaning.specs.Select as source
use Rattle.edi_target.specs.Fetch.{fetch}
use Rattle.edi_target.specs.Mach as target
use Rattle.edi_target.specs.Mach.{Machine}
use Rattle.edi_scheme.specs.Code.{code_of}
use Rattle.edi_scheme.specs.Laws.{parts_of}
use Rattle.edi_follows.specs.Theorem.{CanBeCoded}
use Rattle.edi_timeline.specs.Stints.{Stint, stints_of}
use Rattle.edi_timed.specs.Ran.{stints_of_code}

-- Where an execution of a program ends, each run of its code that has ended has the stints of that execution, one by one: with their turns,
-- processes and places, how each began and ended, and what was shown in it.
abbrev pub StintsAreMeant : Type 0
StintsAreMeant =
    (unit : ProgramUnit) → CanBeCoded unit → (system : State) (bound : ℕ) (choices : Choices) (ending : Ending) (end : Traced) (turns drawn : ℕ)
    (order : List Name) →
    source.Ends unit system bound choices ending end turns drawn order →
    (n : ℕ) (e : Ending) (m : Machine) (d : ℕ) →
    target.run_from_start (fetch (code_of unit)) 0 unit.calls system bound choices n ≡ target.finished e m d →
    stints_of_code (parts_of unit) system bound choices 0 n ≡ stints_of unit system bound order

-- The stints that have ended in any shorter run are the first of them.
abbrev pub StintsBegin : Type 0
StintsBegin =
    (unit : ProgramUnit) → CanBeCoded unit → (system : State) (bound : ℕ) (choices : Choices) (ending : Ending) (end : Traced) (turns drawn : ℕ)
    (order : List Name) →
    source.Ends unit system bound choices ending end turns drawn order →
    (n : ℕ) → (more : List Stint) × (stints_of unit system bound order ≡ stints_of_code (parts_of unit) system bound choices 0 n ++ more)

-- And where a run of the code has ended, an execution ends so that the choices select: with the same ending, system, turns and choices drawn.
-- The run has the stints of that one.
abbrev pub RunsHaveStints : Type 0
RunsHaveStints =
    (unit : ProgramUnit) → CanBeCoded unit → (system : State) (bound : ℕ) (choices : Choices) (n : ℕ) (ending : Ending) (m : Machine) (drawn : ℕ) →
    target.run_from_start (fetch (code_of unit)) 0 unit.calls system bound choices n ≡ target.finished ending m drawn →
    (end : Traced) × (turns : ℕ) × (order : List Name) × source.Ends unit system bound choices ending end turns drawn order
    × (m.system ≡ end.now) × (m.turns ≡ turns)
    × (stints_of_code (parts_of unit) system bound choices 0 n ≡ stints_of unit system bound order)
