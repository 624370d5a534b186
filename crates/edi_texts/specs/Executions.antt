-- Words of contracts. What is true of the executions of every accepted text.
use Rattle.std.specs.Prelude.{◌≡◌, ℕ, List}
use Rattle.edi_calls.specs.Choice.{Choices}
use Rattle.edi_calls.specs.Outcome.{Outcome}
use Rattle.edi_calls.specs.State.{State}
use Rattle.edi_meaning.specs.Bad.{IsNoBad}
use Rattle.edi_unit.specs.Tree.{ProgramUnit}
use Rattle.edi_texts.specs.Run.{IsRunOf}
use Rattle.edi_texts.specs.Texts.{IsUnit}

-- its execution has an outcome, on every system, with every bound on the turns and all choices
abbrev pub AcceptedTextsRun : Type 0
AcceptedTextsRun =
    (text : List ℕ) (unit : ProgramUnit) → IsUnit text unit → (system : State) (bound : ℕ) (choices : Choices) →
    (outcome : Outcome) × IsRunOf text system bound choices outcome

-- and no two
abbrev pub TextsHaveOneOutcome : Type 0
TextsHaveOneOutcome =
    (text : List ℕ) (system : State) (bound : ℕ) (choices : Choices) (one other : Outcome) →
    IsRunOf text system bound choices one → IsRunOf text system bound choices other → one ≡ other

-- and it never ends as an instruction without a meaning does
abbrev pub RunsAreNeverBad : Type 0
RunsAreNeverBad =
    (text : List ℕ) (system : State) (bound : ℕ) (choices : Choices) (outcome : Outcome) →
    IsRunOf text system bound choices outcome → IsNoBad outcome.ending
