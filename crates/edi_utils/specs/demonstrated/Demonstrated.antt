-- Words of contracts. What is true of the text of every demonstration.
use Rattle.std.specs.Prelude.{◌≡◌, ℕ, ◌+◌, ◌*◌, ◌<◌, ◌≤◌, List, [], length, Ok}
use Rattle.edi_calls.specs.Choice.{Choices}
use Rattle.edi_calls.specs.Outcome as outcome
use Rattle.edi_calls.specs.Outcome.{Outcome, outcome_of}
use Rattle.edi_calls.specs.State.{State}
use Rattle.edi_lex.specs.declared.symbol.Mark.{Mark}
use Rattle.edi_lex.specs.Symbols.{symbols_of}
use Rattle.edi_unit.specs.Tree.{ProgramUnit}
use Rattle.edi_texts.specs.declared.kind.RefusalKind.{RefusalKind}
use Rattle.edi_texts.specs.declared.refusal.Pass.{Pass}
use Rattle.edi_texts.specs.Run.{IsRunOf}
use Rattle.edi_texts.specs.Texts.{IsFault, IsUnit}
use Rattle.edi_utils.specs.Demo.{demo_text}

-- The text with n procedures has these symbols, which are so many, and a unit; so it has no fault. Its program has no
-- parameters, so that it can make no call of the system.
pub record IsAccepted (n : ℕ) : Type 0 where
  pub marks : List Mark
  pub last : ℕ
  pub symbols : symbols_of (demo_text n) ≡ Ok (marks, last)
  pub many : length marks ≡ 19 * n + 13
  pub unit : ProgramUnit
  pub unit_is : IsUnit (demo_text n) unit
  pub no_calls : unit.calls ≡ []
  pub no_fault : (pass : Pass) (kind : RefusalKind) (line : ℕ) → IsFault (demo_text n) pass kind line → ⊥

-- so it is with every number of procedures that the command takes
abbrev pub DemonstrationsAreAccepted : Type 0
DemonstrationsAreAccepted = (n : ℕ) → 1 ≤ n → n ≤ 1000 → IsAccepted n

-- THE RUN: from every state of the system, with at least 6 turns for each procedure and 5 more, and whatever the choices, the
-- program comes to its end in so many turns and leaves the system as it was
abbrev pub DemonstrationsEnd : Type 0
DemonstrationsEnd =
    (n : ℕ) → 1 ≤ n → n ≤ 1000 → (system : State) (bound : ℕ) (choices : Choices) (o : Outcome) → 6 * n + 5 ≤ bound →
    IsRunOf (demo_text n) system bound choices o → o ≡ outcome_of system outcome.done (6 * n + 5) o.draws

-- with fewer turns it takes all of them and ends for want of one more
abbrev pub ShortDemonstrationsEnd : Type 0
ShortDemonstrationsEnd =
    (n : ℕ) → 1 ≤ n → n ≤ 1000 → (system : State) (bound : ℕ) (choices : Choices) (o : Outcome) → bound < 6 * n + 5 →
    IsRunOf (demo_text n) system bound choices o → o ≡ outcome_of system outcome.turns bound o.draws
