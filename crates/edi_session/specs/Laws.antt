-- Words of contracts. A law of sessions.
use Rattle.std.specs.Prelude.{ℕ}
use Rattle.edi_calls.specs.Choice.{Choices}
use Rattle.edi_session.specs.Session.{AfterLine, Goes}
use Rattle.edi_session.specs.Shell.{Shell}

-- the next line leads somewhere
abbrev pub EveryShellHasNext : Type 0
EveryShellHasNext = (bound : ℕ) (choices : Choices) (s : Shell) → (next : AfterLine) × Goes bound choices s next
