-- Words of contracts. A session on the four objects that the shell sees, and what it leaves of them.
use Rattle.std.specs.Prelude.{◌≡◌, ℕ, ◌+◌, ◌*◌, ◌<◌, ◌^◌, false, List, drop, length, Option, Some}
use Rattle.edi_told.specs.Told.{WhereTold}
use Rattle.edi_calls.specs.declared.ends.Outside.{Outside}
use Rattle.edi_calls.specs.State.{State}
use Rattle.edi_execute.specs.Objects.{Contents, Objects, Show, contents_of, system_on}
use Rattle.edi_session.specs.declared.end.SessionEnd.{SessionEnd}
use Rattle.edi_session.specs.Shell.{session_on}
use Rattle.edi_shell.specs.sessions.Ends.{SessionEnds}
use Rattle.edi_shell_io.specs.calls.Standing.{failed_by}
use Rattle.edi_system.specs.Parts.{due_after, ToldStays}
use Rattle.edi_trace.specs.Drawn.{Drawn}
use Rattle.edi_main.specs.declared.boot.holding.SessionExit.{SessionExit}

-- the objects have what this state has
abbrev pub HaveState : (c : Contents) → State → Type 0
HaveState c state = Show state c

-- the same where so many bytes had been shown before the session
abbrev pub HaveStateSince : (c : Contents) → State → (shown_before : ℕ) → Type 0
HaveStateSince c state shown_before = Show state c

-- the same where this object has failed, by which the session ended so
abbrev pub HaveStateBy : SessionEnd → (c : Contents) → Outside → State → Type 0
HaveStateBy how c failed state = (failed_by how ≡ Some failed) × HaveState c state

-- the session on these objects is over, and in the end they have what it leaves, or what a state has through which it comes and at which the
-- object may fail that has failed
abbrev pub EndsOn : (bound : ℕ) → Drawn → SessionEnd → (drawn : ℕ) → (before after : Contents) → Type 0
EndsOn bound old how drawn before after =
    SessionEnds bound old.source HaveStateSince (HaveStateBy how) (session_on (system_on before) old.drawn (length before.shown)) how drawn after

-- What a session leaves: where the four objects tell what they hold, what it has in the end or at a moment; what is told in the end was
-- told at the start, the input only loses its first bytes, what the terminal and the printer have taken only grows, and the drive is a
-- valid image; and whether a line is due is told by the bytes that the terminal has taken in between.
pub record SessionLeft {D S T P : Type 0} (contents : D → Option (List (List ℕ))) (left : S → Option (List ℕ)) (shown : T → Option (List ℕ))
    (printed : P → Option (List ℕ)) (bound : ℕ) (old : Drawn) (exit : SessionExit) (drawn : ℕ) (before after : Objects D S T P) : Type 0 where
  pub ends : old.drawn + 4194304 * bound < 2 ^ 64 →
      WhereTold (contents_of contents left shown printed before) (contents_of contents left shown printed after) (EndsOn bound old exit.end drawn)
  pub told : ToldStays (contents before.drive) (contents after.drive) (left before.input) (left after.input) (shown before.terminal) (shown after.terminal)
      (printed before.printer) (printed after.printer)
  pub due : WhereTold (shown before.terminal) (shown after.terminal) (λ taken now. exit.due ≡ due_after false (drop (length taken) now))
