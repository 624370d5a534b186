-- Definition. What `boot` leaves: there is a session of the shell on the devices.
use Rattle.std.specs.Prelude.{◌≡◌, ◌≤◌, ℕ, ◌*◌, List, length, Option, Some}
use Rattle.edi_told.specs.Told.{WhereTold}
use Rattle.edi_calls.specs.declared.ends.Outside as failing
use Rattle.edi_calls.specs.Choice.{Choices}
use Rattle.edi_calls.specs.State.{State}
use Rattle.edi_session.specs.declared.end.SessionEnd.{SessionEnd}
use Rattle.edi_session.specs.declared.end.SessionEnd.TheVariants as end
use Rattle.edi_session.specs.Session.{IsFaultOfSession, Session}
use Rattle.edi_session.specs.Shell.{Shell, session_on, state_in}
use Rattle.edi_words.specs.Words.{ChoicesFrom}
use Rattle.edi_statuses.specs.declared.status.Status.{Status}
use Rattle.edi_statuses.specs.declared.status.Status.TheVariants as status
use Rattle.edi_statuses.specs.Counts.{object_status}
use Rattle.edi_statuses.specs.Outside.{Outside, Devices, DevicesAreAt, Keeps, SameFiles, devices_of, system_on}
use Rattle.edi_statuses.specs.Steps.{AfterStep, ◌>>=◌, Ready, ReadsChoices, Mounts}
use Rattle.edi_statuses.specs.Executions.{record_of}

-- `boot`: reads the choices, mounts
abbrev pub BootSteps : Outside → ChoicesFrom → AfterStep Choices → Type 0
BootSteps o from = ReadsChoices o from >>= λ choices. Mounts o >>= λ done. Ready choices

-- The status of how a session ended. One that the definition has ends in one of the first three ways.
abbrev pub session_status : SessionEnd → Status
session_status end.Halted = status.Ok
session_status end.InputEnd = status.Ok
session_status end.Limit = status.SessionLimit
session_status end.DriveFault = status.DriveFault
session_status end.InputFault = status.InputFault
session_status end.TerminalFault = status.OutputFault
session_status end.PrinterFault = status.OutputFault

-- the shell of a session that begins on these devices, no choices being drawn
abbrev pub shell_on : Devices → Shell
shell_on d = session_on (system_on d) 0 (length d.shown)

-- The session on the devices `d` is over and has left `e`. It ended so, has shown these bytes, and so many choices were drawn.
pub record HasEnded (bound : ℕ) (choices : Choices) (end : SessionEnd) (drawn : ℕ) (d e : Devices) (shown : List ℕ) : Type 0 where
  pub after : Shell
  pub session : Session bound choices (shell_on d) end after
  pub draws : after.drawn ≡ drawn
  pub leaves : DevicesAreAt (state_in after) d e shown

-- so, where the devices tell their contents
abbrev pub SessionEnded : (bound : ℕ) → Choices → SessionEnd → (drawn : ℕ) → Outside → Outside → (shown : List ℕ) → Type 0
SessionEnded bound choices end drawn before after shown =
    WhereTold (devices_of before) (devices_of after) (λ d e. HasEnded bound choices end drawn d e shown)

-- The session was broken off by the fault of the object that is blamed, which this status is. The devices are at a moment of the session at which
-- that object may fail: the terminal only where the session shows a byte, the printer only where it prints one.
pub record FailedSession (s : Status) (blamed : Option failing.Outside) (bound : ℕ) (choices : Choices) (d e : Devices) (shown : List ℕ) : Type 0 where
  pub failed : failing.Outside
  pub blamed_is : blamed ≡ Some failed
  pub status_is : object_status failed ≡ s
  pub moment : State
  pub comes : IsFaultOfSession bound choices (shell_on d) failed moment
  pub at : DevicesAreAt moment d e shown

abbrev pub BrokeSession : Status → (blamed : Option failing.Outside) → (bound : ℕ) → Choices → Outside → Outside → (shown : List ℕ) → Type 0
BrokeSession s blamed bound choices before after shown =
    WhereTold (devices_of before) (devices_of after) (λ d e. FailedSession s blamed bound choices d e shown)

-- A session comes to its end, which the status tells, and the record of its choices is kept. Of the lent kernel nothing is said.
pub record HoldsSession (bound : ℕ) (choices : Choices) (record_file : Option (List ℕ)) (s : Status) (before after : Outside) (shown : List ℕ) : Type 0
  where
    pub how : SessionEnd
    pub drawn : ℕ
    pub within : drawn ≤ 4194304 * bound
    pub status_is : s ≡ session_status how
    pub ended : SessionEnded bound choices how drawn before after shown
    pub keeps : Keeps before after (record_of record_file choices drawn)

-- The session came to its end; of the files nothing is said.
pub record EndedWhole (bound : ℕ) (choices : Choices) (before after : Outside) (shown : List ℕ) : Type 0 where
  pub how : SessionEnd
  pub drawn : ℕ
  pub within : drawn ≤ 4194304 * bound
  pub ended : SessionEnded bound choices how drawn before after shown

-- and no file was kept
abbrev pub EndedUnkept : (bound : ℕ) → Choices → Outside → Outside → (shown : List ℕ) → Type 0
EndedUnkept bound choices before after shown = EndedWhole bound choices before after shown × SameFiles before after
