-- Words of contracts. Laws of sessions.
use Rattle.std.specs.Prelude.{◌≡◌, ◌≤◌, ◌⊎◌, ℕ, Bool, true, false}
use Rattle.edi_calls.specs.Choice.{Choices}
use Rattle.edi_session.specs.declared.end.SessionEnd.{SessionEnd}
use Rattle.edi_session.specs.declared.line.Line.{Line}
use Rattle.edi_session.specs.declared.line.Line.TheVariants as line
use Rattle.edi_session.specs.Session.{ActsBy, ComesTo, Goes, AfterLine, Session, goes, says_no_memory}
use Rattle.edi_session.specs.Shell.{Shell, limit, state_in}

-- ---- every session comes to an end

-- from wherever it is there is a way to an end
abbrev pub EverySessionEnds : Type 0
EverySessionEnds = (bound : ℕ) (choices : Choices) (s : Shell) → (end : SessionEnd) × (after : Shell) × Session bound choices s end after

-- and none has more lines than bytes may be taken, so that no way goes on for ever
abbrev pub LinesAreFew : Type 0
LinesAreFew = (bound : ℕ) (choices : Choices) (n : ℕ) (s after : Shell) → ComesTo bound choices n s after → n ≤ limit

-- ---- what may differ between two sessions

-- a command in which memory may be wanting
abbrev pub may_want : Line → Bool
may_want (line.Compile f g) = true
may_want (line.Execute f) = true
may_want (line.Edit f) = true
may_want _ = false

-- every other command has one effect
abbrev pub OneEffect : Type 0
OneEffect =
    (bound : ℕ) (choices : Choices) (l : Line) (s : Shell) (next other : AfterLine) → may_want l ≡ false → ActsBy bound choices l s next → ActsBy bound choices l s other
    → next ≡ other

-- the line `no memory` is shown, and the files are as before
pub record WantsMemory (s : Shell) (next : AfterLine) : Type 0 where
  pub at : Shell
  pub shows : next ≡ goes (says_no_memory at)
  pub files : (state_in at).slots ≡ (state_in s).slots

-- two ways on from one shell differ in nothing else
abbrev pub SessionsDifferInThese : Type 0
SessionsDifferInThese =
    (bound : ℕ) (choices : Choices) (s : Shell) (next other : AfterLine) → Goes bound choices s next → Goes bound choices s other
    → (next ≡ other) ⊎ (WantsMemory s next ⊎ WantsMemory s other)
