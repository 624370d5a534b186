-- Words of contracts. How a session ends, and where the object stands then.
use Rattle.std.specs.Prelude.{◌≡◌, ℕ, Bool, true, false, Some}
use Rattle.edi_calls.specs.declared.ends.Outside.{Outside}
use Rattle.edi_calls.specs.Choice.{Choices}
use Rattle.edi_calls.specs.State.{State, fresh}
use Rattle.edi_session.specs.declared.end.SessionEnd.{SessionEnd}
use Rattle.edi_session.specs.declared.end.SessionEnd.TheVariants as end
use Rattle.edi_session.specs.Session.{closes, ComesTo, Goes, IsFaultOfSession, Session}
use Rattle.edi_session.specs.Shell.{Shell, commanding}
use Rattle.edi_shell_io.specs.calls.Standing.{At, failed_by}

-- a command line is awaited; so many bytes have been taken and choices drawn
pub record Awaits {C : Type 0} (at : C → State → ℕ → Type 0) (s : Shell) (taken drawn : ℕ) (c : C) : Type 0 where
  pub mode_is : s.mode ≡ commanding
  pub taken_is : s.taken ≡ taken
  pub drawn_is : s.drawn ≡ drawn
  pub at_ : At at c s

-- a session has ended by the fault of an object
abbrev pub ends_by_fault : SessionEnd → Bool
ends_by_fault end.Halted = false
ends_by_fault end.InputEnd = false
ends_by_fault end.Limit = false
ends_by_fault _ = true

-- it has failed so, or else it has ended
abbrev pub ByFault : (fault : Bool) → (Ended Failed : Type 0) → Type 0
ByFault true Ended Failed = Failed
ByFault false Ended Failed = Ended

module _ (bound : ℕ) (choices : Choices) {C : Type 0} (at : C → State → ℕ → Type 0) (stands : C → Outside → State → Type 0) where
  -- the session from this shell has ended so, and so many choices are drawn
  pub record SessionHasEnded (start : Shell) (how : SessionEnd) (drawn : ℕ) (c : C) : Type 0 where
    pub after : Shell
    pub session : Session bound choices start how after
    pub drawn_is : after.drawn ≡ drawn
    pub at_ : At at c after

  -- it is to end so: the fresh-line rule is still to be applied
  pub record SessionIsToEnd (start : Shell) (how : SessionEnd) (drawn : ℕ) (c : C) : Type 0 where
    pub lines_ : ℕ
    pub before : Shell
    pub comes : ComesTo bound choices lines_ start before
    pub last : Shell
    pub goes_ : Goes bound choices before (closes how last)
    pub drawn_is : last.drawn ≡ drawn
    pub at_ : At at c last

  -- an object outside has failed, and the object stands at a state through which the session comes and at which that one may fail
  pub record SessionHasFailed (start : Shell) (c : C) : Type 0 where
    pub failed : Outside
    pub moment : State
    pub comes : IsFaultOfSession bound choices start failed moment
    pub is : stands c failed moment

  -- HOW A SESSION ENDS
  abbrev pub SessionEnds : (start : Shell) → SessionEnd → (drawn : ℕ) → C → Type 0
  SessionEnds start e drawn c = ByFault (ends_by_fault e) (SessionHasEnded start e drawn c) (SessionHasFailed start c)

  -- how it stops, before the fresh-line rule is applied
  abbrev pub SessionStops : (start : Shell) → SessionEnd → (drawn : ℕ) → C → Type 0
  SessionStops start e drawn c = ByFault (ends_by_fault e) (SessionIsToEnd start e drawn c) (SessionHasFailed start c)

-- a state has what another has, but for the files that a program has open
abbrev pub IsFreshly : (now state : State) → Type 0
IsFreshly now state = fresh now ≡ fresh state

-- the same of one with so many bytes shown before the session
abbrev pub IsFreshlySince : (now state : State) → (shown_before : ℕ) → Type 0
IsFreshlySince now state shown_before = IsFreshly now state

-- the same where this object has failed, by which the session ended so
abbrev pub IsFreshlyBy : SessionEnd → (now : State) → Outside → (state : State) → Type 0
IsFreshlyBy how now failed state = (failed_by how ≡ Some failed) × IsFreshly now state

-- the state has what a session leaves that ends so, or what a state has through which it comes and at which the object may fail
abbrev pub SessionLeaves : (bound : ℕ) → Choices → (start : Shell) → SessionEnd → (drawn : ℕ) → (now : State) → Type 0
SessionLeaves bound choices start how drawn now = SessionEnds bound choices IsFreshlySince (IsFreshlyBy how) start how drawn now
