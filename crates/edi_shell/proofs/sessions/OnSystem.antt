-- A session on a system.
use Rattle.std.proofs.Common.{◌≡◌, ℕ, true, false, List, Option, Some, None, refl, sym, subst, ◌∙◌, inl, inr}
use Rattle.std.specs.Prelude.{IsSome}
use Rattle.edi_told.specs.Faults.{CountRose}
use Rattle.edi_told.specs.Told.{WhereTold}
use Rattle.edi_calls.specs.declared.ends.Outside.{Outside}
use Rattle.edi_calls.specs.declared.ends.Outside.TheVariants as outside
use Rattle.edi_calls.specs.Choice.{Choices}
use Rattle.edi_calls.specs.State.{State}
use Rattle.edi_session.specs.declared.end.SessionEnd.{SessionEnd}
use Rattle.edi_session.specs.declared.end.SessionEnd.TheVariants as end
use Rattle.edi_session.specs.Shell.{Shell}
use Rattle.edi_execute.proofs.Executing.{run_keeps}
use Rattle.edi_system.specs.Ends.{Blames, Keeps}
use Rattle.edi_system.specs.State.{failed_in, faults_of}
use Rattle.edi_system.specs.declared.system.System.{System}
use Rattle.edi_shell_io.specs.calls.OnSystem.{SystemLasts}
use Rattle.edi_shell_io.specs.calls.Standing.{failed_by}
use Rattle.edi_shell.specs.commands.Taking.{Stays}
use Rattle.edi_shell.specs.sessions.Ends.{SessionEnds, SessionHasEnded, SessionHasFailed, ends_by_fault}
use Rattle.edi_shell.proofs.sessions.Failing.{otherwise}

-- what is said of two states where both are told, and the second only where the first is
pub told_both : (o o' : Option State) (P : State → State → Type 0) → (IsSome o' → IsSome o)
    → ((before now : State) → o ≡ Some before → o' ≡ Some now → P before now) → WhereTold o o' P
told_both o None P were so = tt
told_both None (Some now) P were so = absurd (let wrong : false ≡ true = were refl in cc)
told_both (Some before) (Some now) P were so = so before now refl refl

-- after the first three ends nothing has failed
pub failed_so : {C : Type 0} (ready : C → Type 0) (failed : C → Option Outside) (e : SessionEnd) (c : C) → ((c : C) → ready c → failed c ≡ None)
    → Stays ready failed e c → failed c ≡ failed_by e
failed_so ready failed end.Halted c none h = none c h
failed_so ready failed end.InputEnd c none h = none c h
failed_so ready failed end.Limit c none h = none c h
failed_so ready failed end.DriveFault c none h = h
failed_so ready failed end.InputFault c none h = h
failed_so ready failed end.TerminalFault c none h = h
failed_so ready failed end.PrinterFault c none h = h

-- how a session ends, told otherwise
module _ (bound : ℕ) (choices : Choices) {C E : Type 0} (at : C → State → ℕ → Type 0) (stands : C → Outside → State → Type 0) (at' : E → State → ℕ → Type 0)
    (stands' : E → Outside → State → Type 0) (c : C) (e : E) (at_so : (state : State) (n : ℕ) → at c state n → at' e state n)
    (stands_so : (failed : Outside) (state : State) → stands c failed state → stands' e failed state) where
  ended_otherwise : (start : Shell) (how : SessionEnd) (drawn : ℕ) → SessionHasEnded bound choices at stands start how drawn c
      → SessionHasEnded bound choices at' stands' start how drawn e
  ended_otherwise start how drawn h =
      record { after = h.after; session = h.session; drawn_is = h.drawn_is; at_ = at_so h.after.system.now h.after.shown_before h.at_ }

  failed_otherwise : (start : Shell) → SessionHasFailed bound choices at stands start c → SessionHasFailed bound choices at' stands' start e
  failed_otherwise start h = record { failed = h.failed; moment = h.moment; comes = h.comes; is = stands_so h.failed h.moment h.is }

  pub ends_otherwise : (start : Shell) (how : SessionEnd) (drawn : ℕ) → SessionEnds bound choices at stands start how drawn c
      → SessionEnds bound choices at' stands' start how drawn e
  ends_otherwise start how drawn h =
      otherwise (ends_by_fault how) (SessionHasEnded bound choices at stands start how drawn c) (SessionHasFailed bound choices at stands start c)
      (SessionHasEnded bound choices at' stands' start how drawn e) (SessionHasFailed bound choices at' stands' start e) (ended_otherwise start how drawn)
      (failed_otherwise start) h

-- ---- what the calls of a session keep

module _ {D S T P : Type 0} (contents : D → Option (List (List ℕ))) (count : D → ℕ) (left : S → Option (List ℕ)) (shown : T → Option (List ℕ))
    (printed : P → Option (List ℕ)) (drive : D → ℕ) (input : S → ℕ) (terminal : T → ℕ) (printer : P → ℕ) (before after : System D S T P)
    (none : failed_in before ≡ None) (lasts : SystemLasts contents count left shown printed drive input terminal printer before after) where
  -- the count of the object that has failed rose
  rose : (failing : Outside) → failed_in after ≡ Some failing
      → CountRose (faults_of drive input terminal printer before failing) (faults_of drive input terminal printer after failing)
  rose failing is = elim (lasts.blame failing is) [
    | inl was ↦ absurd (let wrong : Some failing ≡ None = sym was ∙ none in cc)
    | inr more ↦ more
  ]

  blamed : (e : SessionEnd) → failed_in after ≡ failed_by e
      → Blames (ends_by_fault e) (failed_by e) (faults_of drive input terminal printer before) (faults_of drive input terminal printer after)
  blamed end.Halted is = tt
  blamed end.InputEnd is = tt
  blamed end.Limit is = tt
  blamed end.DriveFault is = rose outside.Drive is
  blamed end.InputFault is = rose outside.Input is
  blamed end.TerminalFault is = rose outside.Terminal is
  blamed end.PrinterFault is = rose outside.Printer is

  pub keeps_all : (e : SessionEnd) → failed_in after ≡ failed_by e → Keeps drive input terminal printer (ends_by_fault e) before after
  keeps_all e is =
      run_keeps drive input terminal printer (ends_by_fault e) before after lasts.references lasts.later
      (subst (λ o. Blames (ends_by_fault e) o (faults_of drive input terminal printer before) (faults_of drive input terminal printer after)) (sym is)
      (blamed e is))
