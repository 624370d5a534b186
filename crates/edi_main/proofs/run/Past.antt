-- A command whose run or session has begun does not stop where the drive is asked.
use Rattle.std.proofs.Common.{◌≡◌, ◌∙◌, true, false, true≢false, List, ℕ, Option, Some, Err, unwrap_or, ap, refl, sym, subst, inl, inr}
use Rattle.edi_calls.specs.declared.ends.Outside as failing
use Rattle.edi_calls.specs.declared.ends.Outside.TheVariants as object
use Rattle.edi_calls.specs.Outcome as outcome
use Rattle.edi_calls.specs.Outcome.{Ending}
use Rattle.edi_host.specs.Contents.{Contents}
use Rattle.edi_session.specs.declared.end.SessionEnd.{SessionEnd}
use Rattle.edi_session.specs.declared.end.SessionEnd.TheVariants as session
use Rattle.edi_trace.specs.Drawn.{Drawn}
use Rattle.edi_walk.specs.declared.walking.WalkEnd.{WalkEnd}
use Rattle.edi_walk.specs.declared.walking.WalkEnd.TheVariants as end
use Rattle.edi_statuses.specs.declared.status.Status.{Status}
use Rattle.edi_statuses.specs.declared.status.Status.TheVariants as status
use Rattle.edi_statuses.specs.EachObject.{is_at_drive}
use Rattle.edi_statuses.specs.Executions.{object_status, status_of}
use Rattle.edi_statuses.specs.Sessions.{session_status}
use Rattle.edi_main.specs.steps.OnFiles.{RecordEnd, RecordStep}
use Rattle.edi_main.specs.run.OnWalked.{end_status}
use Rattle.edi_main.specs.run.OnWatched.{LogEnd, LogUnkept}

-- the status is another one
abbrev pub IsPast : Status → Type 0
IsPast s = is_at_drive s ≡ false

-- then it is not that one
pub never_at : {A : Type 0} (s : Status) → IsPast s → is_at_drive s ≡ true → A
never_at s past at = absurd (true≢false (sym at ∙ past))

-- another status that is the same
pub past_so : (s t : Status) → t ≡ s → IsPast s → IsPast t
past_so s t same = subst IsPast (sym same)

pub failed_past : (o : failing.Outside) → IsPast (object_status o)
failed_past object.Drive = refl
failed_past object.Input = refl
failed_past object.Terminal = refl
failed_past object.Printer = refl

pub ended_past : (e : Ending) → IsPast (status_of e)
ended_past outcome.done = refl
ended_past (outcome.halted line) = refl
ended_past (outcome.failed why line) = refl
ended_past outcome.turns = refl
ended_past outcome.standstill = refl
ended_past (outcome.bad address) = refl

pub session_past : (e : SessionEnd) → IsPast (session_status e)
session_past session.Halted = refl
session_past session.InputEnd = refl
session_past session.Limit = refl
session_past session.DriveFault = refl
session_past session.InputFault = refl
session_past session.TerminalFault = refl
session_past session.PrinterFault = refl

pub walked_past : (e : WalkEnd) (s : Status) → Some s ≡ end_status e → IsPast s
walked_past end.NoMemory s is = past_so _ s (ap (λ x. unwrap_or x s) is) refl
walked_past end.Fault s is = absurd (cc)
walked_past end.Done s is = past_so _ s (ap (λ x. unwrap_or x s) is) refl
walked_past (end.Halted line) s is = past_so _ s (ap (λ x. unwrap_or x s) is) refl
walked_past (end.Failed why line) s is = past_so _ s (ap (λ x. unwrap_or x s) is) refl
walked_past end.Turns s is = past_so _ s (ap (λ x. unwrap_or x s) is) refl

-- ---- the record and the log were kept, or not

unkept_past : (name : Option (List ℕ)) (drawn : Drawn) (s : Status) (old new : Option Contents) → RecordStep {A = Unit {0}} name drawn (Err s) old new
    → IsPast s
unkept_past name drawn status.NoMemory old new h = refl
unkept_past name drawn status.FileFault old new h = refl
unkept_past name drawn s old new h = absurd h

pub record_past : (name : Option (List ℕ)) (drawn : Drawn) (s t : Status) (old new : Option Contents) → IsPast s → RecordEnd name drawn s t old new
    → IsPast t
record_past name drawn s t old new h (inl kept) = past_so s t kept.0 h
record_past name drawn s t old new h (inr why) = unkept_past name drawn t old new why

lost_past : (out log : List ℕ) (name : Option (List ℕ)) (s : Status) (old new : Option Contents) → LogUnkept out log name s old new → IsPast s
lost_past out log name status.NoMemory old new h = refl
lost_past out log name status.FileFault old new h = refl
lost_past out log name s old new h = absurd h

pub log_past : (out log : List ℕ) (name : Option (List ℕ)) (drawn : Drawn) (s t : Status) (old new : Option Contents) → IsPast s
    → LogEnd out log name drawn s t old new → IsPast t
log_past out log name drawn s t old new h (inl kept) = past_so s t kept.0 h
log_past out log name drawn s t old new h (inr why) = lost_past out log name t old new why
