-- Words of contracts. What is left where there was a session on a drive that is mounted for it and the record of its choices is kept, by
-- the status to which that comes.
use Rattle.std.specs.Prelude.{◌≡◌, ℕ, Bool, List, Option, None}
use Rattle.edi_calls.specs.Choice.{Choices}
use Rattle.edi_statuses.specs.declared.status.Status.{Status}
use Rattle.edi_statuses.specs.EachObject.{LeavesEach}
use Rattle.edi_statuses.specs.Outside.{Outside, seen, Shows, Lent}
use Rattle.edi_statuses.specs.Lines.{is_due}
use Rattle.edi_statuses.specs.Sessions.{BrokeSession, EndedWhole, HoldsSession}
use Rattle.edi_main.specs.run.OnMounted.{OnMounted}

-- The session was broken off at one moment of it by the object that is blamed, or came to its end.
abbrev pub SessionCame : (bound : ℕ) → Choices → (record_file : Option (List ℕ)) → Status → Outside → Outside → (shown : List ℕ) → Lent → Type 0
SessionCame bound choices name s before after shown kernel =
    OnMounted name (BrokeSession s kernel.failed bound choices before after shown) (EndedWhole bound choices before after shown)
    (λ end. HoldsSession bound choices name end before after shown) s before after shown kernel

-- So it was; a line feed is due before the line of the status, or not. What is left of each object is told whatever the others tell.
pub record BootCame (bound : ℕ) (choices : Choices) (name : Option (List ℕ)) (s : Status) (due : Bool) (before after : Outside) (kernel : Lent) : Type 0
  where
    pub shown : List ℕ
    pub came : SessionCame bound choices name s (seen before after) after shown kernel
    pub shows : Shows before after shown
    pub due_is : due ≡ is_due shown
    pub each : LeavesEach None before after
