-- Words of contracts. What is left where the program of a text is walked through on a drive that is mounted for it.
use Rattle.std.specs.Prelude.{◌≡◌, ◌⊎◌, ℕ, Bool, List, Option, Some, None}
use Rattle.edi_calls.specs.declared.kinds.Cause.TheVariants as cause
use Rattle.edi_calls.specs.Choice.{Choices}
use Rattle.edi_unit.specs.Tree.{ProgramUnit}
use Rattle.edi_walk.specs.declared.walking.WalkEnd.{WalkEnd}
use Rattle.edi_walk.specs.declared.walking.WalkEnd.TheVariants as end
use Rattle.edi_texts.specs.Texts.{IsUnit}
use Rattle.edi_statuses.specs.declared.status.Status.{Status}
use Rattle.edi_statuses.specs.declared.status.Status.TheVariants as status
use Rattle.edi_statuses.specs.EachObject.{LeavesEach}
use Rattle.edi_statuses.specs.Outside.{Outside, SameFiles, Lent, Shows, seen}
use Rattle.edi_statuses.specs.Lines.{is_due}
use Rattle.edi_statuses.specs.Steps.{goes, stops, Mounts}
use Rattle.edi_statuses.specs.Commands.{IsNothing}
use Rattle.edi_statuses.specs.Broken.{HasNotBegun}
use Rattle.edi_statuses.specs.Walked.{BrokeWalk, FailedWalk, Walks}

-- the status of a walk that has come to its end; after a fault it has come to none
abbrev pub end_status : WalkEnd → Option Status
end_status end.Done = Some status.Ok
end_status (end.Halted line) = Some (status.Stopped cause.Halt line)
end_status (end.Failed why line) = Some (status.Stopped why line)
end_status end.Turns = Some status.Turns
end_status end.NoMemory = Some status.NoMemory
end_status end.Fault = None

-- The drive was not mounted; or the walk was `broken` off, as memory ran out; or an object has `failed` in it; or the status says to which end
-- it `comes`.
abbrev pub OnWalked : (broken failed : Type 0) → (comes : Status → Type 0) → Status → Outside → Outside → (shown : List ℕ) → Lent → Type 0
OnWalked broken failed comes status.NoMemory before after shown kernel = IsNothing before after shown kernel ⊎ (Mounts before (goes tt) × broken)
OnWalked broken failed comes status.FileFault before after shown kernel = ⊥
OnWalked broken failed comes status.DriveFault before after shown kernel =
    (SameFiles before after × HasNotBegun before after shown kernel) ⊎ (Mounts before (goes tt) × failed)
OnWalked broken failed comes status.InputFault before after shown kernel = Mounts before (goes tt) × failed
OnWalked broken failed comes status.OutputFault before after shown kernel = Mounts before (goes tt) × failed
OnWalked broken failed comes (status.BadImage fault) before after shown kernel =
    Mounts before (stops (status.BadImage fault)) × IsNothing before after shown kernel
OnWalked broken failed comes s before after shown kernel = Mounts before (goes tt) × comes s

-- so of a text
abbrev pub TextWalked : (bytes : List ℕ) → (bound : ℕ) → Choices → Status → Outside → Outside → (shown : List ℕ) → Lent → Type 0
TextWalked bytes bound choices s before after shown kernel =
    OnWalked (BrokeWalk bytes bound choices before after shown kernel) (FailedWalk s bytes bound choices before after shown kernel)
    (λ end. Walks bytes bound choices end before after shown kernel) s before after shown kernel

-- So it is of every text of this unit; a line feed is due before the line of the status, or not. What is left of each object is told whatever the
-- others tell.
pub record RanWalk (unit : ProgramUnit) (bound : ℕ) (choices : Choices) (s : Status) (due : Bool) (before after : Outside) (kernel : Lent) : Type 0 where
  pub shown : List ℕ
  pub ran : (bytes : List ℕ) → IsUnit bytes unit → TextWalked bytes bound choices s (seen before after) after shown kernel
  pub shows : Shows before after shown
  pub due_is : due ≡ is_due shown
  pub each : LeavesEach None before after
