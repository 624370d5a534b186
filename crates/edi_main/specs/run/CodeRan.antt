-- Words of contracts. What is left where a code is run on a drive that is mounted for it and the record of its choices is kept, by
-- the status to which that comes.
use Rattle.std.specs.Prelude.{◌≡◌, ℕ, Bool, List, Option, Some, None}
use Rattle.edi_calls.specs.declared.kinds.Cause.TheVariants as cause
use Rattle.edi_calls.specs.Choice.{Choices}
use Rattle.edi_kernel.specs.declared.ends.Ending.{Ending}
use Rattle.edi_kernel.specs.declared.ends.Ending.TheVariants as ending
use Rattle.edi_target.specs.Check.{CodeParts}
use Rattle.edi_statuses.specs.declared.status.Status.{Status}
use Rattle.edi_statuses.specs.declared.status.Status.TheVariants as status
use Rattle.edi_statuses.specs.EachObject.{LeavesEach}
use Rattle.edi_statuses.specs.Outside.{Outside, seen, Shows, Lent}
use Rattle.edi_statuses.specs.Lines.{is_due}
use Rattle.edi_statuses.specs.Executions.{Runnable, HasCode, BrokeRun}
use Rattle.edi_statuses.specs.Commands.{Runs}
use Rattle.edi_statuses.specs.Broken.{RanWhole}
use Rattle.edi_main.specs.run.OnMounted.{OnMounted}

-- ---- statuses

-- of a run that has come to its ending; after a fault it has come to none
abbrev pub ending_status : Ending → Option Status
ending_status ending.Done = Some status.Ok
ending_status (ending.Halted line) = Some (status.Stopped cause.Halt line)
ending_status (ending.Failed why line) = Some (status.Stopped why line)
ending_status ending.Turns = Some status.Turns
ending_status ending.Standstill = Some status.Standstill
ending_status (ending.Bad address) = Some (status.BadState address)
ending_status ending.Fault = None

-- ---- what is left

-- The program was broken off in one call of its execution, or came to its ending.
abbrev pub CodeRan : Runnable → (bound : ℕ) → Choices → (record_file : Option (List ℕ)) → Status → Outside → Outside → (shown : List ℕ)
    → Lent → Type 0
CodeRan program bound choices name s before after shown kernel =
    OnMounted name (BrokeRun s kernel.failed program bound choices before after shown) (RanWhole program bound choices before after shown kernel)
    (λ end. Runs program bound choices name end before after shown kernel) s before after shown kernel

-- So it is of every program that this code was made of; a line feed is due before the line of the status, or not. What
-- is left of each object is told whatever the others tell.
pub record RanCode (parts : CodeParts) (bound : ℕ) (choices : Choices) (name : Option (List ℕ)) (s : Status) (due : Bool)
    (before after : Outside) (kernel : Lent) : Type 0 where
  pub shown : List ℕ
  pub ran : (program : Runnable) → HasCode program parts → CodeRan program bound choices name s (seen before after) after shown kernel
  pub shows : Shows before after shown
  pub due_is : due ≡ is_due shown
  pub each : LeavesEach None before after
