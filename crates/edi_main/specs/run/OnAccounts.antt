-- Words of contracts. What is left where a code is run on a drive that is mounted for it, and the record of its choices and an account of the run are kept,
-- or the record alone.
use Rattle.std.specs.Prelude.{◌≡◌, ℕ, Bool, List, ◌++◌, Option, Some, None}
use Rattle.edi_host.specs.declared.files.KeepEnd.{KeepEnd}
use Rattle.edi_host.specs.declared.files.KeepEnd.TheVariants as keep
use Rattle.edi_calls.specs.Choice.{Choices}
use Rattle.edi_dumped.specs.Given.{program_given}
use Rattle.edi_target.specs.Check.{CodeParts}
use Rattle.edi_timed.specs.on.Timelines.{IsOf}
use Rattle.edi_words.specs.Words.{Account}
use Rattle.edi_statuses.specs.declared.status.Status.{Status}
use Rattle.edi_statuses.specs.declared.status.Status.TheVariants as status
use Rattle.edi_statuses.specs.EachObject.{LeavesEach}
use Rattle.edi_statuses.specs.Outside.{Outside, Lent, Shows, seen}
use Rattle.edi_statuses.specs.Lines.{is_due}
use Rattle.edi_statuses.specs.Executions.{Runnable, BrokeRun}
use Rattle.edi_statuses.specs.Broken.{names_in}
use Rattle.edi_statuses.specs.Accounts.{AccountInPart, AccountLost, RunsWith, account_names, timable}
use Rattle.edi_main.specs.run.CodeRan.{CodeRan}
use Rattle.edi_main.specs.run.OnKept.{OnKept}

-- ---- the files

-- the status of a command that came to this one, and whose files were kept then, or were not
abbrev pub kept_status : KeepEnd → (came : Status) → Status
kept_status keep.Ok came = came
kept_status keep.Failed came = status.FileFault
kept_status keep.NoMemory came = status.NoMemory

-- ---- all of it

-- The drive was not mounted; or the run was broken off; or it came to its end, and its files were kept, or they were not.
abbrev pub ProgramWith : Runnable → (bound : ℕ) → Choices → Account → (record_file : Option (List ℕ)) → Status → Outside → Outside
    → (shown : List ℕ) → Lent → Type 0
ProgramWith program bound choices account name s before after shown kernel =
    OnKept (account_names account ++ names_in name) (BrokeRun s kernel.failed program bound choices before after shown)
    (AccountInPart program bound choices account name before after shown kernel) (AccountLost program bound choices account name before after shown kernel)
    (λ end. RunsWith program bound choices account name end before after shown kernel) s before after shown kernel

-- it is run, and an account of it is kept if one is asked for
abbrev pub ProgramRan : (account : Option Account) → Runnable → (bound : ℕ) → Choices → (record_file : Option (List ℕ)) → Status → Outside → Outside
    → (shown : List ℕ) → Lent → Type 0
ProgramRan None program bound choices name = CodeRan program bound choices name
ProgramRan (Some account) program bound choices name = ProgramWith program bound choices account name

-- a program that this code is of
abbrev pub IsCodeOf : CodeParts → Runnable → Type 0
IsCodeOf parts program = IsOf (timable program) parts

-- and that of the text where one is given, else that of the code
abbrev pub IsGiven : (given : Option (List ℕ)) → CodeParts → Runnable → Type 0
IsGiven given parts program = IsCodeOf parts program × (timable program ≡ program_given given parts)

-- And so of every such program; a line feed is due before the line of the status, or not.
pub record RanWith (account : Option Account) (IsIt : Runnable → Type 0) (bound : ℕ) (choices : Choices) (name : Option (List ℕ)) (s : Status) (due : Bool)
    (before after : Outside) (kernel : Lent) : Type 0 where
  pub shown : List ℕ
  pub ran : (program : Runnable) → IsIt program → ProgramRan account program bound choices name s (seen before after) after shown kernel
  pub shows : Shows before after shown
  pub due_is : due ≡ is_due shown
  pub each : LeavesEach None before after

abbrev pub RanAccount : (IsIt : Runnable → Type 0) → (bound : ℕ) → Choices → Account → (record_file : Option (List ℕ)) → Status → (due : Bool) → Outside → Outside
    → Lent → Type 0
RanAccount IsIt bound choices account = RanWith (Some account) IsIt bound choices
