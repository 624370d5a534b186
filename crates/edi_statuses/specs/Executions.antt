-- Definition. What a command leaves that has run a program.
use Rattle.std.specs.Prelude.{◌≡◌, ◌⊎◌, ◌<◌, ℕ, min, List, [], ◌∷◌, length, Option, Some, None, ⊤, true}
use Rattle.edi_told.specs.Told.{WhereTold}
use Rattle.edi_calls.specs.declared.ends.Outside as failing
use Rattle.edi_calls.specs.declared.ends.Outside.TheVariants as object
use Rattle.edi_calls.specs.declared.kinds.Cause.TheVariants as cause
use Rattle.edi_calls.specs.Asked.{may_have_done, Asks}
use Rattle.edi_calls.specs.Choice.{Choices, first_choices}
use Rattle.edi_calls.specs.Outcome as outcome
use Rattle.edi_calls.specs.Outcome.{Ending, Outcome}
use Rattle.edi_calls.specs.State.{State, fresh}
use Rattle.edi_meaning.specs.Bad.{IsNoBad}
use Rattle.edi_target.specs.Check.{CodeParts}
use Rattle.edi_target.specs.Fetch.{fetch}
use Rattle.edi_target.specs.Mach.{Ends, Machine}
use Rattle.edi_texts.specs.Run.{IsCallOf, IsCallOfCode, IsCodeFor, IsRunOf, IsRunOfCode}
use Rattle.edi_trace.specs.Drawn.{most_kept}
use Rattle.edi_trace.specs.Lines.{written}
use Rattle.edi_statuses.specs.declared.status.Status.{Status}
use Rattle.edi_statuses.specs.declared.status.Status.TheVariants as status
pub use Rattle.edi_statuses.specs.Counts.{object_status}
use Rattle.edi_statuses.specs.Outside.{Outside, Kept, Devices, devices_of, system_on, DevicesAreAt, OutcomeLeaves, KernelLeft, Lent}

-- ---- programs

-- what is run: a text, or a code of a code file
pub data Runnable : Type 0 where
  text : List ℕ → Runnable
  code : CodeParts → Runnable

abbrev pub HasOutcome : Runnable → State → (bound : ℕ) → Choices → Outcome → Type 0
HasOutcome (text bytes) system bound choices o = IsRunOf bytes system bound choices o
HasOutcome (code parts) system bound choices o = IsRunOfCode parts system bound choices o

-- in its execution the second state of the system is the one that the next call leaves after the first
abbrev pub HasCall : Runnable → State → (bound : ℕ) → Choices → (before next : State) → Type 0
HasCall (text bytes) system bound choices before next = IsCallOf bytes system bound choices before next
HasCall (code parts) system bound choices before next = IsCallOfCode parts system bound choices before next

-- the code that the lent kernel has run
abbrev pub HasCode : Runnable → CodeParts → Type 0
HasCode (text bytes) parts = IsCodeFor bytes parts
HasCode (code own) parts = parts ≡ own

-- ---- how they end

abbrev pub status_of : Ending → Status
status_of outcome.done = status.Ok
status_of (outcome.halted line) = status.Stopped cause.Halt line
status_of (outcome.failed why line) = status.Stopped why line
status_of outcome.turns = status.Turns
status_of outcome.standstill = status.Standstill
status_of (outcome.bad address) = status.BadState address

-- No program of a text comes to an instruction without a meaning; code may.
abbrev pub NeverBad : Runnable → Ending → Type 0
NeverBad (text bytes) ending = IsNoBad ending
NeverBad (code parts) ending = ⊤

-- ---- the lent kernel

-- behind the end of a program, a `halt` and a failure the words of the store are those of the machine
abbrev pub StoreIs : Ending → (memory words : List ℕ) → Type 0
StoreIs outcome.done memory words = words ≡ memory
StoreIs (outcome.halted line) memory words = words ≡ memory
StoreIs (outcome.failed why line) memory words = words ≡ memory
StoreIs other memory words = ⊤

-- The kernel stands as the machine left it that ran such a code of the program: it used the turns of the outcome.
pub record KernelRan (program : Runnable) (system : State) (bound : ℕ) (choices : Choices) (o : Outcome) (kernel : KernelLeft) : Type 0 where
  pub parts : CodeParts
  pub parts_are : HasCode program parts
  pub machine : Machine
  pub ends : Ends (fetch parts.words) parts.entry parts.calls (fresh system) bound choices o.ending machine o.draws
  pub turns : kernel.used ≡ o.turns
  pub store : StoreIs o.ending machine.memory kernel.words

-- ---- what they leave

-- The program was run on the devices `d` and has left `e`. It has shown these bytes, ended so, and drawn so many choices.
pub record HasRun (program : Runnable) (bound : ℕ) (choices : Choices) (ending : Ending) (drawn : ℕ) (d e : Devices) (shown : List ℕ)
    (kernel : KernelLeft) : Type 0 where
  pub outcome_ : Outcome
  pub outcome_is : HasOutcome program (system_on d) bound choices outcome_
  pub ending_is : outcome_.ending ≡ ending
  pub never_bad : NeverBad program ending
  pub draws : outcome_.draws ≡ drawn
  pub leaves : OutcomeLeaves outcome_ d e shown
  pub kernel_is : KernelRan program (system_on d) bound choices outcome_ kernel

-- so, where the devices tell their contents
abbrev pub Ran : Runnable → (bound : ℕ) → Choices → Ending → (drawn : ℕ) → Outside → Outside → (shown : List ℕ) → Lent → Type 0
Ran program bound choices ending drawn before after shown kernel =
    WhereTold (devices_of before) (devices_of after) (λ d e. HasRun program bound choices ending drawn d e shown kernel.after)

-- ---- where an object outside has failed in the midst of them

-- The execution was broken off in a call that uses the object which is blamed, and whose fault this status is. The devices are as they were before that
-- call, or as it was to leave them: a change of the files in which the drive failed may have been made. Where the input has failed, they are as before
-- it: no byte is taken, and one is left.
pub record FailedAt (s : Status) (blamed : Option failing.Outside) (Calls : State → State → Type 0) (d e : Devices) (shown : List ℕ) : Type 0 where
  pub failed : failing.Outside
  pub blamed_is : blamed ≡ Some failed
  pub status_is : object_status failed ≡ s
  pub before : State
  pub next : State
  pub calls : Calls before next
  pub asks : Asks failed before next
  pub left : failed ≡ object.Input → 0 < length before.input
  pub at : DevicesAreAt before d e shown ⊎ ((may_have_done failed ≡ true) × DevicesAreAt next d e shown)

abbrev pub BrokeRun : Status → (blamed : Option failing.Outside) → Runnable → (bound : ℕ) → Choices → Outside → Outside → (shown : List ℕ) → Type 0
BrokeRun s blamed program bound choices before after shown =
    WhereTold (devices_of before) (devices_of after) (λ d e. FailedAt s blamed (HasCall program (system_on d) bound choices) d e shown)

-- The devices are at one moment of a walk, at which just these bytes were shown and printed. A change of the files in which the drive
-- failed leaves them at the moment before it or at the one after it.
pub record StandsAt (Comes : State → Type 0) (d e : Devices) (shown : List ℕ) : Type 0 where
  pub moment : State
  pub comes : Comes moment
  pub at : DevicesAreAt moment d e shown

-- ---- the record

-- the first choices drawn, 65,536 at most, under the name of the record
abbrev pub record_of : Option (List ℕ) → Choices → (drawn : ℕ) → List Kept
record_of None choices drawn = []
record_of (Some name) choices drawn = (name, written (first_choices choices (min drawn most_kept))) ∷ []
