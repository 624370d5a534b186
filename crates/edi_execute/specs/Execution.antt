-- Words of contracts. A run of code on a system.
use Rattle.std.specs.Prelude.{ℕ, Bool, true, false}
use Rattle.edi_calls.specs.declared.ends.Outside.{Outside}
use Rattle.edi_calls.specs.Laws.{IsSameOutside}
use Rattle.edi_calls.specs.State.{State}
use Rattle.edi_kernel.specs.declared.ends.Ending.{Ending}
use Rattle.edi_kernel.specs.declared.ends.Ending.TheVariants as ending
use Rattle.edi_kernel.specs.Passed.{past_at, IsFailedCall}
use Rattle.edi_system.specs.AsCalls.{LeavesByte}
use Rattle.edi_target.specs.Check.{CodeParts}
use Rattle.edi_target.specs.Fetch.{fetch}
use Rattle.edi_target.specs.Moments.{ComesThrough}
use Rattle.edi_trace.specs.Drawn.{Drawn}

-- an object outside has failed in the run
abbrev pub is_fault_ending : Ending → Bool
is_fault_ending ending.Fault = true
is_fault_ending other = false

-- The system is, but for the found file and the buffer, at a state through which the run of the code comes.
pub record IsAtMoment (code : CodeParts) (system : State) (bound : ℕ) (old : Drawn) (now : State) : Type 0 where
  pub moment : State
  pub comes : ComesThrough (fetch code.words) code.entry code.calls system bound old.source old.drawn moment
  pub same : IsSameOutside moment now

-- this object has failed a call of the run that uses it: the system is, but for the found file and the buffer, at the state before that call or at
-- the one that the call was to leave
abbrev pub IsAtFailedCall : (code : CodeParts) (system : State) (bound : ℕ) (old : Drawn) (outside : Outside) (now : State) → Type 0
IsAtFailedCall code system bound old outside now = (n : ℕ) × IsFailedCall outside system (past_at code system bound old.source old.drawn n) now

-- and an input that has failed has a byte left
abbrev pub IsAtCall : (code : CodeParts) (system : State) (bound : ℕ) (old : Drawn) (outside : Outside) (now : State) → Type 0
IsAtCall code system bound old outside now = IsAtFailedCall code system bound old outside now × LeavesByte outside now.input
