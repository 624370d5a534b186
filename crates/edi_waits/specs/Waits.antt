-- Definition. WHO WAITS WHERE: the processes that stand at a `when` in a machine, each with its place; and those of a run that stands still.
use Rattle.std.specs.Prelude.{◌≡◌, ℕ, List, Contains, slice_get, Some}
use Rattle.edi_calls.specs.Names.{Name, find}
use Rattle.edi_calls.specs.Outcome as outcome
use Rattle.edi_calls.specs.State.{State}
use Rattle.edi_target.specs.Check.{CodeParts}
use Rattle.edi_target.specs.Mach.{Activity, Machine, at_when}
use Rattle.edi_trace.specs.Drawn.{Drawn}
use Rattle.edi_kernel.specs.declared.ends.Ending.{Ending}
use Rattle.edi_kernel.specs.declared.ends.Ending.TheVariants as ending
use Rattle.edi_kernel.specs.declared.state.KernelState.{KernelState}
use Rattle.edi_kernel.specs.Runs.{EndsAfter, RunsTo}
use Rattle.edi_waits.specs.Places.{place}

-- a process, and the line of its `when` with those of the calls that lead there, the innermost first; at most five
pub record Waiting : Type 0 where
  pub process : Name
  pub lines : List ℕ

module _ (words : List ℕ) (m : Machine) where
  -- the process of this name stands at its `when`, at this place
  pub record IsWaiting (w : Waiting) : Type 0 where
    pub activity : Activity
    pub found : find m.activities w.process ≡ Some activity
    pub stands : activity.standing ≡ at_when
    pub lines_are : w.lines ≡ place words m.memory activity.first activity.base activity.pc

  -- THESE WAIT: each of them does, each that does is one of them, and none stands there twice
  pub record AreWaiting (ws : List Waiting) : Type 0 where
    pub each : (w : Waiting) → Contains ws w → IsWaiting w
    pub all : (p : Name) (a : Activity) → find m.activities p ≡ Some a → a.standing ≡ at_when → (w : Waiting) × Contains ws w × (w.process ≡ p)
    pub once : (i j : ℕ) (v w : Waiting) → slice_get ws i ≡ Some v → slice_get ws j ≡ Some w → v.process ≡ w.process → i ≡ j

-- THE STANDSTILL of a run of this code, where so many choices had been drawn before it: the run comes to a standstill in a machine in which these
-- wait.
pub record StandsSo (code : CodeParts) (system : State) (bound : ℕ) (old : Drawn) (ws : List Waiting) : Type 0 where
  pub machine : Machine
  pub drawn : ℕ
  pub ends : EndsAfter code system bound old.source old.drawn outcome.standstill machine drawn
  pub waiting : AreWaiting code.words machine ws

-- THE OTHER ENDS: the run of this code has ended in this kernel, in this state, and not by a standstill.
pub record EndsOtherwise (code : CodeParts) (system : State) (bound : ℕ) (old : Drawn) (k : KernelState) (now : State) (new : Drawn) : Type 0 where
  pub how : Ending
  pub ran : RunsTo code system bound old how k.store k.used now new
  pub other : how ≡ ending.Standstill → ⊥
