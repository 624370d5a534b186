-- Words of contracts. A run of code with its timeline.
use Rattle.std.specs.Prelude.{◌≡◌, ℕ}
use Rattle.edi_calls.specs.Outcome as outcome
use Rattle.edi_calls.specs.State.{State}
use Rattle.edi_target.specs.Check.{CodeParts}
use Rattle.edi_target.specs.Mach.{Machine}
use Rattle.edi_trace.specs.Drawn.{Drawn}
use Rattle.edi_kernel.specs.declared.ends.Ending.{Ending}
use Rattle.edi_kernel.specs.declared.ends.Ending.TheVariants as ending
use Rattle.edi_kernel.specs.declared.state.KernelState.{KernelState}
use Rattle.edi_kernel.specs.Runs.{EndsAfter, RunsTo}
use Rattle.edi_timeline.specs.Timelines.{Told, told_of}
use Rattle.edi_timed.specs.Ran.{stints_of_code}

module _ (code : CodeParts) (s : State) (bound : ℕ) (first : Drawn) where
  -- after so many instructions the run has ended, and these are its stints
  pub record HasStints (told : Told) : Type 0 where
    pub end : outcome.Ending
    pub machine : Machine
    pub drawn : ℕ
    pub ends : EndsAfter code s bound first.source first.drawn end machine drawn
    pub stints : told ≡ told_of (stints_of_code code s bound first.source first.drawn ends.0)

  -- IT HAS ENDED SO: as the machine does, and the timeline tells the stints of the whole run. After a fault of an object nothing is said of it.
  pub record Timed (e : Ending) (k : KernelState) (x : State) (now : Drawn) (told : Told) : Type 0 where
    pub ran : RunsTo code s bound first e k.store k.used x now
    pub all : (e ≡ ending.Fault → ⊥) → HasStints told
