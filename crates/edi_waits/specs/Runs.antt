-- Words of contracts. How far a run has come whose processes are named, and its end.
use Rattle.std.specs.Prelude.{◌≡◌, ℕ, ◌-◌, List, [], Option, Some, None, ⊤}
use Rattle.edi_calls.specs.declared.ends.Outside.{Outside}
use Rattle.edi_calls.specs.Names.{Name}
use Rattle.edi_calls.specs.Outcome as outcome
use Rattle.edi_calls.specs.State.{State}
use Rattle.edi_target.specs.Check.{CodeParts}
use Rattle.edi_target.specs.Fetch.{fetch}
use Rattle.edi_target.specs.Mach.{Machine, MachineRun, after_step, entered, run}
use Rattle.edi_trace.specs.Drawn.{Drawn}
use Rattle.edi_kernel.specs.declared.ends.Ending.{Ending}
use Rattle.edi_kernel.specs.declared.ends.Ending.TheVariants as ending
use Rattle.edi_kernel.specs.declared.state.KernelState.{KernelState}
use Rattle.edi_kernel.specs.TableIsMachine.{Naming}
use Rattle.edi_kernel.specs.Enders.{ender_from_start}
use Rattle.edi_kernel.specs.Kernel.{EndsAs, HoldsBroken, IsKernel}
use Rattle.edi_kernel.specs.Moments.{Moment, moment, moment_of}
use Rattle.edi_kernel.specs.Named.{ChoosesBy, HoldsBy}
use Rattle.edi_kernel.specs.Runs.{EndsAfter, FaultsBy, IsAt, RunsTo}
use Rattle.edi_waits.specs.declared.births.Names.{Names}
use Rattle.edi_waits.specs.Names.{AreNames}

-- a run of this code from its start, of at most so many turns, with the choices from these on
module _ (code : CodeParts) (s : State) (bound : ℕ) (first : Drawn) where
  -- what the run comes to where this process is taken in this machine, it comes to from the start
  abbrev pub ComesFrom : Machine → Name → List Name → (drawn : ℕ) → Type 0
  ComesFrom m p others drawn = (n : ℕ) (r : MachineRun) → run (fetch code.words) first.source n m p others drawn ≡ r →
      (j : ℕ) × (after_step first.source (run (fetch code.words) first.source j) [] [] first.drawn
      (entered (fetch code.words code.entry) code.entry code.calls bound s) ≡ r)

  -- each moment from there on is one from the start
  abbrev pub PassesFrom : Machine → Name → List Name → (drawn : ℕ) → Type 0
  PassesFrom m p others drawn = (n : ℕ) (x : Option Moment) → moment (fetch code.words) first.source n m p others drawn ≡ x →
      (j : ℕ) × (moment_of code s bound first.source first.drawn j ≡ x)

  -- the kernel is at a stint of it
  pub record Going (k : KernelState) (x : State) (now : Drawn) (names : Names) : Type 0 where
    pub machine : Machine
    pub name : Name
    pub others : List Name
    pub naming : Naming
    pub comes : ComesFrom machine name others now.drawn
    pub passes : PassesFrom machine name others now.drawn
    pub at : IsAt code k x (bound - k.used) machine name others
    pub holds : HoldsBy naming k machine (Some name) others
    pub named : AreNames names naming k.table k.used

  -- it stands still in the machine that the kernel is, whose processes have these names
  pub record Stands (k : KernelState) (now : Drawn) (names : Names) : Type 0 where
    pub machine : Machine
    pub ready : List Name
    pub naming : Naming
    pub ends : EndsAfter code s bound first.source first.drawn outcome.standstill machine now.drawn
    pub kernel : IsKernel k
    pub holds : HoldsBy naming k machine None ready
    pub named : AreNames names naming k.table k.used

  -- it has ended by an instruction of this process
  pub record Broke (e : Ending) (k : KernelState) (now : Drawn) (names : Names) : Type 0 where
    pub machine : Machine
    pub end : outcome.Ending
    pub name : Name
    pub others : List Name
    pub ends : EndsAfter code s bound first.source first.drawn end machine now.drawn
    pub ran : ender_from_start (fetch code.words) code.entry code.calls s bound first.source first.drawn ends.0 ≡ Some name
    pub same : EndsAs end e
    pub kernel : IsKernel k
    pub broken : HoldsBroken code.words e k machine name others
    pub named : AreNames names broken.holds.naming k.table k.used

  -- IT HAS ENDED SO in the machine that the kernel is, whose processes have these names; where an object outside failed nothing is said
  abbrev pub EndsNamed : Ending → KernelState → Drawn → Names → Type 0
  EndsNamed ending.Standstill k now names = Stands k now names
  EndsNamed ending.Fault k now names = ⊤
  EndsNamed e k now names = Broke e k now names

  -- it goes on, or has ended as the machine does
  abbrev pub Comes : Option Ending → KernelState → State → Drawn → Names → Type 0
  Comes None k x now names = Going k x now names
  Comes (Some e) k x now names = RunsTo code s bound first e k.store k.used x now × EndsNamed e k now names

  -- where it has ended by a fault, the call that failed uses the object that has failed
  abbrev pub AsksFailed : (failed : Option Outside → Type 0) → Option Ending → KernelState → State → Drawn → Type 0
  AsksFailed failed None k x now = ⊤
  AsksFailed failed (Some e) k x now = FaultsBy failed code s bound first e k.used x now

-- the next process is taken, by the same names, or nobody is ready
abbrev pub ProceedsBy : Option Ending → Naming → (old new : KernelState) → Machine → (before after : Drawn) → List Name → Type 0
ProceedsBy None n old new m before after ready = ChoosesBy n new m before after ready
ProceedsBy (Some ending.Standstill) n old new m before after ready = (ready ≡ []) × (after ≡ before) × (new ≡ old)
ProceedsBy (Some e) n old new m before after ready = ⊥
