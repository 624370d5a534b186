-- Helper. How far a watched run has come, and what it has logged.
use Rattle.std.specs.Prelude.{◌≡◌, ℕ, ◌-◌, List, [], ◌++◌, Option, Some, None, ⊤}
use Rattle.edi_calls.specs.declared.ends.Outside.{Outside}
use Rattle.edi_calls.specs.Choice.{Choices}
use Rattle.edi_calls.specs.Names.{Name}
use Rattle.edi_calls.specs.State.{State}
use Rattle.edi_unit.specs.Tree.{ProgramUnit}
use Rattle.edi_target.specs.Op.{Instruction}
use Rattle.edi_target.specs.Fetch.{fetch}
use Rattle.edi_target.specs.Mach.{Machine, MachineRun, after_step, run, entered}
use Rattle.edi_target.specs.Arrivals.{Arrived, arrived, arrived_from_start}
use Rattle.edi_scheme.specs.Laws.{parts_of}
use Rattle.edi_scheme.specs.Code.{code_of}
use Rattle.edi_trace.specs.Drawn.{Drawn}
use Rattle.edi_kernel.specs.declared.ends.Ending.{Ending}
use Rattle.edi_kernel.specs.declared.state.KernelState.{KernelState}
use Rattle.edi_kernel.specs.Moments.{Moment, moment, moment_after}
use Rattle.edi_kernel.specs.Runs.{FaultsBy, IsAt, RunsTo}
use Rattle.edi_debug.specs.stops.Kept.{Kept, after_lines}
use Rattle.edi_debug.specs.stops.Stops.{Watched}
use Rattle.edi_debug.specs.stops.Watching.{run_lines, LogsRun}

module _ (fetch : ℕ → Option (Instruction × ℕ)) (choices : Choices) (entry : ℕ) (calls : List ℕ) (system : State) (bound before : ℕ) where
  -- from the start: the run, the moment to which it comes, and the arrivals
  abbrev pub From : ℕ → MachineRun
  From n = after_step choices (run fetch choices n) [] [] before (entered (fetch entry) entry calls bound system)

  abbrev pub MomentOf : ℕ → Option Moment
  MomentOf n = moment_after choices (moment fetch choices n) [] [] before (entered (fetch entry) entry calls bound system)

  abbrev pub Seen : ℕ → List Arrived
  Seen n = arrived_from_start fetch entry calls system bound choices before n

  -- p is taken here, and these arrivals have been seen before: THE INVARIANT of a watched run
  pub record Underway (m : Machine) (p : Name) (others : List Name) (drawn : ℕ) (ys : List Arrived) : Type 0 where
    pub goes : (n : ℕ) → (k : ℕ) × (From k ≡ run fetch choices n m p others drawn) × (MomentOf k ≡ moment fetch choices n m p others drawn)
        × (Seen k ≡ ys ++ arrived fetch choices n m p others drawn)

-- a watched run of the code of a unit, from this state and log, and with the choices first
module _ (unit : ProgramUnit) (points : List Watched) (s : State) (bound : ℕ) (first : Drawn) (start : Kept) where
  -- the kernel is at a stint of it
  pub record Going (k : KernelState) (x : State) (now : Drawn) (log : Kept) : Type 0 where
    pub machine : Machine
    pub name : Name
    pub others : List Name
    pub seen : List Arrived
    pub at : IsAt (parts_of unit) k x (bound - k.used) machine name others
    pub underway : Underway (fetch (code_of unit)) first.source 0 unit.calls s bound first.drawn machine name others now.drawn seen
    pub logs : log ≡ after_lines (run_lines unit bound points seen) start

  -- it has ended so
  pub record Ended (e : Ending) (k : KernelState) (x : State) (now : Drawn) (log : Kept) : Type 0 where
    pub ran : RunsTo (parts_of unit) s bound first e k.store k.used x now
    pub logs : LogsRun unit s bound first e k.used x now points start log

  abbrev pub Watches : Option Ending → KernelState → State → Drawn → Kept → Type 0
  Watches None = Going
  Watches (Some e) = Ended e

  -- where it has ended by a fault, the call that failed uses the object that has failed
  abbrev pub AsksFailed : (failed : Option Outside → Type 0) → Option Ending → KernelState → State → Drawn → Type 0
  AsksFailed failed None k x now = ⊤
  AsksFailed failed (Some e) k x now = FaultsBy failed (parts_of unit) s bound first e k.used x now
