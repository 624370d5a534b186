-- All orders of steps, of a search that has followed one stint of each ready process with a kernel, or has expanded each of its states.
use Rattle.std.specs.Prelude.{⊤}
use Rattle.std.proofs.Common.{ℕ, ◌<◌, List, Option, None, sym, ap}
use Rattle.edi_calls.specs.Names.{Name}
use Rattle.edi_calls.specs.Outcome.{Ending}
use Rattle.edi_calls.specs.State.{State}
use Rattle.edi_unit.specs.Tree.{ProgramUnit}
use Rattle.edi_target.specs.Check.{CodeParts}
use Rattle.edi_target.specs.Fetch.{fetch}
use Rattle.edi_target.specs.Mach.{Machine}
use Rattle.edi_kernel.specs.declared.kept.Kept.{Kept}
use Rattle.edi_follows.specs.Theorem.{CanBeCoded}
use Rattle.edi_follows.specs.places.Coded.{Coded}
use Rattle.edi_follows.proofs.Whole.{steps, starts}
use Rattle.edi_follows.proofs.kernel.Meaning.{steps_queue}
use Rattle.edi_disjoint.specs.steps.Inner.{InnerStepsKeep}
use Rattle.edi_explored.specs.Covered.{endings}
use Rattle.edi_orders.specs.machine.Expanded.{ExpandedIsEnough}
use Rattle.edi_explored.specs.machine.Kernels.{IsCodeOf, IsUnitCode, FollowedKernels}
use Rattle.edi_orders.specs.Orders.{AreCalm, AreAllBySteps}
use Rattle.edi_explored.proofs.machine.Coding.{coded}
use Rattle.edi_orders.proofs.machine.Enough.{put_backs_enough}
use Rattle.edi_explored.proofs.machine.KernelSearch.{kernels_followed}
use Rattle.edi_explored.proofs.machine.KernelStints.{PutBack, HasIt}
use Rattle.edi_explored.proofs.machine.Levels.{closed_followed}

module _ (unit : ProgramUnit) (c : CanBeCoded unit) (code : CodeParts) (is : IsUnitCode unit code) (start : State) (bound : ℕ) (es : List Ending) (V : Type 0)
    (processes : V → List Kept) (slots : V → List ℕ) (system : V → State) (Begun : ℕ → Type 0) (Has : ℕ → V → Type 0)
    (f : FollowedKernels code start bound (endings es) V processes slots system Begun Has) where
  abbrev g : Coded
  g = coded unit c

  is_code : IsCodeOf g code
  is_code = record { fetched = ap fetch (sym is.words); entry = is.entry; calls = is.calls }

  abbrev Back : Option V → Machine → List Name → Type 0
  Back = PutBack g code is_code start bound (endings es) V processes slots system Begun Has

  abbrev Holding : ℕ → Option V → Type 0
  Holding = HasIt g code is_code start bound (endings es) V processes slots system Begun Has

  pub kernels_enough : ((n : ℕ) → Begun n) → AreCalm es → InnerStepsKeep unit start → AreAllBySteps unit start es
  kernels_enough h calm inner =
      put_backs_enough g start es (Option V) None Back Holding
      (kernels_followed g code is_code start bound (endings es) V processes slots system Begun Has f (starts g)) (steps g) steps_queue (starts g) h calm inner

pub expanded_is_enough : ExpandedIsEnough
expanded_is_enough unit c code is start bound es table count f calm inner =
    kernels_enough unit c code is start bound es ℕ table.processes table.slots table.system (λ n. ⊤) (λ n v. v < count)
    (closed_followed code start bound (endings es) table count f) (λ n. tt) calm inner
