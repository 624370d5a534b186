-- Words of contracts. Steps inside stints: those of a process that is ready and goes on, so that it neither arrives at a `when`, nor forks, nor ends.
use Rattle.std.specs.Prelude.{◌≡◌, ◌⊎◌, ℕ, Bool, true, List, Some}
use Rattle.edi_calls.specs.Names.{Name, find}
use Rattle.edi_calls.specs.Ready.{stays}
use Rattle.edi_calls.specs.State.{State}
use Rattle.edi_unit.specs.Fits.{Fits}
use Rattle.edi_unit.specs.Tree.{ProgramUnit}
use Rattle.edi_meaning.specs.Step.{Process, Processes, went, ready, step, start}
use Rattle.edi_meaning.specs.Permitted.{may_step, at, permitted}
use Rattle.edi_disjoint.specs.Open.{NoOpenUses}
use Rattle.edi_disjoint.specs.steps.Own.{KeepsToItself}

-- p is ready: it does not stand at a `when`, and does not wait
pub record IsReady (s : Processes) (p : Name) : Type 0 where
  pub process : Process
  pub found : find s.live p ≡ Some process
  pub standing : process.standing ≡ ready

-- nobody else may step
abbrev pub IsAlone : Processes → Name → Type 0
IsAlone s p = (q : Name) → may_step s q ≡ true → q ≡ p

-- INNER STEPS KEEP TO THEMSELVES, in every state that permitted steps reach, but where nobody else may step
abbrev pub InnerStepsKeep : ProgramUnit → State → Type 0
InnerStepsKeep unit system =
    (bound : ℕ) (order : List Name) (s t : Processes) (p : Name) (quiet : Bool) → permitted unit order (start unit system bound) ≡ at s →
    IsReady s p → step unit s p ≡ went t stays quiet → KeepsToItself unit s p ⊎ IsAlone s p

-- SO IT IS OF EACH PROGRAM WITHOUT OPEN USES
abbrev pub WithoutOpenUses : Type 0
WithoutOpenUses = (unit : ProgramUnit) → Fits unit → NoOpenUses unit → (system : State) → InnerStepsKeep unit system
