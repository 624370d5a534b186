-- The object that has failed in a run is blamed.
use Rattle.std.proofs.Common.{◌≡◌, ℕ, Option, Some, subst}
use Rattle.edi_calls.specs.declared.ends.Outside as failing
use Rattle.edi_calls.specs.declared.ends.Outside.TheVariants as object
use Rattle.edi_execute.specs.Objects.{FailedIs, Objects, faults_in}
use Rattle.edi_statuses.specs.declared.status.Status.{Status}
use Rattle.edi_statuses.specs.Counts.{IsBlamed}

module _ {D S T P : Type 0} (drive : D → ℕ) (input : S → ℕ) (terminal : T → ℕ) (printer : P → ℕ) (before after : Objects D S T P) (s : Status) where
  one : (failed : failing.Outside) → FailedIs (Some failed) (faults_in drive input terminal printer before) (faults_in drive input terminal printer after)
      → IsBlamed (Some failed) s (terminal before.terminal) (terminal after.terminal) (printer before.printer) (printer after.printer)
  one object.Drive rose = tt
  one object.Input rose = tt
  one object.Terminal rose = λ is. rose
  one object.Printer rose = λ is. rose

  -- its count rose
  pub blamed_by : (failed : failing.Outside) (which : Option failing.Outside) → which ≡ Some failed
      → FailedIs which (faults_in drive input terminal printer before) (faults_in drive input terminal printer after)
      → IsBlamed (Some failed) s (terminal before.terminal) (terminal after.terminal) (printer before.printer) (printer after.printer)
  blamed_by failed which is rose =
      one failed (subst (λ w. FailedIs w (faults_in drive input terminal printer before) (faults_in drive input terminal printer after)) is rose)
