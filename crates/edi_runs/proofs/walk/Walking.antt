-- A walk on a system: which object has failed, and what is told afterwards.
use Rattle.std.proofs.Common.{◌≡◌, ℕ, true, false, List, Option, Some, None, refl, sym, subst}
use Rattle.std.specs.Prelude.{IsSome, ◌↔◌}
use Rattle.edi_calls.specs.declared.ends.Outside.{Outside}
use Rattle.edi_calls.specs.State.{State}
use Rattle.edi_system.specs.AsCalls.{FailsBeforeEnd, HasFailed}
use Rattle.edi_system.specs.Ends.{Blames}
use Rattle.edi_system.specs.State.{failed_in}
use Rattle.edi_system.specs.declared.system.System.{System}
use Rattle.edi_system.proofs.Used.{fails_before_end}
use Rattle.edi_trace.specs.Drawn.{Drawn}
use Rattle.edi_unit.specs.Tree.{ProgramUnit}
use Rattle.edi_walk.specs.Ends.{WalkBlames, WalkFaultsBy}
use Rattle.edi_walk.specs.declared.walking.WalkEnd.{WalkEnd}
use Rattle.edi_walk.specs.declared.walking.WalkEnd.TheVariants as end
use Rattle.edi_runs.specs.walk.Leaves.{is_fault_end}

module _ {D S T P : Type 0} (contents : D → Option (List (List ℕ))) (count : D → ℕ) (left : S → Option (List ℕ)) (system : System D S T P)
    (old new : Outside → ℕ) where
  none_named : failed_in system ≡ None → (e : WalkEnd) → (e ≡ end.Fault → ⊥) → IsSome (failed_in system) ↔ (e ≡ end.Fault)
  none_named is e other = (λ some. absurd (let wrong : false ≡ true = subst IsSome is some in cc), λ same. absurd (other same))

  pub named : (e : WalkEnd) → WalkBlames e (HasFailed contents count left system) old new → IsSome (failed_in system) ↔ (e ≡ end.Fault)
  named end.Fault blame = (λ some. refl, λ e. subst IsSome (sym blame.1.is) refl)
  named end.Done blame = none_named blame.is end.Done (λ e. cc)
  named (end.Halted line) blame = none_named blame.is (end.Halted line) (λ e. cc)
  named (end.Failed cause line) blame = none_named blame.is (end.Failed cause line) (λ e. cc)
  named end.Turns blame = none_named blame.is end.Turns (λ e. cc)
  named end.NoMemory blame = none_named blame.is end.NoMemory (λ e. cc)

  pub blamed : (e : WalkEnd) → WalkBlames e (HasFailed contents count left system) old new → Blames (is_fault_end e) (failed_in system) old new
  blamed end.Fault blame = subst (λ o. Blames true o old new) (sym blame.1.is) blame.2
  blamed end.Done blame = subst (λ o. Blames false o old new) (sym blame.is) tt
  blamed (end.Halted line) blame = subst (λ o. Blames false o old new) (sym blame.is) tt
  blamed (end.Failed cause line) blame = subst (λ o. Blames false o old new) (sym blame.is) tt
  blamed end.Turns blame = subst (λ o. Blames false o old new) (sym blame.is) tt
  blamed end.NoMemory blame = subst (λ o. Blames false o old new) (sym blame.is) tt

  -- an input that has failed has a byte left
  pub before_end : (e : WalkEnd) → WalkBlames e (HasFailed contents count left system) old new → FailsBeforeEnd left system
  before_end end.Fault blame = fails_before_end contents count left system (Some blame.0) blame.1
  before_end end.Done blame = fails_before_end contents count left system None blame
  before_end (end.Halted line) blame = fails_before_end contents count left system None blame
  before_end (end.Failed cause line) blame = fails_before_end contents count left system None blame
  before_end end.Turns blame = fails_before_end contents count left system None blame
  before_end end.NoMemory blame = fails_before_end contents count left system None blame

-- what has failed, told in other words
pub failed_so : (F G : Option Outside → Type 0) (unit : ProgramUnit) (system : State) (bound : ℕ) (old : Drawn) (e : WalkEnd) (now : State) (new : Drawn)
    → ((o : Option Outside) → F o → G o) → WalkFaultsBy F unit system bound old e now new → WalkFaultsBy G unit system bound old e now new
failed_so F G unit system bound old end.Fault now new so h =
    record { fails = h.fails; outside = h.outside; failed_is = so (Some h.outside) h.failed_is; asks = h.asks }
failed_so F G unit system bound old end.Done now new so h = tt
failed_so F G unit system bound old (end.Halted line) now new so h = tt
failed_so F G unit system bound old (end.Failed cause line) now new so h = tt
failed_so F G unit system bound old end.Turns now new so h = tt
failed_so F G unit system bound old end.NoMemory now new so h = tt
