-- A run of code on a system, from a run of the kernel on it.
use Rattle.std.proofs.Common.{◌≡◌, ◌⊎◌, inl, inr, ℕ, ◌≤◌, ◌<◌, Bool, true, false, List, [], ◌∷◌, length, Option, Some, None, refl, sym, subst, ◌∙◌}
use Rattle.std.specs.Prelude.{IsSome, ◌↔◌}
use Rattle.edi_calls.specs.declared.ends.Outside.{Outside}
use Rattle.edi_calls.specs.declared.ends.Outside.TheVariants as outside
use Rattle.edi_calls.specs.Asked.{may_have_done}
use Rattle.edi_calls.specs.Laws.{IsSameOutside}
use Rattle.edi_calls.specs.State.{State}
use Rattle.edi_kernel.specs.declared.ends.Ending.{Ending}
use Rattle.edi_kernel.specs.declared.ends.Ending.TheVariants as ending
use Rattle.edi_kernel.specs.Kernel.{fault_of}
use Rattle.edi_kernel.specs.Runs.{FailsIn, FailsInBy, FaultsBy, RunsTo}
use Rattle.edi_kernel.specs.Stretch.{Blamed}
use Rattle.edi_kernel.proofs.Passed.{fault_is_call, fault_is_moment}
use Rattle.edi_system.specs.AsCalls.{references_in, HasFailed, LeavesByte}
use Rattle.edi_system.specs.Ends.{Blames, Keeps}
use Rattle.edi_system.specs.State.{failed_in, faults_of, IsReady}
use Rattle.edi_system.specs.declared.system.System.{System}
use Rattle.edi_target.specs.Check.{CodeParts}
use Rattle.edi_trace.specs.Drawn.{Drawn}
use Rattle.edi_execute.specs.Execution.{is_fault_ending, IsAtFailedCall, IsAtMoment}

-- after a fault the system is at a state through which the run comes
pub at_moment : (code : CodeParts) (system : State) (bound : ℕ) (old : Drawn) (e : Ending) (words : List ℕ) (used : ℕ) (now : State) (new : Drawn)
    → e ≡ ending.Fault
    → RunsTo code system bound old e words used now new → IsAtMoment code system bound old now
at_moment code system bound old e words used now new fault runs =
    let fails : FailsIn code system bound old used now new = subst (λ k. RunsTo code system bound old k words used now new) fault runs in
    let at = fault_is_moment code system bound old new used now fails in
    record { moment = at.0; comes = at.1; same = at.2 }

-- it is at the call that this object has failed
pub at_call : {D S T P : Type 0} (contents : D → Option (List (List ℕ))) (count : D → ℕ) (left : S → Option (List ℕ)) (calls : System D S T P)
    (code : CodeParts) (system : State) (bound : ℕ) (old : Drawn) (e : Ending) (used : ℕ) (now : State) (new : Drawn) (outside : Outside) → e ≡ ending.Fault
    → HasFailed contents count left calls (Some outside) → FaultsBy (λ o. HasFailed contents count left calls o) code system bound old e used now new
    → IsAtFailedCall code system bound old outside now
at_call contents count left calls code system bound old e used now new outside fault failed faults =
    let by : FailsInBy (λ o. HasFailed contents count left calls o) code system bound old used now new =
    subst (λ k. FaultsBy (λ o. HasFailed contents count left calls o) code system bound old k used now new) fault faults in
    fault_is_call code system bound old new used now by.0 outside (by.1 outside failed)

-- the byte that is left where the input has failed was left before the call
pub byte_before : (outside : Outside) (before next now : State)
    → IsSameOutside before now ⊎ ((may_have_done outside ≡ true) × IsSameOutside next now) → LeavesByte outside now.input → LeavesByte outside before.input
byte_before outside.Input before next now (inl same) left = subst (λ i. 0 < length i) same.input left
byte_before outside.Input before next now (inr same) left = absurd (let wrong : false ≡ true = same.0 in cc)
byte_before outside.Drive before next now at left = tt
byte_before outside.Terminal before next now at left = tt
byte_before outside.Printer before next now at left = tt

-- ---- the object that has failed

module _ {D S T P : Type 0} (contents : D → Option (List (List ℕ))) (count : D → ℕ) (left : S → Option (List ℕ)) (system : System D S T P)
    (old new : Outside → ℕ) where
  none_named : failed_in system ≡ None → (e : Ending) → (e ≡ ending.Fault → ⊥) → IsSome (failed_in system) ↔ (e ≡ ending.Fault)
  none_named is e other = (λ some. absurd (let wrong : false ≡ true = subst IsSome is some in cc), λ same. absurd (other same))

  pub named : (e : Ending) → Blamed (fault_of (Some e)) (HasFailed contents count left system) old new → IsSome (failed_in system) ↔ (e ≡ ending.Fault)
  named ending.Fault blame = (λ some. refl, λ e. subst IsSome (sym blame.1.is) refl)
  named ending.Done blame = none_named blame.is ending.Done (λ e. cc)
  named (ending.Halted line) blame = none_named blame.is (ending.Halted line) (λ e. cc)
  named (ending.Failed cause line) blame = none_named blame.is (ending.Failed cause line) (λ e. cc)
  named ending.Turns blame = none_named blame.is ending.Turns (λ e. cc)
  named ending.Standstill blame = none_named blame.is ending.Standstill (λ e. cc)
  named (ending.Bad address) blame = none_named blame.is (ending.Bad address) (λ e. cc)

  pub blamed : (e : Ending) → Blamed (fault_of (Some e)) (HasFailed contents count left system) old new → Blames (is_fault_ending e) (failed_in system) old new
  blamed ending.Fault blame = subst (λ o. Blames true o old new) (sym blame.1.is) blame.2
  blamed ending.Done blame = subst (λ o. Blames false o old new) (sym blame.is) tt
  blamed (ending.Halted line) blame = subst (λ o. Blames false o old new) (sym blame.is) tt
  blamed (ending.Failed cause line) blame = subst (λ o. Blames false o old new) (sym blame.is) tt
  blamed ending.Turns blame = subst (λ o. Blames false o old new) (sym blame.is) tt
  blamed ending.Standstill blame = subst (λ o. Blames false o old new) (sym blame.is) tt
  blamed (ending.Bad address) blame = subst (λ o. Blames false o old new) (sym blame.is) tt

  -- after a fault
  pub failed_is : (e : Ending) → e ≡ ending.Fault → Blamed (fault_of (Some e)) (HasFailed contents count left system) old new → (outside : Outside)
      → failed_in system ≡ Some outside → HasFailed contents count left system (Some outside)
  failed_is e fault blame outside is =
      let by : Blamed (fault_of (Some ending.Fault)) (HasFailed contents count left system) old new =
      subst (λ k. Blamed (fault_of (Some k)) (HasFailed contents count left system) old new) fault blame in
      subst (λ o. HasFailed contents count left system o) (sym by.1.is ∙ is) by.1

  pub still_ready : (e : Ending) → Blamed (fault_of (Some e)) (HasFailed contents count left system) old new → is_fault_ending e ≡ false → IsReady contents count system
  still_ready ending.Fault blame = λ fault. absurd (let wrong : true ≡ false = fault in cc)
  still_ready ending.Done blame = λ none. blame.ready refl
  still_ready (ending.Halted line) blame = λ none. blame.ready refl
  still_ready (ending.Failed cause line) blame = λ none. blame.ready refl
  still_ready ending.Turns blame = λ none. blame.ready refl
  still_ready ending.Standstill blame = λ none. blame.ready refl
  still_ready (ending.Bad address) blame = λ none. blame.ready refl

-- ---- what the calls of a run keep

-- the references one by one
six_same : (a b c d e f a' b' c' d' e' f' : ℕ) → a' ∷ b' ∷ c' ∷ d' ∷ e' ∷ f' ∷ [] ≡ a ∷ b ∷ c ∷ d ∷ e ∷ f ∷ []
    → (a' ≡ a) × (b' ≡ b) × (c' ≡ c) × (d' ≡ d) × (e' ≡ e) × (f' ≡ f)
six_same a b c d e f a' b' c' d' e' f' same = (cc, cc, cc, cc, cc, cc)

pub run_keeps : {D S T P : Type 0} (drive : D → ℕ) (input : S → ℕ) (terminal : T → ℕ) (printer : P → ℕ) (fault : Bool) (before after : System D S T P)
    → references_in after ≡ references_in before
    → ((outside : Outside) → faults_of drive input terminal printer before outside ≤ faults_of drive input terminal printer after outside)
    → Blames fault (failed_in after) (faults_of drive input terminal printer before) (faults_of drive input terminal printer after)
    → Keeps drive input terminal printer fault before after
run_keeps drive input terminal printer fault before after same later blame =
    let each = six_same _ _ _ _ _ _ _ _ _ _ _ _ same in
    record {
      same_drive = each.0;
      same_room = each.1;
      same_input = each.2;
      same_terminal = each.3;
      same_printer = each.4;
      same_buffer = each.5;
      later = later;
      blame = blame;
    }
