-- What is said of every order of steps, by what is known of the search and of open uses.
use Rattle.std.proofs.Common.{◌≡◌, ℕ, zero, suc, ◌&&◌, Bool, true, false, not, List, [], ◌∷◌, Option, Some, None, is_some, refl, subst, arith}
use Rattle.std.proofs.lemmas.Bool.{and_parts}
use Rattle.std.specs.Prelude.{IfSome}
use Rattle.edi_calls.specs.Outcome as outcome
use Rattle.edi_calls.specs.Outcome.{Ending}
use Rattle.edi_unit.specs.Tree.{ProgramUnit}
use Rattle.edi_disjoint.specs.steps.Inner.{InnerStepsKeep}
use Rattle.edi_texts.specs.Texts.{IsUnit}
use Rattle.edi_explored.specs.Within.{MakeFewer}
use Rattle.edi_orders.specs.Orders.{AreAllBySteps, AreCalm, IsCalm}
use Rattle.edi_explore.specs.declared.ends.Verdict.{Verdict}
use Rattle.edi_explore.specs.declared.ends.Verdict.TheVariants as verdict
use Rattle.edi_explore.specs.Offline.{offline}
use Rattle.edi_runs.specs.declared.explore.openness.Openness.{Openness}
use Rattle.edi_runs.specs.explore.Openness.{IsOpenness, open_of}
use Rattle.edi_runs.specs.explore.Orders.{SaysLongest, SaysOrders, TellsOrders, are_calm, is_all, is_calm, speaks}
use Rattle.edi_runs.specs.explore.Told.{orders_by}

-- ---- tests

all_is : (v : Verdict) → is_all v ≡ true → v ≡ verdict.All
all_is verdict.All e = refl
all_is (verdict.Full moves) e = absurd (cc)
all_is (verdict.Many moves) e = absurd (cc)
all_is (verdict.Cut moves) e = absurd (cc)
all_is (verdict.Unrecorded moves) e = absurd (cc)
all_is (verdict.NoMemory moves) e = absurd (cc)

none_is : (shown : Option ℕ) → not (is_some shown) ≡ true → shown ≡ None
none_is None e = refl
none_is (Some n) e = absurd (cc)

calm_is : (ending : Ending) → is_calm ending ≡ true → IsCalm ending
calm_is outcome.done e = tt
calm_is (outcome.halted line) e = absurd (cc)
calm_is (outcome.failed c line) e = absurd (cc)
calm_is outcome.turns e = absurd (cc)
calm_is outcome.standstill e = tt
calm_is (outcome.bad address) e = absurd (cc)

calm_are : (es : List Ending) → are_calm es ≡ true → AreCalm es
calm_are [] e ending c = absurd (omega (arith, c.1))
calm_are (x ∷ es) e ending (zero, l, is) = subst IsCalm is (calm_is x (and_parts (is_calm x) (are_calm es) e).0)
calm_are (x ∷ es) e ending (suc i, l, is) = calm_are es (and_parts (is_calm x) (are_calm es) e).1 ending (i, omega (arith, l), is)

-- ---- what is said

module _ (text input : List ℕ) (unit : ProgramUnit) (is : IsUnit text unit) (es : List Ending) (openly : Openness) (known : IsOpenness text unit openly) where
  says : (AreCalm es → InnerStepsKeep unit (offline input) → AreAllBySteps unit (offline input) es) → AreCalm es → (none : Bool) → openly.none ≡ none →
      SaysOrders (orders_by true none (open_of openly.names)) text input es
  says by_steps calm true e = record { unit = unit; unit_is = is; all = by_steps calm (known.keep e (offline input)) }
  says by_steps calm false e = known.names e

  pub tells : (v : Verdict) (shown : Option ℕ) →
      (shown ≡ None → v ≡ verdict.All → AreCalm es → InnerStepsKeep unit (offline input) → AreAllBySteps unit (offline input) es) →
      TellsOrders (speaks v shown es) (orders_by (speaks v shown es) openly.none (open_of openly.names)) text input es
  tells v shown by_steps = go (speaks v shown es) refl
    where
      go : (b : Bool) → speaks v shown es ≡ b → TellsOrders b (orders_by b openly.none (open_of openly.names)) text input es
      go false e = refl
      go true e =
          let first = and_parts (is_all v) (not (is_some shown) && are_calm es) e in
          let then_ = and_parts (not (is_some shown)) (are_calm es) first.1 in
          says (by_steps (none_is shown then_.0) (all_is v first.0)) (calm_are es then_.1) openly.none refl

-- ---- how far executions go

pub says_longest : (text input : List ℕ) (unit : ProgramUnit) → IsUnit text unit → (longest : Option ℕ) →
    IfSome longest (λ n. MakeFewer (suc n) unit (offline input)) → SaysLongest longest text input
says_longest text input unit is None fewer = tt
says_longest text input unit is (Some n) fewer = record { unit = unit; unit_is = is; fewer = fewer }
