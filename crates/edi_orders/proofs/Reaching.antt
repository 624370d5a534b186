-- States that permitted steps reach: with more turns, after a step, and what one process finds after a step of another.
use Rattle.std.proofs.Common.{◌≡◌, ℕ, zero, suc, ◌+◌, ◌⊎◌, inl, inr, Bool, true, false, List, [], ◌∷◌, ◌++◌, Option, Some, None, refl, sym, ap, subst, ◌∙◌}
use Rattle.std.specs.Prelude.{⊤}
use Rattle.edi_calls.specs.Names.{Name, same, find}
use Rattle.edi_calls.specs.Outcome as outcome
use Rattle.edi_calls.specs.Outcome.{Ending}
use Rattle.edi_calls.specs.Ready.{Next, stays, joins}
use Rattle.edi_calls.specs.State.{State}
use Rattle.edi_calls.proofs.Names.{some_is, no_some}
use Rattle.edi_calls.proofs.Tables.{same-or-other, same-symmetric}
use Rattle.edi_unit.specs.Tree.{ProgramUnit}
use Rattle.edi_meaning.specs.Store.{Owns, instances, shape}
use Rattle.edi_meaning.specs.Evaluation.{World}
use Rattle.edi_meaning.specs.Step.{Asks, Process, Processes, Stepped, went, ended, step, start}
use Rattle.edi_meaning.specs.Permitted.{is_running, is_running_process, may_step, at, permitted}
use Rattle.edi_meaning.specs.Laws.{IsMade, IsPrivate, StepIsPrivate, IsWaiting}
use Rattle.edi_meaning.proofs.Own.{owns_self, owns_first}
use Rattle.edi_meaning.proofs.Parents.{waiting_does_not_run}
use Rattle.edi_meaning.proofs.Private.{cells_are_private, other_than}
use Rattle.edi_meaning.proofs.Dangling.{Coherent, owner_waits, permitted_coherent}
use Rattle.edi_disjoint.specs.steps.Own.{FindsSame}
use Rattle.edi_disjoint.specs.steps.Inner.{IsAlone}
use Rattle.edi_disjoint.specs.steps.Turns.{with_more, StepsSo, LeadsSo}
use Rattle.edi_disjoint.proofs.Commuting.{live_off}
use Rattle.edi_disjoint.proofs.steps.Leading.{further}
use Rattle.edi_disjoint.proofs.steps.Referring.{references_stay}
use Rattle.edi_disjoint.proofs.steps.Turns.{more_turns_do_the_same}
use Rattle.edi_explored.specs.Stint.{Stinted, goes_on, behind, over, stint, stint_after}
use Rattle.edi_orders.specs.Orders.{IsWhole}
use Rattle.edi_orders.proofs.Pending.{Apart, apart_swap, off_child, off_parent}
use Rattle.edi_orders.proofs.Taking.{Took, took}

-- ---- who runs

pub record Runs (s : Processes) (p : Name) : Type 0 where
  pub process : Process
  pub found : find s.live p ≡ Some process
  pub running : is_running process.standing ≡ true

pub runs_of : (s : Processes) (p : Name) → may_step s p ≡ true → Runs s p
runs_of s p may = go (find s.live p) refl may
  where
    go : (o : Option Process) → find s.live p ≡ o → is_running_process o ≡ true → Runs s p
    go None e h = absurd (cc)
    go (Some x) e h = record { process = x; found = e; running = h }

pub may_of : (s : Processes) (p : Name) → Runs s p → may_step s p ≡ true
may_of s p r = ap is_running_process r.found ∙ r.running

-- ---- with more turns

module _ (unit : ProgramUnit) (system : State) where
  pub record Reached (s : Processes) : Type 0 where
    pub bound : ℕ
    pub order : List Name
    pub comes : permitted unit order (start unit system bound) ≡ at s

  pub reached_more : (s : Processes) (more : ℕ) → Reached s → Reached (with_more more s)
  reached_more s more r = record {
    bound = r.bound + more;
    order = r.order;
    comes = subst (λ led. LeadsSo more led (permitted unit r.order (start unit system (r.bound + more)))) r.comes
        ((more_turns_do_the_same unit more (start unit system r.bound)).each r.order);
  }

  pub reached_step : (s t : Processes) (p : Name) (n : Next) (quiet : Bool) → Reached s → may_step s p ≡ true → step unit s p ≡ went t n quiet → Reached t
  reached_step s t p n quiet r may e = record {
    bound = r.bound;
    order = r.order ++ p ∷ [];
    comes = further unit p s t n quiet may e r.order (start unit system r.bound) r.comes;
  }

  pub coherent : (s : Processes) → Reached s → Coherent s
  coherent s r = permitted_coherent unit system r.bound r.order s r.comes

  -- ---- two who run

  pub apart_of : (s : Processes) (p q : Name) → Reached s → Runs s p → Runs s q → same p q ≡ false → Apart p q
  apart_of s p q r x y n = record { differ = n; above = not_above p q x y n; below = not_above q p y x (same-symmetric p q n) }
    where
      not_above : (p q : Name) → Runs s p → Runs s q → same p q ≡ false → Owns q p → ⊥
      not_above p q x y n o =
          let w : IsWaiting s.live p = owner_waits s.live (coherent s r).family.family q p y.process y.found (same-symmetric p q n) o in
          waiting_does_not_run x.process.standing w.number x.running (ap (λ z. z.standing) (some_is (sym x.found ∙ w.found)) ∙ w.standing)

  -- where the first process runs nobody else does
  pub first_is_alone : (s : Processes) → Reached s → Runs s [] → IsAlone s []
  first_is_alone s r x q may = go (same-or-other q [])
    where
      go : (q ≡ []) ⊎ (same q [] ≡ false) → q ≡ []
      go (inl e) = e
      go (inr n) = absurd ((apart_of s q [] r (runs_of s q may) x n).below (owns_first q))

  -- after a step of p another one finds the same
  pub others_find_same : (s t : Processes) (p q : Name) (n : Next) (quiet : Bool) → Reached s → Runs s p → Runs s q → Apart p q → step unit s p ≡ went t n quiet →
      FindsSame q s t
  others_find_same s t p q n quiet r x y a e = record {
    process = still (took unit s p x.process x.found t n quiet e);
    own = own (private.cells q a.below);
    frames = λ z o. frames z o (private.frames z (λ f. a.above (subst (Owns q) f o)));
    references = λ z depth variable o.
        references_stay unit system r.bound r.order s t p x.process n quiet r.comes x.found x.running e z depth variable
        (other_than p z (λ f. a.above (subst (Owns q) f o))) (off_child q p (apart_swap p q a) z o);
  }
    where
      private : IsPrivate s t p
      private = subst (λ z. StepIsPrivate s p z) e (cells_are_private unit system r.bound r.order s p r.comes)

      still : (c : Asks) × (w : World) × Took unit s p x.process c w t n quiet → find t.live q ≡ find s.live q
      still k =
          k.2.results.live q
          ∙ live_off unit p x.process (shape k.1.store p) k.0 q (same-symmetric p q a.differ) (off_child q p (apart_swap p q a) q (owns_self q))
          (off_parent q p (apart_swap p q a)) (find s.live q)

      own : (instances t.world.store q ≡ instances s.world.store q) ⊎ IsMade s t p q → instances t.world.store q ≡ instances s.world.store q
      own (inl f) = f
      own (inr m) = absurd (no_some (find s.live q) m.free y.found)

      lives : (z : Name) → Owns q z → (v : Process) × (find s.live z ≡ Some v)
      lives z o = go (same-or-other q z)
        where
          go : (q ≡ z) ⊎ (same q z ≡ false) → (v : Process) × (find s.live z ≡ Some v)
          go (inl f) = (y.process, ap (find s.live) (sym f) ∙ y.found)
          go (inr m) = let w : IsWaiting s.live z = owner_waits s.live (coherent s r).family.family q z y.process y.found m o in (w.process, w.found)

      frames : (z : Name) → Owns q z → (shape t.world.store z ≡ shape s.world.store z) ⊎ IsMade s t p z → shape t.world.store z ≡ shape s.world.store z
      frames z o (inl f) = f
      frames z o (inr m) = absurd (no_some (find s.live z) m.free (lives z o).1)

-- ---- stints with more turns

module _ (unit : ProgramUnit) (more : ℕ) where
  -- the same stint with more turns, but where it was cut
  abbrev pub StintsSo : Stinted → Stinted → Type 0
  StintsSo goes_on x = ⊤
  StintsSo (behind t joined quiet) x = x ≡ behind (with_more more t) joined quiet
  StintsSo (over e shown) x = (e ≡ outcome.turns → ⊥) → x ≡ over e shown

  pub stint_so : (steps : ℕ) (s : Processes) (p : Name) → StintsSo (stint unit steps s p) (stint unit steps (with_more more s) p)
  stint_so zero s p = tt
  stint_so (suc steps) s p = go (step unit s p) (step unit (with_more more s) p) ((more_turns_do_the_same unit more s).one p) (λ t. stint_so steps t p)
    where
      go : (x y : Stepped) → StepsSo more x y → ((t : Processes) → StintsSo (stint unit steps t p) (stint unit steps (with_more more t) p)) →
          StintsSo (stint_after (λ t. stint unit steps t p) x) (stint_after (λ t. stint unit steps t p) y)
      go (went t stays quiet) y h rest = subst (λ z. StintsSo (stint unit steps t p) (stint_after (λ t. stint unit steps t p) z)) (sym h) (rest t)
      go (went t (joins ps) quiet) y h rest = ap (stint_after (λ t. stint unit steps t p)) h
      go (ended e system turns) y h rest = λ some. ap (stint_after (λ t. stint unit steps t p)) (h some)

  pub whole_so : (steps : ℕ) (s : Processes) (p : Name) → IsWhole (stint unit steps s p) → IsWhole (stint unit steps (with_more more s) p)
  whole_so steps s p h = go (stint unit steps s p) h (stint_so steps s p)
    where
      go : (x : Stinted) → IsWhole x → StintsSo x (stint unit steps (with_more more s) p) → IsWhole (stint unit steps (with_more more s) p)
      go goes_on h k = absurd h
      go (behind t joined quiet) h k = subst IsWhole (sym k) tt
      go (over e shown) h k = subst IsWhole (sym (k h)) h
