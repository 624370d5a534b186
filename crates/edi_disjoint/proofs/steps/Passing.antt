-- A step that keeps to itself and a step of another process pass by each other.
use Rattle.std.proofs.Common.{◌≡◌, ℕ, ◌+◌, ◌⊎◌, inl, inr, Bool, true, false, if◌then◌else◌, List, Option, Some, None, refl, sym, ap, subst, ◌∙◌}
use Rattle.edi_calls.specs.Names.{Name, same, find}
use Rattle.edi_calls.specs.Ready.{Next, parent_of}
use Rattle.edi_calls.specs.State.{State}
use Rattle.edi_calls.proofs.Names.{some_is, no_some}
use Rattle.edi_calls.proofs.Tables.{same-or-other, same-symmetric, find-with_at-other}
use Rattle.edi_unit.specs.Tree.{ProgramUnit}
use Rattle.edi_meaning.specs.Store.{Instance, Owns, instances, shape}
use Rattle.edi_meaning.specs.Evaluation.{World, Evaluation, gives, ends}
use Rattle.edi_meaning.specs.Step.{Asks, Process, Processes, Stepped, went, ended, local_step, kernel, step_of, step, start}
use Rattle.edi_meaning.specs.Permitted.{is_running, is_running_process, at, permitted}
use Rattle.edi_meaning.specs.Laws.{IsMade, IsPrivate, StepIsPrivate, IsWaiting}
use Rattle.edi_meaning.proofs.Kernel.{After}
use Rattle.edi_meaning.proofs.Own.{owns_all}
use Rattle.edi_meaning.proofs.Private.{cells_are_private, other_than}
use Rattle.edi_meaning.proofs.Parents.{Family, waiting_does_not_run}
use Rattle.edi_meaning.proofs.Dangling.{Coherent, owner_waits, permitted_coherent}
use Rattle.edi_disjoint.proofs.Effects.{Results, results}
use Rattle.edi_disjoint.proofs.Commuting.{live_off}
use Rattle.edi_disjoint.specs.steps.Own.{IsBut, FindsSame, KeepsToItself, GoesAlike, OwnStepsPass}
use Rattle.edi_disjoint.proofs.steps.Differing.{Differ, local_alike}
use Rattle.edi_disjoint.proofs.steps.Kernels.{other_at, kernel_alike}
use Rattle.edi_disjoint.proofs.steps.Referring.{references_stay}

-- who may step is live, and ready or at its `when`
running : (o : Option Process) → is_running_process o ≡ true → (y : Process) × (o ≡ Some y) × (is_running y.standing ≡ true)
running None e = absurd (cc)
running (Some y) e = (y, refl, e)

module _ (unit : ProgramUnit) (system : State) (bound : ℕ) (order : List Name) (s : Processes) (p q : Name) (comes : permitted unit order (start unit system bound) ≡ at s)
    (k : KeepsToItself unit s p) (different : p ≡ q → ⊥) (y : Process) (there : find s.live q ≡ Some y) (runs : is_running y.standing ≡ true) where
  coherent : Coherent s
  coherent = permitted_coherent unit system bound order s comes

  family : Family s.live
  family = coherent.family.family

  apart : same q p ≡ false
  apart = other_than p q (λ e. different (sym e))

  p_runs : is_running k.process.standing ≡ true
  p_runs = k.runs

  -- neither is an ancestor of the other
  not_above : Owns q p → ⊥
  not_above o =
      let w : IsWaiting s.live p = owner_waits s.live family q p y there apart o in
      waiting_does_not_run k.process.standing w.number p_runs (ap (λ z. z.standing) (some_is (sym k.found ∙ w.found)) ∙ w.standing)

  not_below : Owns p q → ⊥
  not_below o =
      let w : IsWaiting s.live q = owner_waits s.live family p q k.process k.found (same-symmetric q p apart) o in
      waiting_does_not_run y.standing w.number runs (ap (λ z. z.standing) (some_is (sym there ∙ w.found)) ∙ w.standing)

  own_parent : (r : Name) → Owns r (parent_of r)
  own_parent r = record { generation = 1; is = refl }

  above : same (parent_of q) p ≡ false
  above = other_than p (parent_of q) (λ e. not_above (subst (Owns q) e (own_parent q)))

  not_child : parent_of p ≡ q → ⊥
  not_child e = not_below (subst (Owns p) e (own_parent p))

  fixes : (r : Name) → Owns q r → (is : List Instance) → (if same r p then k.own else is) ≡ is
  fixes r o is = ap (λ b. if b then k.own else is) (other_than p r (λ e. not_above (subst (Owns q) e o)))

  -- ---- behind a step of q

  still : (a : Processes) (n : Next) (quiet : Bool) → step unit s q ≡ went a n quiet → find a.live p ≡ find s.live p
  still a n quiet e = go (local_step unit q y.size y.standing y.work s.world) (sym (ap (step_of unit s q) there) ∙ e)
    where
      same_went : (b : Processes) (m : Next) (other : Bool) → went b m other ≡ went a n quiet → b ≡ a
      same_went b m other f = cc

      after : (c : Asks) (w : World) (z : Stepped) → After (Results unit s q y c w) z → z ≡ went a n quiet → Results unit s q y c w a
      after c w (went b m other) h f = subst (Results unit s q y c w) (same_went b m other f) h
      after c w (ended ending rest turns) h f = absurd (cc)

      go : (r : Evaluation Asks) → kernel unit s q y r ≡ went a n quiet → find a.live p ≡ find s.live p
      go (ends ending rest turns) f = absurd (cc)
      go (gives c w) f =
          (after c w (kernel unit s q y (gives c w)) (results unit s q y c w) f).live p
          ∙ live_off unit q y (shape w.store q) c p (same-symmetric q p apart) (other_than q (parent_of p) not_child) (same-symmetric (parent_of q) p above) (find s.live p)

  -- who has instances of its own before is not made by it
  lives : (r : Name) → Owns p r → (z : Process) × (find s.live r ≡ Some z)
  lives r o = go (same-or-other p r)
    where
      go : (p ≡ r) ⊎ (same p r ≡ false) → (z : Process) × (find s.live r ≡ Some z)
      go (inl e) = (k.process, ap (find s.live) (sym e) ∙ k.found)
      go (inr m) = let w : IsWaiting s.live r = owner_waits s.live family p r k.process k.found m o in (w.process, w.found)

  finds_same : (a : Processes) (n : Next) (quiet : Bool) → step unit s q ≡ went a n quiet → FindsSame p s a
  finds_same a n quiet e = record {
    process = still a n quiet e;
    own = own (private.cells p not_above);
    frames = λ r o. frames r o (private.frames r (λ f. not_below (subst (Owns p) f o)));
    references = λ r depth variable o.
        references_stay unit system bound order s a q y n quiet comes there runs e r depth variable (other_than q r (λ f. not_below (subst (Owns p) f o)))
        (other_than q (parent_of r) (λ f. not_below (subst (Owns p) f (owns_all p r (parent_of r) o (own_parent r)))));
  }
    where
      private : IsPrivate s a q
      private = subst (λ x. StepIsPrivate s q x) e (cells_are_private unit system bound order s q comes)

      own : (instances a.world.store p ≡ instances s.world.store p) ⊎ IsMade s a q p → instances a.world.store p ≡ instances s.world.store p
      own (inl f) = f
      own (inr m) = absurd (no_some (find s.live p) m.free k.found)

      frames : (r : Name) → Owns p r → (shape a.world.store r ≡ shape s.world.store r) ⊎ IsMade s a q r → shape a.world.store r ≡ shape s.world.store r
      frames r o (inl f) = f
      frames r o (inr m) = absurd (no_some (find s.live r) m.free (lives r o).1)

  -- ---- the same step of q, where p has done its own

  alike : (t : Processes) (more : ℕ) → IsBut p k.after k.own s t → t.world.turns ≡ s.world.turns + more → GoesAlike p k.after k.own more (step unit s q) (step unit t q)
  alike t more but turns =
      let found : find t.live q ≡ Some y = ap (λ l. find l q) but.live ∙ find-with_at-other s.live p q k.after apart ∙ there in
      let d : Differ unit q y.size more (other_at unit p q y.size more k.after k.process k.own) fixes s.world t.world =
      record { owned = coherent.family.proper.owned; store = but.store; system = but.system; turns = turns } in
      subst (λ z. GoesAlike p k.after k.own more (step_of unit s q z) (step unit t q)) (sym there)
      (subst (λ z. GoesAlike p k.after k.own more (kernel unit s q y (local_step unit q y.size y.standing y.work s.world)) (step_of unit t q z)) (sym found)
      (kernel_alike unit p q y.size more k.after k.process k.own fixes apart above not_child s t y but.live k.found
      (local_step unit q y.size y.standing y.work s.world) (local_step unit q y.size y.standing y.work t.world)
      (local_alike unit q y.size more (other_at unit p q y.size more k.after k.process k.own) fixes y.standing y.work s.world t.world d).is))

pub own_steps_pass : OwnStepsPass
own_steps_pass unit system bound order s p q comes k different may =
    let r : (y : Process) × (find s.live q ≡ Some y) × (is_running y.standing ≡ true) = running (find s.live q) may in
    record {
      stays = λ a n quiet e. finds_same unit system bound order s p q comes k different r.0 r.1 r.2 a n quiet e;
      alike = λ t more but turns. alike unit system bound order s p q comes k different r.0 r.1 r.2 t more but turns;
    }
