-- Steps that name no variable keep to themselves.
use Rattle.std.proofs.Common.{◌≡◌, ◌⊎◌, inl, inr, ℕ, zero, suc, ◌+◌, ◌-◌, ◌≤◌, true, false, if◌then◌else◌, List, [], ◌∷◌, take, length, Some, refl, sym, ap}
use Rattle.std.proofs.Common.{◌∙◌, arith}
use Rattle.edi_calls.specs.Names.{Name, same, find}
use Rattle.edi_calls.specs.Ready.{Next, stays, joins}
use Rattle.edi_calls.proofs.Tables.{same-refl, same-or-other}
use Rattle.edi_unit.specs.Tree.{skip, assign, call, halt, if_act, while_act, when_act, cobegin, ProgramUnit}
use Rattle.edi_meaning.specs.Store.{Instance, instances, shrunk}
use Rattle.edi_meaning.specs.Evaluation.{World, Evaluation, gives, turn_from}
use Rattle.edi_meaning.specs.Step.{Standing, ready, at_when, waiting, Work, doing, loop_end, procedure_end, branch_end, program_entry, program_end, Asks, goes, arrives}
use Rattle.edi_meaning.specs.Step.{Process, Processes, went, back, kernel, local_step, work_step, step_of, step}
use Rattle.edi_meaning.specs.Permitted.{is_running}
use Rattle.edi_meaning.proofs.Own.{instances-same, instances-other}
use Rattle.edi_disjoint.specs.steps.Own.{FindsSame, GoesAlone, IsSpent, KeepsToItself, IsTextless, TextlessStepsKeep}

-- ---- an evaluation that takes a turn, or none, and then gives this

module _ (unit : ProgramUnit) (s : Processes) (p : Name) (q after : Process) (found : find s.live p ≡ Some q) (own : List Instance) (next : Next)
    (of_world : World → World)
    (turns : (w : World) → (of_world w).turns ≡ w.turns) (system : (w : World) → w.system ≡ (of_world w).system)
    (store : (t : Processes) → FindsSame p s t → (n : ℕ) (r : Name) →
    instances (of_world (record t.world { turns = n })).store r ≡ (if same r p then own else instances t.world.store r)) where
  -- what the kernel makes of it
  done_alone : (t : Processes) → FindsSame p s t → (n taken : ℕ) → n + taken ≡ t.world.turns →
      step unit t p ≡ went (back t p after (of_world (record t.world { turns = n }))) next false → GoesAlone unit p after own next false taken t
  done_alone t f n taken few e = (
    back t p after (of_world (record t.world { turns = n })),
    e,
    record { live = refl; store = λ r. store t f n r; system = system (record t.world { turns = n }) },
    omega (arith, turns (record t.world { turns = n }), few),
  )

  module _ (a : Asks) (gives_after : (t : Processes) (w : World) → kernel unit t p q (gives a w) ≡ went (back t p after w) next false)
      (runs : is_running q.standing ≡ true) where
    stepped : (t : Processes) (x : Evaluation Asks) → FindsSame p s t → local_step unit p q.size q.standing q.work t.world ≡ x → step unit t p ≡ kernel unit t p q x
    stepped t x f e = ap (step_of unit t p) (f.process ∙ found) ∙ ap (kernel unit t p q) e

    -- it takes no turn
    pub at_once : ((t : Processes) → FindsSame p s t → local_step unit p q.size q.standing q.work t.world ≡ gives a (of_world t.world)) → KeepsToItself unit s p
    at_once local = record {
      process = q;
      found = found;
      runs = runs;
      after = after;
      own = own;
      next = next;
      quiet = false;
      taken = 0;
      enough = 0;
      goes = λ t f enough. alone t f;
      either = λ t f. inl (alone t f);
    }
      where
        alone : (t : Processes) → FindsSame p s t → GoesAlone unit p after own next false 0 t
        alone t f = done_alone t f t.world.turns 0 (omega arith) (stepped t (gives a (of_world t.world)) f (local t f) ∙ gives_after t (of_world t.world))

    -- it takes one
    pub in_a_turn : ((t : Processes) → FindsSame p s t →
        local_step unit p q.size q.standing q.work t.world ≡ turn_from t.world.turns t.world (λ v. gives a (of_world v))) → KeepsToItself unit s p
    in_a_turn local = record {
      process = q;
      found = found;
      runs = runs;
      after = after;
      own = own;
      next = next;
      quiet = false;
      taken = 1;
      enough = 1;
      goes = λ t f enough. some t f t.world.turns refl enough;
      either = λ t f. either t f t.world.turns refl;
    }
      where
        with_turns : (t : Processes) (n : ℕ) → t.world.turns ≡ n → FindsSame p s t →
            step unit t p ≡ kernel unit t p q (turn_from n t.world (λ v. gives a (of_world v)))
        with_turns t n e f = stepped t (turn_from n t.world (λ v. gives a (of_world v))) f (local t f ∙ ap (λ m. turn_from m t.world (λ v. gives a (of_world v))) e)

        alone : (t : Processes) → FindsSame p s t → (n : ℕ) → t.world.turns ≡ suc n → GoesAlone unit p after own next false 1 t
        alone t f n e =
            done_alone t f n 1 (omega (arith, e)) (with_turns t (suc n) e f ∙ gives_after t (of_world (record t.world { turns = n })))

        some : (t : Processes) → FindsSame p s t → (n : ℕ) → t.world.turns ≡ n → 1 ≤ t.world.turns → GoesAlone unit p after own next false 1 t
        some t f zero e enough = absurd (omega (arith, e, enough))
        some t f (suc n) e enough = alone t f n e

        either : (t : Processes) → FindsSame p s t → (n : ℕ) → t.world.turns ≡ n → GoesAlone unit p after own next false 1 t ⊎ IsSpent unit p t
        either t f zero e = inr (t.world.system, t.world.turns, with_turns t 0 e f)
        either t f (suc n) e = inl (alone t f n e)

-- ---- the steps

module _ (unit : ProgramUnit) (s : Processes) (p : Name) (q : Process) (found : find s.live p ≡ Some q) where
  -- no instance changes
  pub as_before : (t : Processes) → FindsSame p s t → (n : ℕ) (r : Name) →
      instances t.world.store r ≡ (if same r p then instances s.world.store p else instances t.world.store r)
  as_before t f n r = go (same-or-other r p)
    where
      go : (r ≡ p) ⊎ (same r p ≡ false) → instances t.world.store r ≡ (if same r p then instances s.world.store p else instances t.world.store r)
      go (inl e) = ap (instances t.world.store) e ∙ f.own ∙ sym (ap (λ b. if b then instances s.world.store p else instances t.world.store r) (ap (λ z. same z p) e ∙ same-refl p))
      go (inr m) = sym (ap (λ b. if b then instances s.world.store p else instances t.world.store r) m)

  -- without the newest instance
  abbrev fewer : List Instance → List Instance
  fewer is = take (length is - 1) is

  without_newest : (t : Processes) → FindsSame p s t → (n : ℕ) (r : Name) →
      instances (shrunk p t.world.store) r ≡ (if same r p then fewer (instances s.world.store p) else instances t.world.store r)
  without_newest t f n r = go (same-or-other r p)
    where
      go : (r ≡ p) ⊎ (same r p ≡ false) →
          instances (shrunk p t.world.store) r ≡ (if same r p then fewer (instances s.world.store p) else instances t.world.store r)
      go (inl e) =
          ap (instances (shrunk p t.world.store)) e ∙ instances-same t.world.store p (fewer (instances t.world.store p)) ∙ ap fewer f.own
          ∙ sym (ap (λ b. if b then fewer (instances s.world.store p) else instances t.world.store r) (ap (λ z. same z p) e ∙ same-refl p))
      go (inr m) =
          instances-other t.world.store p r (fewer (instances t.world.store p)) m
          ∙ sym (ap (λ b. if b then fewer (instances s.world.store p) else instances t.world.store r) m)

  keeps : (standing : Standing) → q.standing ≡ standing → standing ≡ ready → (work : List Work) → q.work ≡ work → IsTextless work → KeepsToItself unit s p
  keeps (at_when cs position) e f work g h = absurd (cc)
  keeps (waiting n) e f work g h = absurd (cc)
  keeps ready e f [] g h = absurd h
  keeps ready e f (doing skip position ∷ work) g h =
      at_once unit s p q (record q { work = work; standing = ready }) found (instances s.world.store p) stays (λ w. w) (λ w. refl) (λ w. refl) as_before
      (goes work) (λ t w. refl) (ap is_running e) (λ t f. ap (λ x. local_step unit p q.size x q.work t.world) e ∙ ap (λ x. work_step unit p q.size x t.world) g)
  keeps ready e f (doing (assign v x) position ∷ work) g h = absurd h
  keeps ready e f (doing (call c es line) position ∷ work) g h = absurd h
  keeps ready e f (doing (halt line) position ∷ work) g h = absurd h
  keeps ready e f (doing (if_act cs) position ∷ work) g h = absurd h
  keeps ready e f (doing (while_act cs) position ∷ work) g h = absurd h
  keeps ready e f (doing (when_act cs line) position ∷ work) g h =
      in_a_turn unit s p q (record q { work = work; standing = at_when cs position }) found (instances s.world.store p) (joins (p ∷ [])) (λ w. w) (λ w. refl)
      (λ w. refl) as_before (arrives cs position work) (λ t w. refl) (ap is_running e) (λ t f. ap (λ x. local_step unit p q.size x q.work t.world) e ∙ ap (λ x. work_step unit p q.size x t.world) g)
  keeps ready e f (doing (cobegin bs line) position ∷ work) g h = absurd h
  keeps ready e f (loop_end cs position ∷ work) g h =
      in_a_turn unit s p q (record q { work = doing (while_act cs) position ∷ work; standing = ready }) found (instances s.world.store p) stays (λ w. w) (λ w. refl)
      (λ w. refl) as_before (goes (doing (while_act cs) position ∷ work)) (λ t w. refl) (ap is_running e)
      (λ t f. ap (λ x. local_step unit p q.size x q.work t.world) e ∙ ap (λ x. work_step unit p q.size x t.world) g)
  keeps ready e f (procedure_end line ∷ work) g h =
      in_a_turn unit s p q (record q { work = work; standing = ready }) found (fewer (instances s.world.store p)) stays
      (λ w. record w { store = shrunk p w.store }) (λ w. refl) (λ w. refl) without_newest (goes work) (λ t w. refl) (ap is_running e)
      (λ t f. ap (λ x. local_step unit p q.size x q.work t.world) e ∙ ap (λ x. work_step unit p q.size x t.world) g)
  keeps ready e f (branch_end ∷ work) g h = absurd h
  keeps ready e f (program_entry ∷ work) g h = absurd h
  keeps ready e f (program_end ∷ work) g h = absurd h

pub textless_steps_keep : TextlessStepsKeep
textless_steps_keep unit s p q found standing h = keeps unit s p q found q.standing refl standing q.work refl h
