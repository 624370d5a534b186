-- The claim for steps, from those for one process alone and for what the kernels make of its steps.
use Rattle.std.proofs.Common.{◌≡◌, true, ◌||◌, List, ◌∷◌, Option, Some, None, refl, sym, subst, ap, ◌∙◌}
use Rattle.edi_calls.specs.Names.{Name, find}
use Rattle.edi_calls.specs.Ready.{has}
use Rattle.edi_calls.proofs.Tables.{same-refl}
use Rattle.edi_meaning.specs.Evaluation.{Evaluation, gives, ends}
use Rattle.edi_meaning.specs.Step as source
use Rattle.edi_meaning.specs.Step.{Process, Processes, Asks, goes, arrives, again, forks, leaves, local_step, kernel}
use Rattle.edi_meaning.specs.Permitted.{is_running_process}
use Rattle.edi_meaning.proofs.Kernel.{After, of_process}
use Rattle.edi_meaning.specs.Laws.{IsWaiting}
use Rattle.edi_meaning.proofs.Dangling.{Coherent, owner_waits}
use Rattle.edi_calls.proofs.Names.{some_is}
use Rattle.edi_meaning.proofs.Parents.{waiting_does_not_run}
use Rattle.edi_follows.specs.places.Coded.{Coded}
use Rattle.edi_follows.specs.places.Related.{Queue}
use Rattle.edi_follows.specs.places.Lands.{Lands, StepClaim, Stepping, LocalClaim, KernelClaim, GoesClaim, ArrivesClaim, AgainClaim, ForkClaim, LeaveClaim, EndsClaim}
use Rattle.edi_follows.specs.places.Lands.{StepsCohere}

module _ (g : Coded) (local : LocalClaim g) (goes_claim : GoesClaim g) (arrives_claim : ArrivesClaim g) (again_claim : AgainClaim g)
    (fork_claim : ForkClaim g) (leave_claim : LeaveClaim g) (ends_claim : EndsClaim g) (cohere : StepsCohere) where
  of_asks : (a : Evaluation Asks) → KernelClaim g a
  of_asks (gives (goes ws) w) = goes_claim ws w
  of_asks (gives (arrives cs position ws) w) = arrives_claim cs position ws w
  of_asks (gives (again cs position quiet ws) w) = again_claim cs position quiet ws w
  of_asks (gives (forks bs line ws) w) = fork_claim bs line ws w
  of_asks (gives leaves w) = leave_claim w
  of_asks (ends ending system turns) = ends_claim ending system turns

  -- who is taken lives and does not wait
  stepping : (s : Processes) (p : Name) (others : List Name) → Coherent s → Queue s (p ∷ others) → (q : Process) × Stepping g s p q
  stepping s p others coherent queue = go (find s.live p) refl (queue.holds p (ap (λ b. b || has others p) (same-refl p)))
    where
      go : (o : Option Process) → find s.live p ≡ o → is_running_process o ≡ true → (q : Process) × Stepping g s p q
      go None e h = absurd (cc)
      go (Some q) e h =
          let free : IsWaiting s.live p → ⊥ =
          λ v. waiting_does_not_run q.standing v.number h (ap (λ y. y.standing) (some_is (sym e ∙ v.found)) ∙ v.standing) in (
            q,
            record {
              found = e;
              runs = h;
              free = free;
              lowest = λ y l n o. free (owner_waits s.live coherent.family.family y p l.process l.found n o);
            },
          )

  pub step_claim : StepClaim g
  step_claim outer s t p others marks k out =
      let x : (q : Process) × Stepping g s p q = stepping s p others k.kept.coherent k.queue in
      let a : Evaluation Asks = local_step g.unit p x.0.size x.0.standing x.0.work s.world in
      let coherent : After Coherent (kernel g.unit s p x.0 a) =
      subst (λ o. After Coherent (source.step_of g.unit s p o)) x.1.found (cohere g.unit s p k.kept.coherent) in
      of_process g.unit s p x.0 (Lands g outer t s.world.system.past p others marks) x.1.found
      (of_asks a outer s t p others marks k out x.0 x.1 refl coherent (local s t p x.0 x.1 k.related k.kept))
