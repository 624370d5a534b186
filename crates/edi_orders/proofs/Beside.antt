-- A step of one process in the state of steps, and in the state of stints beside it: it does the same in both, and what is pending of others is
-- pending still.
use Rattle.std.proofs.Common.{◌≡◌, ℕ, suc, ◌+◌, ◌⊎◌, inl, inr, Bool, true, false, if◌then◌else◌, List, [], ◌∷◌, Some, refl, sym, ap, subst, ◌∙◌}
use Rattle.edi_calls.specs.declared.kinds.Cause.TheVariants as cause
use Rattle.edi_calls.specs.Names.{Name, same, find}
use Rattle.edi_calls.proofs.Tables.{same-refl}
use Rattle.edi_calls.specs.Outcome as outcome
use Rattle.edi_calls.specs.Outcome.{Ending}
use Rattle.edi_calls.specs.Ready.{Next, stays, joins}
use Rattle.edi_calls.specs.State.{State, Traced}
use Rattle.edi_unit.specs.Tree.{ProgramUnit}
use Rattle.edi_meaning.specs.Store.{Instance, Owns, instances, shape}
use Rattle.edi_meaning.specs.Evaluation.{World, Evaluation, gives, turn_from, ◌>>=◌}
use Rattle.edi_meaning.specs.Whole.{levels_of}
use Rattle.edi_meaning.specs.Step.{ready, at_when, Work, Asks, goes, arrives, again, forks, leaves, Process, Processes, went, ended, back, is_quiet}
use Rattle.edi_meaning.specs.Step.{local_step, kernel, step_of, step}
use Rattle.edi_meaning.specs.Permitted.{is_running_process, may_step}
use Rattle.edi_meaning.proofs.Own.{owns_self}
use Rattle.edi_meaning.proofs.Standstill.{Idle, SameBut, Marks, step_marks}
use Rattle.edi_disjoint.specs.steps.Inner.{IsReady}
use Rattle.edi_disjoint.proofs.Effects.{live_effect, store_effect}
use Rattle.edi_disjoint.proofs.steps.Differing.{Differ, same_frames}
use Rattle.edi_explored.specs.Covered.{CannotGo}
use Rattle.edi_orders.proofs.Pending.{Pending, ApartAll, all_live, all_store, live_fixed, store_fixed, all_live_commute, all_store_commute, Shifted}
use Rattle.edi_orders.proofs.Reaching.{Runs, Reached, coherent}
use Rattle.edi_orders.proofs.Running.{onward_only}
use Rattle.edi_orders.proofs.Taking.{IsNext, Took, took, took_too, TookToo, EndsToo, ends_too, follow, steps_so}

-- who forks, arrives or ends in one state does so in the other
pub joins_too : (c : Asks) (ps : List Name) (n : Next) (quiet : Bool) → IsNext c (joins ps) false → IsNext c n quiet → (qs : List Name) × (n ≡ joins qs) × (quiet ≡ false)
joins_too (goes work) ps n quiet h k = let no : stays ≡ joins ps = sym h.0 in absurd (cc)
joins_too (arrives cs position work) ps n quiet h k = k
joins_too (again cs position failed work) ps n quiet h k = (k.0, k.1, k.2 ∙ sym h.2)
joins_too (forks bs line work) ps n quiet h k = k
joins_too leaves ps n quiet h k = k

-- S is s where others have done the rest of their stints, and it has so many turns more
module _ (unit : ProgramUnit) (system : State) (ks : Pending) (p : Name) (apart : ApartAll p ks) (s S : Processes) (rs : Reached unit system s)
    (shifted : Shifted unit ks s S) (more : ℕ) (turns : S.world.turns ≡ s.world.turns + more) (run : Runs s p) where
  abbrev x : Process
  x = run.process

  abbrev change : Name → List Instance → List Instance
  change r is = all_store unit ks r is

  abbrev fixes : (r : Name) → Owns p r → (is : List Instance) → change r is ≡ is
  fixes r o is = store_fixed unit ks p apart r o is

  pub there : find S.live p ≡ Some x
  there = shifted.live p ∙ live_fixed unit ks p apart (find s.live p) ∙ run.found

  pub may_there : may_step S p ≡ true
  may_there = ap is_running_process there ∙ run.running

  -- what the step leaves in both
  pub record Beside (t : Processes) (n : Next) (quiet : Bool) : Type 0 where
    pub asks : Asks
    pub next_is : IsNext asks n quiet
    pub after : Processes
    pub next : Next
    pub marks : Bool
    pub also : IsNext asks next marks
    pub steps : step unit S p ≡ went after next marks
    pub moved : Shifted unit ks t after
    pub onward : n ≡ stays → (r : Name) → same r p ≡ false → find t.live r ≡ find s.live r
    pub ready : n ≡ stays → IsReady t p

  abbrev pub Limit : Type 0
  Limit = (line : ℕ) × (rest : Traced) × (left : ℕ) × (step unit S p ≡ ended (outcome.failed cause.ProcessLimit line) rest left)

  beside_of : (t : Processes) (n : Next) (quiet : Bool) (c : Asks) (w : World) → Took unit s p x c w t n quiet →
      TookToo unit p x change fixes more s S (coherent unit system s rs).family.proper.owned run.found there shifted.store (sym shifted.system) turns c w →
      Beside t n quiet
  beside_of t n quiet c w k h = record {
    asks = c;
    next_is = k.next;
    after = h.after;
    next = h.next;
    marks = h.quiet;
    also = h.took.next;
    steps = steps_so unit S p x c h.world h.after h.next h.quiet there h.took;
    moved = record {
      live = λ r. h.took.results.live r ∙ ap (λ fs. live_effect unit p x fs c r (find S.live r)) same
          ∙ ap (live_effect unit p x (shape w.store p) c r) (shifted.live r)
          ∙ sym (all_live_commute unit p x (shape w.store p) c ks apart r (find s.live r)) ∙ ap (all_live unit ks r) (sym (k.results.live r));
      store = λ r. h.took.results.store r ∙ ap (λ fs. store_effect unit p x fs c r (instances h.world.store r)) same
          ∙ ap (store_effect unit p x (shape w.store p) c r) (h.differs.store r)
          ∙ sym (all_store_commute unit p x (shape w.store p) c ks apart r (instances w.store r)) ∙ ap (all_store unit ks r) (sym (k.results.store r));
      system = h.took.results.system ∙ sym h.differs.system ∙ sym k.results.system;
    };
    onward = λ e. onward e;
    ready = λ e. goes_ready e;
  }
    where
      work_of : n ≡ stays → (work : List Work) × (c ≡ goes work)
      work_of e = onward_only c quiet (subst (λ m. IsNext c m quiet) e k.next)

      live : (e : n ≡ stays) (r : Name) → find t.live r ≡ (if same r p then Some (record x { work = (work_of e).0; standing = ready }) else find s.live r)
      live e r = k.results.live r ∙ ap (λ d. live_effect unit p x (shape w.store p) d r (find s.live r)) (work_of e).1

      onward : n ≡ stays → (r : Name) → same r p ≡ false → find t.live r ≡ find s.live r
      onward e r m = live e r ∙ ap (λ b. if b then Some (record x { work = (work_of e).0; standing = ready }) else find s.live r) m

      goes_ready : n ≡ stays → IsReady t p
      goes_ready e = record {
        process = record x { work = (work_of e).0; standing = ready };
        found = live e p ∙ ap (λ b. if b then Some (record x { work = (work_of e).0; standing = ready }) else find s.live p) (same-refl p);
        standing = refl;
      }

      same : shape h.world.store p ≡ shape w.store p
      same = same_frames unit p x.size more change fixes w h.world h.differs p (owns_self p)

  -- IT DOES THE SAME, or the limit of processes forbids its fork there
  pub beside : (t : Processes) (n : Next) (quiet : Bool) → step unit s p ≡ went t n quiet → Beside t n quiet ⊎ Limit
  beside t n quiet e =
      let k : (c : Asks) × (w : World) × Took unit s p x c w t n quiet = took unit s p x run.found t n quiet e in
      go k.0 k.1 k.2
      (took_too unit p x change fixes more s S (coherent unit system s rs).family.proper.owned run.found there shifted.store (sym shifted.system) turns
      k.0 k.1 t n quiet k.2)
    where
      go : (c : Asks) (w : World) → Took unit s p x c w t n quiet →
          TookToo unit p x change fixes more s S (coherent unit system s rs).family.proper.owned run.found there shifted.store (sym shifted.system) turns c w ⊎ Limit →
          Beside t n quiet ⊎ Limit
      go c w k (inl h) = inl (beside_of t n quiet c w k h)
      go c w k (inr h) = inr h

  -- where it ends the program, it does so in both
  pub ends_beside : (e : Ending) (rest : Traced) (left : ℕ) → step unit s p ≡ ended e rest left →
      EndsToo unit p x change fixes more s S (coherent unit system s rs).family.proper.owned run.found there shifted.store (sym shifted.system) turns e
  ends_beside e rest left g =
      ends_too unit p x change fixes more s S (coherent unit system s rs).family.proper.owned run.found there shifted.store (sym shifted.system) turns e rest left g

-- ---- who cannot go in one cannot go in the other

turned_on : (k n : ℕ) (w : World) (go : World → Evaluation Asks) → k ≡ suc n → turn_from k w go ≡ go (record w { turns = n })
turned_on k n w go e = ap (λ z. turn_from z w go) e

module _ (unit : ProgramUnit) (system : State) (s S : Processes) (p : Name) (rs : Reached unit system s) (shifted : Shifted unit [] s S) (more n : ℕ)
    (turns : S.world.turns ≡ s.world.turns + more) (some : s.world.turns ≡ suc n) (idle : CannotGo unit s p) where
  abbrev q : Process
  q = idle.process

  there_q : find S.live p ≡ Some q
  there_q = shifted.live p ∙ idle.found

  fails : local_step unit p q.size q.standing q.work s.world ≡ gives (again idle.clauses idle.position (is_quiet idle.clauses) q.work) (record s.world { turns = n })
  fails =
      ap (λ z. local_step unit p q.size z q.work s.world) idle.standing
      ∙ ap (λ (r : Evaluation Bool). r >>= λ ran w. if ran then gives (goes q.work) w else turn_from w.turns w (gives (again idle.clauses idle.position (is_quiet idle.clauses) q.work)))
      (idle.none (levels_of unit p q.size s.world.turns) s.world refl)
      ∙ turned_on s.world.turns n s.world (gives (again idle.clauses idle.position (is_quiet idle.clauses) q.work)) some

  followed : (u : World) × (local_step unit p q.size q.standing q.work S.world ≡ gives (again idle.clauses idle.position (is_quiet idle.clauses) q.work) u)
      × Differ unit p q.size more (λ r is. is) (λ r o is. refl) (record s.world { turns = n }) u
  followed =
      follow unit p q (λ r is. is) (λ r o is. refl) more s S (coherent unit system s rs).family.proper.owned idle.found there_q shifted.store (sym shifted.system) turns
      (again idle.clauses idle.position (is_quiet idle.clauses) q.work) (record s.world { turns = n }) fails

  pub cannot_go_too : CannotGo unit S p
  cannot_go_too = of (subst (Marks unit S p) steps (step_marks unit S p q there_q))
    where
      after : Processes
      after = back S p (record q { work = q.work; standing = at_when idle.clauses idle.position }) followed.0

      steps : step unit S p ≡ went after (joins (p ∷ [])) true
      steps =
          ap (step_of unit S p) there_q ∙ ap (kernel unit S p q) followed.1 ∙ ap (λ b. went after (joins (p ∷ [])) b) idle.quiet

      of : SameBut S after × Idle unit S.live S.world.store p → CannotGo unit S p
      of m = record {
        process = m.1.process;
        found = m.1.found;
        clauses = m.1.clauses;
        position = m.1.position;
        standing = m.1.standing;
        quiet = m.1.quiet;
        none = m.1.none;
      }
