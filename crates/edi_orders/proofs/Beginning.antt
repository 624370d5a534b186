-- A step of a process that is not inside its stint. It begins one: the state of stints goes on to the end of that stint.
use Rattle.std.proofs.Common.{◌≡◌, ℕ, zero, suc, ◌+◌, ◌⊎◌, inl, inr, Bool, true, false, List, [], ◌∷◌, ◌++◌, refl, sym, ap, subst, ◌∙◌, arith}
use Rattle.edi_calls.specs.declared.kinds.Cause.TheVariants as cause
use Rattle.edi_calls.specs.Names.{Name, same, find}
use Rattle.edi_calls.specs.Outcome as outcome
use Rattle.edi_calls.specs.Outcome.{Ending}
use Rattle.edi_calls.specs.Ready.{Next, stays, joins}
use Rattle.edi_calls.specs.State.{State, Traced}
use Rattle.edi_calls.proofs.Tables.{same-refl}
use Rattle.edi_unit.specs.Tree.{ProgramUnit}
use Rattle.edi_meaning.specs.Store.{instances}
use Rattle.edi_meaning.specs.Step.{Asks, goes, Work, Processes, went, ended, step}
use Rattle.edi_meaning.specs.Permitted.{is_running_process, may_step}
use Rattle.edi_meaning.proofs.Sound.{Each}
use Rattle.edi_meaning.proofs.Standstill.{Idle, SameBut, Marks, step_marks}
use Rattle.edi_meaning.proofs.Permitted.{May, StepSound, step_sound}
use Rattle.edi_disjoint.specs.steps.Inner.{IsAlone, InnerStepsKeep}
use Rattle.edi_disjoint.specs.steps.Turns.{with_more, StepsSo}
use Rattle.edi_disjoint.proofs.steps.Turns.{more_turns_do_the_same}
use Rattle.edi_explored.specs.Covered.{SameButTurns, Reordered, IsCutOrTold, endings, Followed}
use Rattle.edi_explored.specs.Stint.{behind, over, stint, stint_after}
use Rattle.edi_orders.specs.Orders.{AreCalm, IsWhole, Completes}
use Rattle.edi_orders.proofs.Beside.{Beside, Limit, beside, joins_too, there, may_there}
use Rattle.edi_orders.proofs.Others.{others_of, reordered, each_on}
use Rattle.edi_orders.proofs.Pending.{Pending, ApartAll, NotIn, all_live, all_store, live_fixed, Shifted}
use Rattle.edi_orders.proofs.Reaching.{Runs, may_of, Reached, reached_more, reached_step, coherent, whole_so}
use Rattle.edi_orders.proofs.Reducing.{apart_all, same_but_more, same_with, Held, Regular, Alone, Invariant, others_same}
use Rattle.edi_orders.proofs.Resting.{rest_ready, ready_runs, AllRest, all_kept}
use Rattle.edi_orders.proofs.Running.{onward_only, Finished, run}
use Rattle.edi_orders.proofs.Taking.{IsNext}

-- who goes on in one state does so in the other
pub stays_too : (c : Asks) (n : Next) (quiet : Bool) → IsNext c stays false → IsNext c n quiet → (n ≡ stays) × (quiet ≡ false)
stays_too c n quiet h k =
    let o : (work : List Work) × (c ≡ goes work) = onward_only c false h in subst (λ d. IsNext d n quiet) o.1 k

pub same_order : (l : List Name) → Reordered l l
same_order l = record { members = λ x. refl; once = λ o. o }

-- nobody else is inside a stint where p is alone
pub none_left : (unit : ProgramUnit) (t : Processes) (p : Name) → IsAlone t p → (ks : Pending) → AllRest unit t ks → NotIn p ks → ks ≡ []
none_left unit t p a [] r n = refl
none_left unit t p a (e ∷ ks) r n =
    let is : e.0 ≡ p = a e.0 (may_of t e.0 (ready_runs t e.0 (rest_ready unit e.0 r.0.0 t e.1 r.0.1))) in
    let no : true ≡ false = sym (same-refl p) ∙ ap (same p) (sym is) ∙ n.0 in absurd (cc)

module _ (unit : ProgramUnit) (system : State) (es : List Ending) (V : Type 0) (Covers : V → Processes → List Name → Type 0) (Has : ℕ → V → Type 0)
    (f : Followed unit (endings es) V Covers Has) (calm : AreCalm es) where
  abbrev pub Hold : ℕ → Processes → List Name → Type 0
  Hold n S names = Held unit system es V Covers Has n S names

  pub held_more : (n more : ℕ) (S : Processes) (names other : List Name) → Reordered names other → Hold n S names → Hold n (with_more more S) other
  held_more n more S names other m h =
      record { by = h.by; has_it = h.has_it; covers = f.forgets h.by S (with_more more S) names other h.covers (same_but_more more S) m }

  -- no stint comes to the limit of processes
  pub not_limit : (line : ℕ) (shown : List ℕ) → IsCutOrTold (endings es) (outcome.failed cause.ProcessLimit line) shown → ⊥
  not_limit line shown (inl e) = absurd (cc)
  not_limit line shown (inr h) = calm (outcome.failed cause.ProcessLimit line) h

  pub reports : (n : ℕ) (S : Processes) (p : Name) (others : List Name) → Hold (suc n) S (p ∷ others) → (i : ℕ) (e : Ending) (shown : List ℕ) →
      stint unit i S p ≡ over e shown → IsCutOrTold (endings es) e shown
  reports n S p others h i e shown s = f.reports n h.by S p others i e shown h.has_it h.covers s

  pub leads : (n : ℕ) (S : Processes) (p : Name) (others : List Name) → Hold (suc n) S (p ∷ others) → (i : ℕ) (t : Processes) (joined : List Name) →
      stint unit i S p ≡ behind t joined false → Hold n t (others ++ joined)
  leads n S p others h i t joined s =
      let l : (w : V) × Has n w × Covers w t (others ++ joined) = f.leads n h.by S t p others joined i h.has_it h.covers s in
      record { by = l.0; has_it = l.1; covers = l.2 }

  -- one step of a stint, with more turns
  pub step_more : (more : ℕ) (S T : Processes) (p : Name) → step unit S p ≡ went T stays false → step unit (with_more more S) p ≡ went (with_more more T) stays false
  step_more more S T p e = subst (λ x. StepsSo more x (step unit (with_more more S) p)) e ((more_turns_do_the_same unit more S).one p)

  module _ (complete : Completes unit V Covers Has) (inner : InnerStepsKeep unit system)
      (first_ends : (s : Processes) (p : Name) (end : Traced) (turns : ℕ) → Reached unit system s → step unit s p ≡ ended outcome.done end turns → p ≡ [])
      (n : ℕ) (s t : Processes) (p : Name) (next : Next) (rs : Reached unit system s) (runs : Runs s p) (h : Regular unit system es V Covers Has (suc n) s)
      (away : NotIn p h.pending) where
    abbrev ks : Pending
    ks = h.pending

    abbrev S : Processes
    S = h.state

    apart : ApartAll p ks
    apart = apart_all unit system s p rs runs ks h.rests away

    -- ---- an attempt that fails and marks its process changes nothing

    pub marked_step : step unit s p ≡ went t next true → Regular unit system es V Covers Has (suc n) t
    marked_step e = go (subst (Marks unit s p) e (step_marks unit s p runs.process runs.found))
      where
        go : SameBut s t × Idle unit s.live s.world.store p → Regular unit system es V Covers Has (suc n) t
        go m = record {
          state = S;
          pending = ks;
          shifted = record {
            live = λ r. h.shifted.live r ∙ ap (λ l. all_live unit ks r (find l r)) (sym m.0.live);
            store = λ r. h.shifted.store r ∙ ap (λ z. all_store unit ks r (instances z r)) (sym m.0.store);
            system = h.shifted.system ∙ sym m.0.system;
          };
          rests = all_kept unit p s t ks (others_same unit system es V Covers Has (suc n) s t p next true rs runs e h) away h.rests;
          distinct = h.distinct;
          reached = h.reached;
          names = h.names;
          held = h.held;
          each = h.each;
        }

    -- ---- any other step begins a stint

    abbrev others : List Name
    others = others_of p h.names

    may_S : may_step S p ≡ true
    may_S = ap is_running_process (h.shifted.live p ∙ live_fixed unit ks p apart (find s.live p)) ∙ may_of s p runs

    order : Reordered h.names (p ∷ others)
    order = reordered p h.names (h.each.all p may_S)

    held_S : Hold (suc n) S (p ∷ others)
    held_S = record {
      by = h.held.by;
      has_it = h.held.has_it;
      covers = f.forgets h.held.by S S h.names (p ∷ others) h.held.covers (record { live = refl; store = refl; system = refl }) order;
    }

    whole_S : (u : Processes) × SameButTurns S u × (steps : ℕ) × IsWhole (stint unit steps u p)
    whole_S = complete n held_S.by S p others held_S.has_it held_S.covers

    abbrev some : ℕ
    some = whole_S.0.world.turns + s.world.turns

    -- the state of stints, with turns enough
    abbrev SS : Processes
    SS = with_more some S

    abbrev shifted_SS : Shifted unit ks s SS
    shifted_SS = record { live = h.shifted.live; store = h.shifted.store; system = h.shifted.system }

    abbrev more : ℕ
    more = S.world.turns + whole_S.0.world.turns

    turns : SS.world.turns ≡ s.world.turns + more
    turns = omega arith

    reached_SS : Reached unit system SS
    reached_SS = reached_more unit system S some h.reached

    held_SS : Hold (suc n) SS (p ∷ others)
    held_SS = held_more (suc n) some S (p ∷ others) (p ∷ others) (same_order (p ∷ others)) held_S

    each_SS : Each (May SS.live) (p ∷ others)
    each_SS = each_on (May SS.live) h.names (p ∷ others) order h.each

    whole_SS : IsWhole (stint unit whole_S.2 SS p)
    whole_SS =
        subst (λ z. IsWhole (stint unit whole_S.2 z p))
        (same_with S whole_S.0 (S.world.turns + s.world.turns) some whole_S.1 (omega arith))
        (whole_so unit (S.world.turns + s.world.turns) whole_S.2 whole_S.0 p whole_S.3)

    sound : StepSound p others (step unit SS p)
    sound =
        step_sound unit SS p runs.process others (there unit system ks p apart s SS rs shifted_SS more turns runs)
        (coherent unit system SS reached_SS).family.proper.fresh each_SS

    may_SS : may_step SS p ≡ true
    may_SS = may_there unit system ks p apart s SS rs shifted_SS more turns runs

    module _ (e : step unit s p ≡ went t next false) where
      abbrev Besides : Type 0
      Besides = Beside unit system ks p apart s SS rs shifted_SS more turns runs t next false

      rests_on : AllRest unit t ks
      rests_on = all_kept unit p s t ks (others_same unit system es V Covers Has (suc n) s t p next false rs runs e h) away h.rests

      -- the stint is one step
      short : (b : Besides) (qs : List Name) → step unit SS p ≡ went b.after (joins qs) false → Regular unit system es V Covers Has n t
      short b qs steps = record {
        state = b.after;
        pending = ks;
        shifted = b.moved;
        rests = rests_on;
        distinct = h.distinct;
        reached = reached_step unit system SS b.after p (joins qs) false reached_SS may_SS steps;
        names = others ++ qs;
        held = leads n SS p others held_SS 1 b.after qs (ap (stint_after (λ z. stint unit 0 z p)) steps);
        each = (subst (StepSound p others) steps sound).1;
      }

      -- it is longer
      module _ (b : Besides) (is : next ≡ stays) (steps : step unit SS p ≡ went b.after stays false) where
        abbrev Ran : ℕ → Type 0
        Ran j = Finished unit system es calm inner first_ends ks p others apart j t b.after

        finished : (j : ℕ) → Ran j → Regular unit system es V Covers Has n t
        finished j k = record {
          state = k.end;
          pending = (p, k.last) ∷ ks;
          shifted = k.shifted;
          rests = ((k.count, k.rest), rests_on);
          distinct = (away, h.distinct);
          reached = k.reached;
          names = others ++ k.joined;
          held = leads n SS p others held_SS (suc j) k.end k.joined (ap (stint_after (λ z. stint unit j z p)) steps ∙ k.is);
          each = k.each;
        }

        alone_in : IsAlone t p → Alone unit system es V Covers Has n t
        alone_in a = record {
          who = p;
          alone = a;
          ready = b.ready is;
          state = b.after;
          shifted = subst (λ z. Shifted unit z t b.after) (none_left unit t p a ks rests_on away) b.moved;
          reached = reached_step unit system SS b.after p stays false reached_SS may_SS steps;
          others = others;
          each = (subst (StepSound p others) steps sound).1;
          told = λ m i d shown k.
              reports n (with_more m SS) p others (held_more (suc n) m SS (p ∷ others) (p ∷ others) (same_order (p ∷ others)) held_SS) (suc i) d shown
              (ap (stint_after (λ z. stint unit i z p)) (step_more m SS b.after p steps) ∙ k);
          leads = λ m i u joined k.
              leads n (with_more m SS) p others (held_more (suc n) m SS (p ∷ others) (p ∷ others) (same_order (p ∷ others)) held_SS) (suc i) u joined
              (ap (stint_after (λ z. stint unit i z p)) (step_more m SS b.after p steps) ∙ k);
        }

        long : (j : ℕ) → IsWhole (stint unit j SS p) → Invariant unit system es V Covers Has n t
        long zero whole = absurd whole
        long (suc j) whole =
            go (run unit system es calm inner first_ends ks p others apart j t b.after
            (reached_step unit system s t p next false rs (may_of s p runs) e) (reached_step unit system SS b.after p stays false reached_SS may_SS steps)
            (b.ready is) b.moved (subst (StepSound p others) steps sound).1 (subst IsWhole (ap (stint_after (λ z. stint unit j z p)) steps) whole)
            (λ i d shown k. reports n SS p others held_SS (suc i) d shown (ap (stint_after (λ z. stint unit i z p)) steps ∙ k)))
          where
            go : Ran j ⊎ IsAlone t p → Invariant unit system es V Covers Has n t
            go (inl k) = inl (finished j k)
            go (inr a) = inr (alone_in a)

      by_next : (m : Next) → next ≡ m → Besides → Invariant unit system es V Covers Has n t
      by_next stays is b =
          let k : (b.next ≡ stays) × (b.marks ≡ false) = stays_too b.asks b.next b.marks (subst (λ m. IsNext b.asks m false) is b.next_is) b.also in
          long b is (b.steps ∙ ap (λ m. went b.after m b.marks) k.0 ∙ ap (went b.after stays) k.1) whole_S.2 whole_SS
      by_next (joins ps) is b =
          let k : (qs : List Name) × (b.next ≡ joins qs) × (b.marks ≡ false) =
          joins_too b.asks ps b.next b.marks (subst (λ m. IsNext b.asks m false) is b.next_is) b.also in
          inl (short b k.0 (b.steps ∙ ap (λ m. went b.after m b.marks) k.1 ∙ ap (went b.after (joins k.0)) k.2))

      pub beginning_step : Invariant unit system es V Covers Has n t
      beginning_step = go (beside unit system ks p apart s SS rs shifted_SS more turns runs t next false e)
        where
          go : Besides ⊎ Limit unit system ks p apart s SS rs shifted_SS more turns runs → Invariant unit system es V Covers Has n t
          go (inl b) = by_next next refl b
          go (inr l) =
              absurd (not_limit l.0 l.1.now.shown (reports n SS p others held_SS 1 (outcome.failed cause.ProcessLimit l.0) l.1.now.shown
              (ap (stint_after (λ z. stint unit 0 z p)) l.3)))
