-- How an order of steps ends, by the invariant: in a way that the search has found, or by the limit of processes.
use Rattle.std.proofs.Common.{◌≡◌, ℕ, zero, suc, ◌+◌, ◌⊎◌, inl, inr, Bool, true, false, if◌then◌else◌, List, [], ◌∷◌, ◌++◌, length, refl, sym, ap, subst, ◌∙◌, arith}
use Rattle.std.specs.Prelude.{Contains, nat_lt}
use Rattle.std.specs.List.{list_any}
use Rattle.edi_calls.specs.Forks.{most_processes, equal_share}
use Rattle.edi_calls.specs.declared.kinds.Cause.TheVariants as cause
use Rattle.edi_calls.specs.Names.{Name, same, find}
use Rattle.edi_calls.specs.Outcome as outcome
use Rattle.edi_calls.specs.Outcome.{Ending}
use Rattle.edi_calls.specs.Ready.{Next, stays, joins}
use Rattle.edi_calls.specs.State.{State, Traced}
use Rattle.edi_calls.proofs.Names.{some_is}
use Rattle.edi_calls.proofs.Tables.{same-or-other}
use Rattle.edi_unit.specs.Tree.{ProgramUnit}
use Rattle.edi_meaning.specs.Store.{Instance, Frame, frames, shape, room}
use Rattle.edi_meaning.specs.Evaluation.{World, Evaluation, gives, ends}
use Rattle.edi_meaning.specs.Step.{Work, ready, at_when, Asks, goes, arrives, again, forks, leaves, Process, Processes, went, ended, exceeds, fork_taken, exited}
use Rattle.edi_meaning.specs.Step.{work_step, kernel, step_of, step}
use Rattle.edi_meaning.specs.Permitted.{is_running_process, may_step}
use Rattle.edi_meaning.proofs.Permitted.{StepSound, step_sound}
use Rattle.edi_disjoint.specs.steps.Own.{GoesAlone, IsSpent}
use Rattle.edi_disjoint.specs.steps.Inner.{IsReady, IsAlone}
use Rattle.edi_disjoint.specs.steps.Turns.{with_more}
use Rattle.edi_explored.specs.Covered.{CannotGo, Reordered, IsCutOrTold, endings, Followed}
use Rattle.edi_explored.specs.Reached.{IsCutOr}
use Rattle.edi_explored.specs.Stint.{stint, stint_after}
use Rattle.edi_orders.specs.Orders.{IsProcessLimit, AreCalm}
use Rattle.edi_orders.proofs.Beginning.{same_order, stays_too, Hold, held_more, not_limit, reports, step_more}
use Rattle.edi_orders.proofs.Beside.{Beside, Limit, beside, ends_beside, joins_too, there, may_there, cannot_go_too}
use Rattle.edi_orders.proofs.Lasts.{IsOnward, AsksSo, asks_so, last_asks, last_ends, last_plain}
use Rattle.edi_orders.proofs.Others.{others_of, reordered}
use Rattle.edi_orders.proofs.Pending.{Last, Pending, ApartAll, NotIn, live_fixed, Shifted}
use Rattle.edi_orders.proofs.Reaching.{Runs, may_of, Reached, reached_more, reached_step, coherent}
use Rattle.edi_orders.proofs.Reducing.{Picked, pick, apart_all, Regular, Alone, Invariant}
use Rattle.edi_orders.proofs.Resting.{Fits, AtLast, Rest, rest_ready, ready_runs, AllRest}
use Rattle.edi_orders.proofs.Running.{not_ended, ready_local}
use Rattle.edi_orders.proofs.Taking.{IsNext, exited_goes, ended_is}

-- ---- the last step of a stint ends the program for want of turns alone, or by the limit of processes

module _ (unit : ProgramUnit) where
  over_small : (s : Processes) (p : Name) (x : Process) (bs : List ℕ) (line : ℕ) (work : List Work) (w : World) (share : ℕ) (many large : Bool) (n : ℕ) (e : Ending)
      (rest : Traced) (left : ℕ) → large ≡ false →
      (if many then ended (outcome.failed cause.ProcessLimit line) w.system w.turns
      else if large then ended (outcome.failed cause.VariableLimit line) w.system w.turns
      else fork_taken unit s p x bs work w n share) ≡ ended e rest left → (e ≡ outcome.turns) ⊎ IsProcessLimit e
  over_small s p x bs line work w share true large n e rest left f g =
      inr (line, sym (ended_is (outcome.failed cause.ProcessLimit line) e w.system rest w.turns left g))
  over_small s p x bs line work w share false true n e rest left f g = absurd (cc)
  over_small s p x bs line work w share false false zero e rest left f g = inl (sym (ended_is outcome.turns e w.system rest w.turns left g))
  over_small s p x bs line work w share false false (suc n) e rest left f g = absurd (cc)

  kernel_over : (s : Processes) (p : Name) (x : Process) (own : List Instance) (c : Asks) (w : World) (e : Ending) (rest : Traced) (left : ℕ) → shape w.store p ≡ frames own →
      Fits unit x own c → kernel unit s p x (gives c w) ≡ ended e rest left → (e ≡ outcome.turns) ⊎ IsProcessLimit e
  kernel_over s p x own (goes work) w e rest left h k g = absurd (cc)
  kernel_over s p x own (arrives cs position work) w e rest left h k g = absurd (cc)
  kernel_over s p x own (again cs position quiet work) w e rest left h k g = absurd (cc)
  kernel_over s p x own (forks bs line work) w e rest left h k g =
      over_small s p x bs line work w (equal_share (room x.size (shape w.store p)) (length bs)) (nat_lt most_processes (length s.live + length bs))
      (list_any (exceeds unit (equal_share (room x.size (shape w.store p)) (length bs))) bs) w.turns e rest left
      (ap (λ (fs : List Frame). list_any (exceeds unit (equal_share (room x.size fs) (length bs))) bs) h ∙ k) g
  kernel_over s p x own leaves w e rest left h k g =
      let y : (t : Processes) × (ps : List Name) × (exited s p w ≡ went t (joins ps) false) = exited_goes s p w in
      absurd (not_ended y.0 (joins y.1) false e rest left (sym y.2 ∙ g))

  last_over : (s : Processes) (p : Name) (l : Last) → AtLast unit p s l → (e : Ending) (rest : Traced) (left : ℕ) → step unit s p ≡ ended e rest left →
      (e ≡ outcome.turns) ⊎ IsProcessLimit e
  last_over s p l a e rest left g =
      go (work_step unit p l.process.size l.process.work s.world) refl
      (ap (kernel unit s p l.process) (sym (ready_local unit s p (record { process = l.process; found = a.found; standing = a.standing }) s.world))
      ∙ sym (ap (step_of unit s p) a.found) ∙ g)
    where
      asked : (c : Asks) (w : World) → c ≡ l.asks → kernel unit s p l.process (gives c w) ≡ ended e rest left → AsksSo l.process.work s.world c w →
          (e ≡ outcome.turns) ⊎ IsProcessLimit e
      asked c w is k (inl o) = absurd (last_plain l.process.work l.asks a.last (subst IsOnward is o))
      asked c w is k (inr h) =
          kernel_over s p l.process l.own c w e rest left (ap (λ z. shape z p) h.1 ∙ ap frames a.own) (subst (Fits unit l.process l.own) (sym is) a.fits) k

      go : (r : Evaluation Asks) → work_step unit p l.process.size l.process.work s.world ≡ r → kernel unit s p l.process r ≡ ended e rest left →
          (e ≡ outcome.turns) ⊎ IsProcessLimit e
      go (gives c w) f k =
          asked c w (last_asks unit p l.process.size l.process.work l.asks a.last s.world c w f) k (asks_so unit p l.process.size l.process.work s.world c w f)
      go (ends d end turns) f k =
          inl (sym (ended_is d e end rest turns left k) ∙ last_ends unit p l.process.size l.process.work l.asks a.last s.world d end turns f)

-- who is ready can go
pub no_ready : (unit : ProgramUnit) (s : Processes) (p : Name) → IsReady s p → CannotGo unit s p → ⊥
no_ready unit s p r i =
    let same : ready ≡ at_when i.clauses i.position = sym r.standing ∙ ap (λ (x : Process). x.standing) (some_is (sym r.found ∙ i.found)) ∙ i.standing in
    absurd (cc)

module _ (unit : ProgramUnit) (system : State) (es : List Ending) (V : Type 0) (Covers : V → Processes → List Name → Type 0) (Has : ℕ → V → Type 0)
    (f : Followed unit (endings es) V Covers Has) (calm : AreCalm es) where
  abbrev pub Judged : Ending → Type 0
  Judged e = IsCutOr es e ⊎ IsProcessLimit e

  judged : (e d : Ending) (shown : List ℕ) → (d ≡ e) ⊎ IsProcessLimit d → IsCutOrTold (endings es) d shown → Judged e
  judged e d shown (inl is) (inl h) = inl (inl (sym is ∙ h))
  judged e d shown (inl is) (inr h) = inl (inr (subst (Contains es) is h))
  judged e d shown (inr l) h =
      absurd (not_limit unit system es V Covers Has f calm l.0 shown (subst (λ z. IsCutOrTold (endings es) z shown) l.1 h))

  spent : (e : Ending) → (e ≡ outcome.turns) ⊎ IsProcessLimit e → Judged e
  spent e (inl h) = inl (inl h)
  spent e (inr h) = inr h

  -- ---- the end of the program

  module _ (n : ℕ) (s : Processes) (p : Name) (rs : Reached unit system s) (runs : Runs s p) (e : Ending) (rest : Traced) (left : ℕ)
      (g : step unit s p ≡ ended e rest left) where
    inner_ends : (l : Last) (m : ℕ) → Rest unit p m s l → Judged e
    inner_ends l zero r = spent e (last_over unit s p l r e rest left g)
    inner_ends l (suc m) r = go (r.keep.either s (record { process = refl; own = refl; frames = λ z o. refl; references = λ r d k o. refl }))
      where
        go : GoesAlone unit p r.keep.after r.keep.own r.keep.next r.keep.quiet r.keep.taken s ⊎ IsSpent unit p s → Judged e
        go (inl k) = absurd (not_ended k.0 r.keep.next r.keep.quiet e rest left (sym k.1 ∙ g))
        go (inr k) = inl (inl (sym (ended_is outcome.turns e k.0 rest k.1 left (sym k.2 ∙ g))))

    module _ (h : Regular unit system es V Covers Has (suc n) s) (away : NotIn p h.pending) where
      apart : ApartAll p h.pending
      apart = apart_all unit system s p rs runs h.pending h.rests away

      abbrev SS : Processes
      SS = with_more s.world.turns h.state

      abbrev shifted : Shifted unit h.pending s SS
      shifted = record { live = h.shifted.live; store = h.shifted.store; system = h.shifted.system }

      order : Reordered h.names (p ∷ others_of p h.names)
      order =
          reordered p h.names
          (h.each.all p (ap is_running_process (h.shifted.live p ∙ live_fixed unit h.pending p apart (find s.live p)) ∙ may_of s p runs))

      held : Hold unit system es V Covers Has f calm (suc n) SS (p ∷ others_of p h.names)
      held = held_more unit system es V Covers Has f calm (suc n) s.world.turns h.state h.names (p ∷ others_of p h.names) order h.held

      begun_ends : Judged e
      begun_ends =
          go (ends_beside unit system h.pending p apart s SS rs shifted h.state.world.turns (omega arith) runs e rest left g)
        where
          go : (e ≡ outcome.turns) ⊎ IsProcessLimit e
              ⊎ ((d : Ending) × (end : Traced) × (turns : ℕ) × (step unit SS p ≡ ended d end turns) × ((d ≡ e) ⊎ IsProcessLimit d)) → Judged e
          go (inl k) = inl (inl k)
          go (inr (inl k)) = inr k
          go (inr (inr k)) =
              judged e k.0 k.1.now.shown k.4
              (reports unit system es V Covers Has f calm n SS p (others_of p h.names) held 1 k.0 k.1.now.shown (ap (stint_after (λ z. stint unit 0 z p)) k.3))

    pub regular_ends : Regular unit system es V Covers Has (suc n) s → Judged e
    regular_ends h = go (pick unit system s p rs runs h.pending h.rests h.distinct)
      where
        go : NotIn p h.pending ⊎ Picked unit system s p rs runs h.pending → Judged e
        go (inl away) = begun_ends h away
        go (inr k) = inner_ends k.last k.count k.rest

  -- ---- one who is alone

  module _ (n : ℕ) (s : Processes) (rs : Reached unit system s) (h : Alone unit system es V Covers Has n s) where
    abbrev p : Name
    p = h.who

    abbrev S : Processes
    S = with_more s.world.turns h.state

    abbrev shifted_S : Shifted unit [] s S
    shifted_S = record { live = h.shifted.live; store = h.shifted.store; system = h.shifted.system }

    runs : Runs s p
    runs = ready_runs s p h.ready

    turns : S.world.turns ≡ s.world.turns + h.state.world.turns
    turns = omega arith

    reached_S : Reached unit system S
    reached_S = reached_more unit system h.state s.world.turns h.reached

    pub alone_ends : (e : Ending) (rest : Traced) (left : ℕ) → step unit s p ≡ ended e rest left → Judged e
    alone_ends e rest left g =
        go (ends_beside unit system [] p tt s S rs shifted_S h.state.world.turns turns runs e rest left g)
      where
        go : (e ≡ outcome.turns) ⊎ IsProcessLimit e
            ⊎ ((d : Ending) × (end : Traced) × (left : ℕ) × (step unit S p ≡ ended d end left) × ((d ≡ e) ⊎ IsProcessLimit d)) → Judged e
        go (inl k) = inl (inl k)
        go (inr (inl k)) = inr k
        go (inr (inr k)) =
            judged e k.0 k.1.now.shown k.4 (h.told s.world.turns 1 k.0 k.1.now.shown (ap (stint_after (λ z. stint unit 0 z p)) k.3))

    sound : StepSound p h.others (step unit S p)
    sound =
        step_sound unit S p runs.process h.others (there unit system [] p tt s S rs shifted_S h.state.world.turns turns runs)
        (coherent unit system S reached_S).family.proper.fresh h.each

    module _ (t : Processes) (next : Next) (e : step unit s p ≡ went t next false) where
      abbrev Besides : Type 0
      Besides = Beside unit system [] p tt s S rs shifted_S h.state.world.turns turns runs t next false

      may_S : may_step S p ≡ true
      may_S = may_there unit system [] p tt s S rs shifted_S h.state.world.turns turns runs

      alone_done : (b : Besides) (qs : List Name) → step unit S p ≡ went b.after (joins qs) false → Regular unit system es V Covers Has n t
      alone_done b qs steps = record {
        state = b.after;
        pending = [];
        shifted = b.moved;
        rests = tt;
        distinct = tt;
        reached = reached_step unit system S b.after p (joins qs) false reached_S may_S steps;
        names = h.others ++ qs;
        held = h.leads s.world.turns 1 b.after qs (ap (stint_after (λ z. stint unit 0 z p)) steps);
        each = (subst (StepSound p h.others) steps sound).1;
      }

      still_alone : (b : Besides) → next ≡ stays → IsAlone t p
      still_alone b is q may = go (same-or-other q p)
        where
          go : (q ≡ p) ⊎ (same q p ≡ false) → q ≡ p
          go (inl i) = i
          go (inr m) = h.alone q (ap is_running_process (sym (b.onward is q m)) ∙ may)

      more_steps : (b : Besides) → step unit S p ≡ went b.after stays false → (m : ℕ) →
          step unit (with_more (s.world.turns + m) h.state) p ≡ went (with_more m b.after) stays false
      more_steps b steps m =
          subst (λ z. step unit z p ≡ went (with_more m b.after) stays false)
          (ap (λ k. record { live = h.state.live; world = record { store = h.state.world.store; system = h.state.world.system; turns = k } }) (omega arith))
          (step_more unit system es V Covers Has f calm m S b.after p steps)

      alone_on : (b : Besides) → next ≡ stays → step unit S p ≡ went b.after stays false → Alone unit system es V Covers Has n t
      alone_on b is steps = record {
        who = p;
        alone = still_alone b is;
        ready = b.ready is;
        state = b.after;
        shifted = b.moved;
        reached = reached_step unit system S b.after p stays false reached_S may_S steps;
        others = h.others;
        each = (subst (StepSound p h.others) steps sound).1;
        told = λ m i d shown k. h.told (s.world.turns + m) (suc i) d shown (ap (stint_after (λ z. stint unit i z p)) (more_steps b steps m) ∙ k);
        leads = λ m i u joined k. h.leads (s.world.turns + m) (suc i) u joined (ap (stint_after (λ z. stint unit i z p)) (more_steps b steps m) ∙ k);
      }

      by_next : (m : Next) → next ≡ m → Besides → Invariant unit system es V Covers Has n t
      by_next stays is b =
          let k : (b.next ≡ stays) × (b.marks ≡ false) = stays_too b.asks b.next b.marks (subst (λ m. IsNext b.asks m false) is b.next_is) b.also in
          inr (alone_on b is (b.steps ∙ ap (λ m. went b.after m b.marks) k.0 ∙ ap (went b.after stays) k.1))
      by_next (joins ps) is b =
          let k : (qs : List Name) × (b.next ≡ joins qs) × (b.marks ≡ false) =
          joins_too b.asks ps b.next b.marks (subst (λ m. IsNext b.asks m false) is b.next_is) b.also in
          inl (alone_done b k.0 (b.steps ∙ ap (λ m. went b.after m b.marks) k.1 ∙ ap (went b.after (joins k.0)) k.2))

      pub alone_step : Invariant unit system es V Covers Has n t
      alone_step = go (beside unit system [] p tt s S rs shifted_S h.state.world.turns turns runs t next false e)
        where
          go : Besides ⊎ Limit unit system [] p tt s S rs shifted_S h.state.world.turns turns runs → Invariant unit system es V Covers Has n t
          go (inl b) = by_next next refl b
          go (inr l) =
              absurd (not_limit unit system es V Covers Has f calm l.0 l.1.now.shown
              (h.told s.world.turns 1 (outcome.failed cause.ProcessLimit l.0) l.1.now.shown (ap (stint_after (λ z. stint unit 0 z p)) l.3)))

  -- ---- a standstill

  module _ (n : ℕ) (s : Processes) (rs : Reached unit system s) (idle : (p : Name) → may_step s p ≡ true → CannotGo unit s p) where
    none_pending : (ks : Pending) → AllRest unit s ks → ks ≡ []
    none_pending [] r = refl
    none_pending (e ∷ ks) r =
        let y : IsReady s e.0 = rest_ready unit e.0 r.0.0 s e.1 r.0.1 in
        absurd (no_ready unit s e.0 y (idle e.0 (may_of s e.0 (ready_runs s e.0 y))))

    regular_stands : Regular unit system es V Covers Has (suc n) s → Contains es outcome.standstill
    regular_stands h = go (subst (λ z. Shifted unit z s h.state) (none_pending h.pending h.rests) h.shifted)
      where
        go : Shifted unit [] s h.state → Contains es outcome.standstill
        go k =
            let one : Processes = with_more 1 s in
            let more : Processes = with_more (1 + s.world.turns) h.state in
            let held : Hold unit system es V Covers Has f calm (suc n) more h.names =
            held_more unit system es V Covers Has f calm (suc n) (1 + s.world.turns) h.state h.names h.names (same_order h.names) h.held in
            f.stands n held.by more h.names held.has_it held.covers
            (λ p m. cannot_go_too unit system one more p (reached_more unit system s 1 rs) (record { live = k.live; store = k.store; system = k.system })
            h.state.world.turns s.world.turns (omega arith) (omega arith) (one_idle p (idle p (ap is_running_process (sym (k.live p)) ∙ h.each.holds p m))))
          where
            one_idle : (p : Name) → CannotGo unit s p → CannotGo unit (with_more 1 s) p
            one_idle p i = record {
              process = i.process;
              found = i.found;
              clauses = i.clauses;
              position = i.position;
              standing = i.standing;
              quiet = i.quiet;
              none = i.none;
            }

    pub stands : Invariant unit system es V Covers Has (suc n) s → Contains es outcome.standstill
    stands (inl h) = regular_stands h
    stands (inr h) = absurd (no_ready unit s h.who h.ready (idle h.who (may_of s h.who (ready_runs s h.who h.ready))))
