-- THE INVARIANT along an order of steps: beside the state of steps there is a state of stints, which the search has, and in which each process that is
-- inside its stint has done the rest of it. Or one process is alone, and inside its stint in both.
use Rattle.std.proofs.Common.{◌≡◌, ℕ, zero, suc, ◌+◌, ◌⊎◌, inl, inr, Bool, true, false, if◌then◌else◌, List, [], ◌∷◌, ◌++◌, Option, refl, sym, ap, subst, ◌∙◌}
use Rattle.edi_calls.specs.Names.{Name, same, find}
use Rattle.edi_calls.specs.Outcome as outcome
use Rattle.edi_calls.specs.Outcome.{Ending}
use Rattle.edi_calls.specs.Ready.{Next}
use Rattle.edi_calls.specs.State.{State}
use Rattle.edi_calls.proofs.Tables.{same-equal, same-or-other}
use Rattle.edi_unit.specs.Tree.{ProgramUnit}
use Rattle.edi_meaning.specs.Store.{Instance, instances, frames, shape}
use Rattle.edi_meaning.specs.Evaluation.{World, gives}
use Rattle.edi_meaning.specs.Step.{Asks, Process, Processes, went, work_step, step}
use Rattle.edi_meaning.proofs.Sound.{Each}
use Rattle.edi_meaning.proofs.Permitted.{May}
use Rattle.edi_disjoint.specs.steps.Own.{IsBut, FindsSame, GoesAlone, IsSpent}
use Rattle.edi_disjoint.specs.steps.Inner.{IsReady, IsAlone}
use Rattle.edi_disjoint.specs.steps.Turns.{with_more}
use Rattle.edi_disjoint.proofs.Effects.{live_effect, store_effect}
use Rattle.edi_explored.specs.Covered.{SameButTurns, IsCutOrTold, endings}
use Rattle.edi_explored.specs.Stint.{behind, over, stint}
use Rattle.edi_orders.proofs.Lasts.{IsOnward, AsksSo, asks_so, last_asks, last_plain}
use Rattle.edi_orders.proofs.Pending.{Apart, Last, Pending, ApartAll, NotIn, Distinct, live_of, store_of, live_commutes, store_commutes, own_commutes}
use Rattle.edi_orders.proofs.Pending.{all_live, all_store, Shifted}
use Rattle.edi_orders.proofs.Reaching.{Runs, Reached, apart_of, others_find_same}
use Rattle.edi_orders.proofs.Resting.{AtLast, Inner, Rest, both_but, rest_kept, rest_ready, ready_runs, AllRest, all_kept, told_live, told_store}
use Rattle.edi_orders.proofs.Running.{went_state, not_ended, ready_local}
use Rattle.edi_orders.proofs.Taking.{Took, took}

-- ---- one of those that are inside their stints

module _ (unit : ProgramUnit) (system : State) (s : Processes) (p : Name) (rs : Reached unit system s) (runs : Runs s p) where
  -- p is inside its stint, with this last step, and these are the others
  pub record Picked (ks : Pending) : Type 0 where
    pub last : Last
    pub others : Pending
    pub count : ℕ
    pub rest : Rest unit p count s last
    pub rests : AllRest unit s others
    pub distinct : Distinct others
    pub away : NotIn p others
    pub keeps : (q : Name) → NotIn q ks → NotIn q others
    pub live : (r : Name) (o : Option Process) → all_live unit ks r o ≡ all_live unit others r (live_of unit p last r o)
    pub store : (r : Name) (is : List Instance) → all_store unit ks r is ≡ all_store unit others r (store_of unit p last r is)

  pub apart_from : (q : Name) (l : Last) → (n : ℕ) × Rest unit q n s l → same p q ≡ false → Apart p q
  apart_from q l r n = apart_of unit system s p q rs runs (ready_runs s q (rest_ready unit q r.0 s l r.1)) n

  pub apart_all : (ks : Pending) → AllRest unit s ks → NotIn p ks → ApartAll p ks
  apart_all [] r n = tt
  apart_all (e ∷ ks) r n = (apart_from e.0 e.1 r.0 n.0, apart_all ks r.1 n.1)

  first_picked : (q : Name) (l : Last) (ks : Pending) → (n : ℕ) × Rest unit q n s l → AllRest unit s ks → Distinct ks → NotIn q ks → q ≡ p → Picked ((q, l) ∷ ks)
  first_picked q l ks r rs d n e = record {
    last = l;
    others = ks;
    count = r.0;
    rest = subst (λ z. Rest unit z r.0 s l) e r.1;
    rests = rs;
    distinct = d;
    away = subst (λ z. NotIn z ks) e n;
    keeps = λ z m. m.1;
    live = λ z o. ap (λ y. all_live unit ks z (live_of unit y l z o)) e;
    store = λ z is. ap (λ y. all_store unit ks z (store_of unit y l z is)) e;
  }

  later_picked : (q : Name) (l : Last) (ks : Pending) → (n : ℕ) × Rest unit q n s l → same p q ≡ false → NotIn q ks → Picked ks → Picked ((q, l) ∷ ks)
  later_picked q l ks r m n k =
      let a : Apart p q = apart_from q l r m in
      record {
        last = k.last;
        others = (q, l) ∷ k.others;
        count = k.count;
        rest = k.rest;
        rests = (r, k.rests);
        distinct = (k.keeps q n, k.distinct);
        away = (m, k.away);
        keeps = λ z h. (h.0, k.keeps z h.1);
        live = λ z o. k.live z (live_of unit q l z o)
            ∙ ap (all_live unit k.others z) (sym (live_commutes unit p k.last.process (frames k.last.own) k.last.asks q l.process (frames l.own) l.asks a z o));
        store = λ z is. k.store z (store_of unit q l z is) ∙ ap (all_store unit k.others z) (sym (stores k.last a z is));
      }
    where
      stores : (k : Last) → Apart p q → (z : Name) (is : List Instance) → store_of unit q l z (store_of unit p k z is) ≡ store_of unit p k z (store_of unit q l z is)
      stores k a z is =
          store_commutes unit p k.process (frames k.own) k.asks q l a z (if same z p then k.own else is)
          ∙ ap (store_effect unit p k.process (frames k.own) k.asks z) (own_commutes unit p k.process (frames k.own) k.asks q l a z k.own is)

  pub pick : (ks : Pending) → AllRest unit s ks → Distinct ks → NotIn p ks ⊎ Picked ks
  pick [] r d = inl tt
  pick ((q, l) ∷ ks) r d = go (same-or-other p q) (pick ks r.1 d.1)
    where
      go : (p ≡ q) ⊎ (same p q ≡ false) → NotIn p ks ⊎ Picked ks → NotIn p ((q, l) ∷ ks) ⊎ Picked ((q, l) ∷ ks)
      go (inl e) k = inr (first_picked q l ks r.0 r.1 d.1 d.0 (sym e))
      go (inr m) (inl n) = inl (m, n)
      go (inr m) (inr k) = inr (later_picked q l ks r.0 m d.0 k)

-- ---- the invariant

pub same_but_more : (more : ℕ) (s : Processes) → SameButTurns s (with_more more s)
same_but_more more s = record { live = refl; store = refl; system = refl }

-- two states that differ in their turns alone have the same with more turns
pub same_with : (s t : Processes) (m n : ℕ) → SameButTurns s t → t.world.turns + m ≡ s.world.turns + n → with_more m t ≡ with_more n s
same_with s t m n e h =
    ap (λ live. record { live = live; world = record { store = t.world.store; system = t.world.system; turns = t.world.turns + m } }) e.live
    ∙ ap (λ store. record { live = s.live; world = record { store = store; system = t.world.system; turns = t.world.turns + m } }) e.store
    ∙ ap (λ system. record { live = s.live; world = record { store = s.world.store; system = system; turns = t.world.turns + m } }) e.system
    ∙ ap (λ turns. record { live = s.live; world = record { store = s.world.store; system = s.world.system; turns = turns } }) h

module _ (unit : ProgramUnit) (system : State) (es : List Ending) (V : Type 0) (Covers : V → Processes → List Name → Type 0) (Has : ℕ → V → Type 0) where
  -- the search has something that covers this
  pub record Held (n : ℕ) (S : Processes) (names : List Name) : Type 0 where
    pub by : V
    pub has_it : Has n by
    pub covers : Covers by S names

  -- some processes are inside their stints
  pub record Regular (n : ℕ) (s : Processes) : Type 0 where
    pub state : Processes
    pub pending : Pending
    pub shifted : Shifted unit pending s state
    pub rests : AllRest unit s pending
    pub distinct : Distinct pending
    pub reached : Reached unit system state
    pub names : List Name
    pub held : Held n state names
    pub each : Each (May state.live) names

  -- one is alone, and inside its stint in both
  pub record Alone (n : ℕ) (s : Processes) : Type 0 where
    pub who : Name
    pub alone : IsAlone s who
    pub ready : IsReady s who
    pub state : Processes
    pub shifted : Shifted unit [] s state
    pub reached : Reached unit system state
    pub others : List Name
    pub each : Each (May state.live) (who ∷ others)
    pub told : (m i : ℕ) (e : Ending) (shown : List ℕ) → stint unit i (with_more m state) who ≡ over e shown → IsCutOrTold (endings es) e shown
    pub leads : (m i : ℕ) (t : Processes) (joined : List Name) → stint unit i (with_more m state) who ≡ behind t joined false → Held n t (others ++ joined)

  abbrev pub Invariant : ℕ → Processes → Type 0
  Invariant n s = Regular n s ⊎ Alone n s

  -- ---- a step of one that is inside its stint

  module _ (n : ℕ) (s t : Processes) (p : Name) (next : Next) (quiet : Bool) (rs : Reached unit system s) (runs : Runs s p) (e : step unit s p ≡ went t next quiet)
      (h : Regular n s) where
    pub others_same : (q : Name) → Runs s q → same p q ≡ false → FindsSame q s t
    others_same q y m = others_find_same unit system s t p q next quiet rs runs y (apart_of unit system s p q rs runs y m) e

    module _ (k : Picked unit system s p rs runs h.pending) where
      inner_pending : (x : Process) (own : List Instance) (m : ℕ) → IsBut p x own s t → Rest unit p m t k.last → Regular n t
      inner_pending x own m but rest = record {
        state = h.state;
        pending = (p, k.last) ∷ k.others;
        shifted = record {
          live = λ r. h.shifted.live r ∙ k.live r (find s.live r) ∙ ap (all_live unit k.others r) (sym (told_live unit p k.last x own s t but r));
          store = λ r. h.shifted.store r ∙ k.store r (instances s.world.store r) ∙ ap (all_store unit k.others r) (sym (told_store unit p k.last x own s t but r));
          system = h.shifted.system ∙ but.system;
        };
        rests = ((m, rest), all_kept unit p s t k.others others_same k.away k.rests);
        distinct = (k.away, k.distinct);
        reached = h.reached;
        names = h.names;
        held = h.held;
        each = h.each;
      }

      inner_by : (m : ℕ) (r : Inner unit p s (λ u. Rest unit p m u k.last)) → GoesAlone unit p r.keep.after r.keep.own r.keep.next r.keep.quiet r.keep.taken s ⊎ IsSpent unit p s → Regular n t
      inner_by m r (inl g) =
          let but : IsBut p r.keep.after r.keep.own s t = subst (IsBut p r.keep.after r.keep.own s) (went_state g.0 t r.keep.next next r.keep.quiet quiet (sym g.1 ∙ e)) g.2 in
          inner_pending r.keep.after r.keep.own m but
          (rest_kept unit p m r.after t k.last
          (both_but unit p r.keep.after r.keep.own s s r.after t (record { process = refl; own = refl; frames = λ z o. refl; references = λ z d k o. refl }) r.but but) r.more)
      inner_by m r (inr g) = absurd (not_ended t next quiet outcome.turns g.0 g.1 (sym e ∙ g.2))

      last_pending : (a : AtLast unit p s k.last) (c : Asks) (w : World) → Took unit s p k.last.process c w t next quiet → c ≡ k.last.asks → w.store ≡ s.world.store →
          w.system ≡ s.world.system → Regular n t
      last_pending a c w took asks store system' = record {
        state = h.state;
        pending = k.others;
        shifted = record {
          live = λ r. h.shifted.live r ∙ k.live r (find s.live r) ∙ ap (all_live unit k.others r) (sym (live r));
          store = λ r. h.shifted.store r ∙ k.store r (instances s.world.store r) ∙ ap (all_store unit k.others r) (sym (stores r));
          system = h.shifted.system ∙ sym system' ∙ sym took.results.system;
        };
        rests = all_kept unit p s t k.others others_same k.away k.rests;
        distinct = k.distinct;
        reached = h.reached;
        names = h.names;
        held = h.held;
        each = h.each;
      }
        where
          fs : shape w.store p ≡ frames k.last.own
          fs = ap (λ z. shape z p) store ∙ ap frames a.own

          live : (r : Name) → find t.live r ≡ live_of unit p k.last r (find s.live r)
          live r =
              took.results.live r ∙ ap (λ z. live_effect unit p k.last.process z c r (find s.live r)) fs
              ∙ ap (λ z. live_effect unit p k.last.process (frames k.last.own) z r (find s.live r)) asks

          own_is : (r : Name) (b : Bool) → same r p ≡ b → instances s.world.store r ≡ (if b then k.last.own else instances s.world.store r)
          own_is r true i = ap (instances s.world.store) (same-equal r p i) ∙ a.own
          own_is r false i = refl

          stores : (r : Name) → instances t.world.store r ≡ store_of unit p k.last r (instances s.world.store r)
          stores r =
              took.results.store r ∙ ap (λ z. store_effect unit p k.last.process z c r (instances w.store r)) fs
              ∙ ap (λ z. store_effect unit p k.last.process (frames k.last.own) z r (instances w.store r)) asks
              ∙ ap (λ z. store_effect unit p k.last.process (frames k.last.own) k.last.asks r (instances z r)) store
              ∙ ap (store_effect unit p k.last.process (frames k.last.own) k.last.asks r) (own_is r (same r p) refl)

      last_by : AtLast unit p s k.last → Regular n t
      last_by a =
          let y : IsReady s p = record { process = k.last.process; found = a.found; standing = a.standing } in
          let g : (c : Asks) × (w : World) × Took unit s p k.last.process c w t next quiet = took unit s p k.last.process a.found t next quiet e in
          let local : work_step unit p k.last.process.size k.last.process.work s.world ≡ gives g.0 g.1 = sym (ready_local unit s p y s.world) ∙ g.2.local in
          let asks : g.0 ≡ k.last.asks = last_asks unit p k.last.process.size k.last.process.work k.last.asks a.last s.world g.0 g.1 local in
          go g.0 g.1 g.2 asks (asks_so unit p k.last.process.size k.last.process.work s.world g.0 g.1 local)
        where
          go : (c : Asks) (w : World) → Took unit s p k.last.process c w t next quiet → c ≡ k.last.asks → AsksSo k.last.process.work s.world c w → Regular n t
          go c w took asks (inl o) = absurd (last_plain k.last.process.work k.last.asks a.last (subst IsOnward asks o))
          go c w took asks (inr l) = last_pending a c w took asks l.1 l.2

      pub pending_step : Regular n t
      pending_step = by k.count k.rest
        where
          by : (m : ℕ) → Rest unit p m s k.last → Regular n t
          by zero r = last_by r
          by (suc m) r = inner_by m r (r.keep.either s (record { process = refl; own = refl; frames = λ z o. refl; references = λ z d k o. refl }))
