-- FROM STINTS TO ALL ORDERS OF STEPS: the invariant along an order.
use Rattle.std.proofs.Common.{◌≡◌, ℕ, zero, suc, ◌≤◌, ◌⊎◌, inl, inr, Bool, true, false, if◌then◌else◌, List, [], ◌∷◌, length, refl, sym, ap, subst, ◌∙◌, arith}
use Rattle.std.specs.Prelude.{Contains}
use Rattle.edi_calls.specs.Names.{Name}
use Rattle.edi_calls.specs.Outcome as outcome
use Rattle.edi_calls.specs.Outcome.{Ending}
use Rattle.edi_calls.specs.Ready.{Next}
use Rattle.edi_calls.specs.State.{State, Traced}
use Rattle.edi_unit.specs.Tree.{ProgramUnit}
use Rattle.edi_meaning.specs.Step.{Processes, Stepped, went, ended, step, start}
use Rattle.edi_meaning.specs.Permitted.{may_step, at, over, nowhere, onward, permitted}
use Rattle.edi_meaning.proofs.Permitted.{start_may, start_all}
use Rattle.edi_disjoint.specs.steps.Inner.{InnerStepsKeep}
use Rattle.edi_disjoint.proofs.steps.Leading.{same_state}
use Rattle.edi_explored.specs.Covered.{CannotGo, endings, Followed, BeginsWith}
use Rattle.edi_orders.specs.Orders.{EndsBySteps, AreCalm, Completes, StintsAreEnough}
use Rattle.edi_orders.proofs.Beginning.{marked_step, beginning_step}
use Rattle.edi_orders.proofs.Ending.{Judged, regular_ends, alone_ends, alone_step, stands}
use Rattle.edi_orders.proofs.FirstEnds.{done_is_first}
use Rattle.edi_orders.proofs.Pending.{NotIn}
use Rattle.edi_orders.proofs.Reaching.{Runs, runs_of, Reached, reached_step}
use Rattle.edi_orders.proofs.Reducing.{Picked, pick, Regular, Alone, Invariant, pending_step}
use Rattle.edi_orders.proofs.Running.{ready_unmarked}

same_end : (d e : Ending) (rest end : Traced) (left turns : ℕ) → over d rest left ≡ over e end turns → d ≡ e
same_end d e rest end left turns g = cc

module _ (unit : ProgramUnit) (system : State) (es : List Ending) (V : Type 0) (Covers : V → Processes → List Name → Type 0) (Has : ℕ → V → Type 0)
    (f : Followed unit (endings es) V Covers Has) (calm : AreCalm es) (complete : Completes unit V Covers Has) (inner : InnerStepsKeep unit system) where
  -- the invariant, with at least so many stints still to go
  record Within (m : ℕ) (s : Processes) : Type 0 where
    count : ℕ
    enough : m ≤ count
    holds : Invariant unit system es V Covers Has count s

  module _ (s : Processes) (p : Name) (rs : Reached unit system s) (may : may_step s p ≡ true) where
    abbrev runs : Runs s p
    runs = runs_of s p may

    -- ---- a step that goes on

    module _ (m : ℕ) (t : Processes) (next : Next) where
      begun : (n : ℕ) (quiet : Bool) → step unit s p ≡ went t next quiet → m ≤ n → (h : Regular unit system es V Covers Has (suc n) s) → NotIn p h.pending → Within m t
      begun n true e le h away = record {
        count = suc n;
        enough = omega (arith, le);
        holds = inl (marked_step unit system es V Covers Has f calm complete inner (done_is_first unit system) n s t p next rs runs h away e);
      }
      begun n false e le h away = record {
        count = n;
        enough = le;
        holds = beginning_step unit system es V Covers Has f calm complete inner (done_is_first unit system) n s t p next rs runs h away e;
      }

      regular_on : (n : ℕ) (quiet : Bool) → step unit s p ≡ went t next quiet → m ≤ n → Regular unit system es V Covers Has (suc n) s → Within m t
      regular_on n quiet e le h = go (pick unit system s p rs runs h.pending h.rests h.distinct)
        where
          go : NotIn p h.pending ⊎ Picked unit system s p rs runs h.pending → Within m t
          go (inl away) = begun n quiet e le h away
          go (inr k) = record {
            count = suc n;
            enough = omega (arith, le);
            holds = inl (pending_step unit system es V Covers Has (suc n) s t p next quiet rs runs e h k);
          }

      alone_on : (n : ℕ) (quiet : Bool) → step unit s p ≡ went t next quiet → m ≤ n → Alone unit system es V Covers Has n s → Within m t
      alone_on n quiet e le h =
          let here : step unit s h.who ≡ went t next quiet = subst (λ q. step unit s q ≡ went t next quiet) (h.alone p may) e in
          let plain : step unit s h.who ≡ went t next false = here ∙ ap (went t next) (ready_unmarked unit s h.who h.ready t next quiet here) in
          record { count = n; enough = le; holds = alone_step unit system es V Covers Has f calm n s rs h t next plain }

      step_within : (quiet : Bool) → step unit s p ≡ went t next quiet → Within (suc m) s → Within m t
      step_within quiet e w = go w.count w.enough w.holds
        where
          go : (n : ℕ) → suc m ≤ n → Invariant unit system es V Covers Has n s → Within m t
          go zero le h = absurd (omega (arith, le))
          go (suc n) le (inl h) = regular_on n quiet e (omega (arith, le)) h
          go (suc n) le (inr h) = alone_on (suc n) quiet e (omega (arith, le)) h

    -- ---- a step that ends the program

    ends_within : (m : ℕ) (e : Ending) (rest : Traced) (left : ℕ) → step unit s p ≡ ended e rest left → Within (suc m) s → Judged unit system es V Covers Has f calm e
    ends_within m e rest left g w = go w.count w.enough w.holds
      where
        go : (n : ℕ) → suc m ≤ n → Invariant unit system es V Covers Has n s → Judged unit system es V Covers Has f calm e
        go zero le h = absurd (omega (arith, le))
        go (suc n) le (inl h) = regular_ends unit system es V Covers Has f calm n s p rs runs e rest left g h
        go (suc n) le (inr h) =
            alone_ends unit system es V Covers Has f calm (suc n) s rs h e rest left (subst (λ q. step unit s q ≡ ended e rest left) (h.alone p may) g)

  -- ---- along an order

  abbrev OverWalk : List Name → Type 0
  OverWalk names =
      (s : Processes) → Reached unit system s → Within (suc (length names)) s → (e : Ending) (end : Traced) (turns : ℕ) → permitted unit names s ≡ over e end turns →
      Judged unit system es V Covers Has f calm e

  over_next : (p : Name) (ps : List Name) → OverWalk ps → OverWalk (p ∷ ps)
  over_next p ps rest s rs w e end turns h = go (may_step s p) refl (step unit s p) refl ps refl h
    where
      go : (b : Bool) → may_step s p ≡ b → (x : Stepped) → step unit s p ≡ x → (qs : List Name) → qs ≡ ps →
          (if b then onward x qs (permitted unit ps) else nowhere) ≡ over e end turns → Judged unit system es V Covers Has f calm e
      go false may x g qs is k = absurd (cc)
      go true may (went t next quiet) g qs is k =
          rest t (reached_step unit system s t p next quiet rs may g) (step_within s p rs may (suc (length ps)) t next quiet g w) e end turns k
      go true may (ended d other left) g [] is k =
          subst (Judged unit system es V Covers Has f calm) (same_end d e other end left turns k) (ends_within s p rs may (suc (length ps)) d other left g w)
      go true may (ended d other left) g (q ∷ qs) is k = absurd (cc)

  over_walk : (names : List Name) → OverWalk names
  over_walk [] s rs w e end turns h = absurd (cc)
  over_walk (p ∷ ps) s rs w e end turns h = over_next p ps (over_walk ps) s rs w e end turns h

  abbrev StandWalk : List Name → Type 0
  StandWalk names =
      (s : Processes) → Reached unit system s → Within (suc (length names)) s → (z : Processes) → permitted unit names s ≡ at z →
      ((p : Name) → may_step z p ≡ true → CannotGo unit z p) → Contains es outcome.standstill

  stand_here : (s : Processes) → Reached unit system s → Within 1 s → ((p : Name) → may_step s p ≡ true → CannotGo unit s p) → Contains es outcome.standstill
  stand_here s rs w idle = go w.count w.enough w.holds
    where
      go : (n : ℕ) → 1 ≤ n → Invariant unit system es V Covers Has n s → Contains es outcome.standstill
      go zero le h = absurd (omega (arith, le))
      go (suc n) le h = stands unit system es V Covers Has f calm n s rs idle h

  stand_next : (p : Name) (ps : List Name) → StandWalk ps → StandWalk (p ∷ ps)
  stand_next p ps rest s rs w z h idle = go (may_step s p) refl (step unit s p) refl ps refl h
    where
      go : (b : Bool) → may_step s p ≡ b → (x : Stepped) → step unit s p ≡ x → (qs : List Name) → qs ≡ ps →
          (if b then onward x qs (permitted unit ps) else nowhere) ≡ at z → Contains es outcome.standstill
      go false may x g qs is k = absurd (cc)
      go true may (went t next quiet) g qs is k =
          rest t (reached_step unit system s t p next quiet rs may g) (step_within s p rs may (suc (length ps)) t next quiet g w) z k idle
      go true may (ended d other left) g [] is k = absurd (cc)
      go true may (ended d other left) g (q ∷ qs) is k = absurd (cc)

  stand_walk : (names : List Name) → StandWalk names
  stand_walk [] s rs w z h idle = stand_here s rs w (subst (λ y. (p : Name) → may_step y p ≡ true → CannotGo unit y p) (sym (same_state s z h)) idle)
  stand_walk (p ∷ ps) s rs w z h idle = stand_next p ps (stand_walk ps) s rs w z h idle

  -- ---- from the start

  module _ (v : V) (begins : BeginsWith unit system V Covers v) (has_all : (n : ℕ) → Has n v) (bound : ℕ) where
    first_reached : Reached unit system (start unit system bound)
    first_reached = record { bound = bound; order = []; comes = refl }

    first_within : (n : ℕ) → Within n (start unit system bound)
    first_within n = record {
      count = n;
      enough = omega arith;
      holds = inl (record {
        state = start unit system bound;
        pending = [];
        shifted = record { live = λ r. refl; store = λ r. refl; system = refl };
        rests = tt;
        distinct = tt;
        reached = first_reached;
        names = [] ∷ [];
        held = record { by = v; has_it = has_all n; covers = begins bound };
        each = record { once = (refl, tt); holds = start_may unit system bound; all = start_all unit system bound };
      });
    }

    judged_all : (order : List Name) (ending : Ending) → EndsBySteps unit system bound order ending → Judged unit system es V Covers Has f calm ending
    judged_all order outcome.standstill (z, comes, idle) =
        inl (inr (stand_walk order (start unit system bound) first_reached (first_within (suc (length order))) z comes idle))
    judged_all order outcome.done (end, turns, comes) =
        over_walk order (start unit system bound) first_reached (first_within (suc (length order))) outcome.done end turns comes
    judged_all order (outcome.halted line) (end, turns, comes) =
        over_walk order (start unit system bound) first_reached (first_within (suc (length order))) (outcome.halted line) end turns comes
    judged_all order (outcome.failed c line) (end, turns, comes) =
        over_walk order (start unit system bound) first_reached (first_within (suc (length order))) (outcome.failed c line) end turns comes
    judged_all order outcome.turns (end, turns, comes) = inl (inl refl)
    judged_all order (outcome.bad address) (end, turns, comes) =
        over_walk order (start unit system bound) first_reached (first_within (suc (length order))) (outcome.bad address) end turns comes

pub stints_are_enough : (V : Type 0) (Covers : V → Processes → List Name → Type 0) (Has : ℕ → V → Type 0) → StintsAreEnough V Covers Has
stints_are_enough V Covers Has unit system es v f begins has_all complete calm inner bound order ending ends =
    judged_all unit system es V Covers Has f calm complete inner v begins has_all bound order ending ends
