-- The rest of a stint, from the state of steps: it does what it does in the state of stints, and each of its inner steps keeps to itself.
use Rattle.std.proofs.Common.{◌≡◌, ℕ, zero, suc, ◌+◌, ◌⊎◌, inl, inr, Bool, true, false, if◌then◌else◌, List, [], ◌∷◌, ◌++◌, length, Some}
use Rattle.std.proofs.Common.{refl, sym, ap, subst, ◌∙◌, arith}
use Rattle.std.specs.Prelude.{nat_lt}
use Rattle.std.specs.List.{list_any}
use Rattle.edi_calls.specs.Forks.{most_processes, equal_share}
use Rattle.edi_calls.specs.Names.{Name, same, find}
use Rattle.edi_calls.specs.Outcome as outcome
use Rattle.edi_calls.specs.Outcome.{Ending}
use Rattle.edi_calls.specs.Ready.{Next, stays, joins}
use Rattle.edi_calls.specs.State.{State, Traced}
use Rattle.edi_calls.proofs.Names.{some_is}
use Rattle.edi_calls.proofs.Tables.{same-equal, same-or-other, find-with_at-same, find-with_at-other}
use Rattle.edi_unit.specs.Tree.{ProgramUnit}
use Rattle.edi_meaning.specs.Store.{Instance, Frame, Owns, instances, frames, shape, room}
use Rattle.edi_meaning.specs.Evaluation.{World, gives}
use Rattle.edi_meaning.specs.Step.{Standing, ready, at_when, Work, Asks, goes, arrives, again, forks, leaves, Process, Processes, Stepped, went, ended, back}
use Rattle.edi_meaning.specs.Step.{exceeds, fork_taken, local_step, work_step, kernel, step_of, step}
use Rattle.edi_meaning.specs.Permitted.{is_running, is_running_process, may_step}
use Rattle.edi_meaning.proofs.Lasting.{IsOwn}
use Rattle.edi_meaning.proofs.Own.{owns_self}
use Rattle.edi_meaning.proofs.Sound.{Each}
use Rattle.edi_meaning.proofs.Standstill.{Idle, SameBut, Marks, step_marks}
use Rattle.edi_meaning.proofs.Work.{Falls, standing_size, work_size, step_falls}
use Rattle.edi_meaning.proofs.Permitted.{May, StepSound, step_sound}
use Rattle.edi_disjoint.specs.steps.Own.{IsBut, FindsSame, GoesAlone, IsSpent, KeepsToItself, reference_at}
use Rattle.edi_disjoint.specs.steps.Inner.{IsReady, IsAlone, InnerStepsKeep}
use Rattle.edi_disjoint.specs.steps.Turns.{with_more}
use Rattle.edi_disjoint.proofs.Effects.{live_effect, store_effect}
use Rattle.edi_disjoint.proofs.steps.Differing.{Differ}
use Rattle.edi_disjoint.proofs.steps.Leading.{keeps_on}
use Rattle.edi_explored.specs.Covered.{IsCutOrTold, endings}
use Rattle.edi_explored.specs.Stint.{behind, over, stint, stint_after}
use Rattle.edi_orders.specs.Orders.{IsCalm, AreCalm, IsWhole}
use Rattle.edi_orders.proofs.Lasts.{IsLast, IsOnward, AsksSo, asks_so}
use Rattle.edi_orders.proofs.Pending.{Last, Pending, ApartAll, all_live, all_store, touched, all_untouched}
use Rattle.edi_orders.proofs.Pending.{owned_untouched, live_fixed, store_fixed, all_live_commute, all_store_commute, all_own_commute, Shifted}
use Rattle.edi_orders.proofs.Reaching.{Runs, Reached, reached_more, reached_step, coherent, first_is_alone}
use Rattle.edi_orders.proofs.Resting.{Fits, Rest, ready_runs, told_live, told_store}
use Rattle.edi_orders.proofs.Taking.{IsNext, Took, took, follow}

-- ---- small facts

stays_joins : (ps : List Name) → stays ≡ joins ps → ⊥
stays_joins ps e = absurd (cc)

-- who goes on has asked for that
pub onward_only : (c : Asks) (quiet : Bool) → IsNext c stays quiet → (work : List Work) × (c ≡ goes work)
onward_only (goes work) quiet h = (work, refl)
onward_only (arrives cs position work) quiet h = absurd (stays_joins h.0 h.1)
onward_only (again cs position failed work) quiet h = absurd (stays_joins h.0 h.1)
onward_only (forks bs line work) quiet h = absurd (stays_joins h.0 h.1)
onward_only leaves quiet h = absurd (stays_joins h.0 h.1)

onward_stays : (c : Asks) (ps : List Name) (quiet : Bool) → IsOnward c → IsNext c (joins ps) quiet → ⊥
onward_stays (goes work) ps quiet o h = stays_joins ps (sym h.0)
onward_stays (arrives cs position work) ps quiet o h = o
onward_stays (again cs position failed work) ps quiet o h = o
onward_stays (forks bs line work) ps quiet o h = o
onward_stays leaves ps quiet o h = o

pub went_state : (s t : Processes) (n m : Next) (a b : Bool) → went s n a ≡ went t m b → s ≡ t
went_state s t n m a b e = cc

pub went_next : (s t : Processes) (n m : Next) (a b : Bool) → went s n a ≡ went t m b → n ≡ m
went_next s t n m a b e = cc

pub not_ended : (s : Processes) (n : Next) (quiet : Bool) (e : Ending) (system : Traced) (turns : ℕ) → went s n quiet ≡ ended e system turns → ⊥
not_ended s n quiet e system turns h = absurd (cc)

calm_own : (e : Ending) → IsCalm e → IsOwn e → e ≡ outcome.done
calm_own outcome.done c o = refl
calm_own (outcome.halted line) c o = absurd c
calm_own (outcome.failed cause line) c o = absurd c
calm_own outcome.turns c o = absurd c
calm_own outcome.standstill c o = absurd o
calm_own (outcome.bad address) c o = absurd c

-- a fork that goes on has no branch that is too large
small : (many large : Bool) (e f : Ending) (system : Traced) (turns : ℕ) (x : Stepped) (t : Processes) (n : Next) (quiet : Bool) →
    (if many then ended e system turns else if large then ended f system turns else x) ≡ went t n quiet → large ≡ false
small true large e f system turns x t n quiet h = absurd (cc)
small false true e f system turns x t n quiet h = absurd (cc)
small false false e f system turns x t n quiet h = refl

module _ (unit : ProgramUnit) where
  fits_of : (s : Processes) (p : Name) (x : Process) (c : Asks) (w : World) (t : Processes) (n : Next) (quiet : Bool) (own : List Instance) →
      kernel unit s p x (gives c w) ≡ went t n quiet → shape w.store p ≡ frames own → Fits unit x own c
  fits_of s p x (goes work) w t n quiet own e h = tt
  fits_of s p x (arrives cs position work) w t n quiet own e h = tt
  fits_of s p x (again cs position failed work) w t n quiet own e h = tt
  fits_of s p x (forks bs line work) w t n quiet own e h =
      subst (λ (fs : List Frame). list_any (exceeds unit (equal_share (room x.size fs) (length bs))) bs ≡ false) h
      (small (nat_lt most_processes (length s.live + length bs)) (list_any (exceeds unit (equal_share (room x.size (shape w.store p)) (length bs))) bs) _ _
      w.system w.turns (fork_taken unit s p x bs work w w.turns (equal_share (room x.size (shape w.store p)) (length bs))) t n quiet e)
  fits_of s p x leaves w t n quiet own e h = tt

  -- a ready process is not marked
  pub ready_unmarked : (s : Processes) (p : Name) → IsReady s p → (t : Processes) (n : Next) (quiet : Bool) → step unit s p ≡ went t n quiet → quiet ≡ false
  ready_unmarked s p r t n false e = refl
  ready_unmarked s p r t n true e = no (subst (Marks unit s p) e (step_marks unit s p r.process r.found))
    where
      no : SameBut s t × Idle unit s.live s.world.store p → true ≡ false
      no m =
          let i : Idle unit s.live s.world.store p = m.1 in
          let same : ready ≡ at_when i.clauses i.position =
          sym r.standing ∙ ap (λ (x : Process). x.standing) (some_is (sym r.found ∙ i.found)) ∙ i.standing in
          absurd (cc)

  -- what a ready process does is a piece of its work
  pub ready_local : (s : Processes) (p : Name) (r : IsReady s p) → (w : World) → local_step unit p r.process.size r.process.standing r.process.work w ≡ work_step unit p r.process.size r.process.work w
  ready_local s p r w = ap (λ (z : Standing). local_step unit p r.process.size z r.process.work w) r.standing

-- ---- the state of stints beside the state of steps

module _ (unit : ProgramUnit) (ks : Pending) (p : Name) (apart : ApartAll p ks) (z Z : Processes) (shifted : Shifted unit ks z Z) where
  -- p finds the same in both
  pub finds_shifted : FindsSame p z Z
  finds_shifted = record {
    process = shifted.live p ∙ live_fixed unit ks p apart (find z.live p);
    own = shifted.store p ∙ store_fixed unit ks p apart p (owns_self p) (instances z.world.store p);
    frames = λ r o. ap frames (shifted.store r ∙ store_fixed unit ks p apart r o (instances z.world.store r));
    references = λ r d k o. ap (λ (is : List Instance). reference_at is d k) (shifted.store r ∙ store_fixed unit ks p apart r o (instances z.world.store r));
  }

  -- where it does the same by itself, all else stays so
  pub shifted_but : (x : Process) (own : List Instance) (a A : Processes) → IsBut p x own z a → IsBut p x own Z A → Shifted unit ks a A
  shifted_but x own a A h k = record {
    live = λ r. live r (same-or-other r p);
    store = λ r. k.store r ∙ ap (λ (is : List Instance). if same r p then own else is) (shifted.store r)
        ∙ sym (all_own_commute unit p x [] leaves ks apart r own (instances z.world.store r)) ∙ ap (all_store unit ks r) (sym (h.store r));
    system = sym k.system ∙ shifted.system ∙ h.system;
  }
    where
      live : (r : Name) → (r ≡ p) ⊎ (same r p ≡ false) → find A.live r ≡ all_live unit ks r (find a.live r)
      live r (inl e) =
          ap (find A.live) e ∙ ap (λ l. find l p) k.live ∙ find-with_at-same Z.live p x ∙ sym (live_fixed unit ks p apart (Some x))
          ∙ ap (all_live unit ks p) (sym (ap (λ l. find l p) h.live ∙ find-with_at-same z.live p x))
          ∙ ap (λ q. all_live unit ks q (find a.live q)) (sym e)
      live r (inr n) =
          ap (λ l. find l r) k.live ∙ find-with_at-other Z.live p r x n ∙ shifted.live r
          ∙ ap (all_live unit ks r) (sym (ap (λ l. find l r) h.live ∙ find-with_at-other z.live p r x n))

-- ---- the run

module _ (unit : ProgramUnit) (system : State) (es : List Ending) (calm : AreCalm es) (inner : InnerStepsKeep unit system)
    (first_ends : (s : Processes) (p : Name) (end : Traced) (turns : ℕ) → Reached unit system s → step unit s p ≡ ended outcome.done end turns → p ≡ [])
    (ks : Pending) (p : Name) (others : List Name) (apart : ApartAll p ks) where
  -- p has ended its stint in Z: in z it has this rest
  pub record Finished (j : ℕ) (z Z : Processes) : Type 0 where
    pub count : ℕ
    pub last : Last
    pub rest : Rest unit p count z last
    pub end : Processes
    pub joined : List Name
    pub is : stint unit j Z p ≡ behind end joined false
    pub shifted : Shifted unit ((p, last) ∷ ks) z end
    pub reached : Reached unit system end
    pub each : Each (May end.live) (others ++ joined)

  abbrev Told : Processes → Type 0
  Told Z = (i : ℕ) (e : Ending) (shown : List ℕ) → stint unit i Z p ≡ over e shown → IsCutOrTold (endings es) e shown

  abbrev Runs' : ℕ → Type 0
  Runs' j =
      (z Z : Processes) → Reached unit system z → Reached unit system Z → IsReady z p → Shifted unit ks z Z → Each (May Z.live) (p ∷ others) →
      IsWhole (stint unit j Z p) → Told Z → Finished j z Z ⊎ IsAlone z p

  module _ (j : ℕ) (z Z : Processes) (rz : Reached unit system z) (rZ : Reached unit system Z) (ready_z : IsReady z p) (shifted : Shifted unit ks z Z)
      (each : Each (May Z.live) (p ∷ others)) (told : Told Z) where
    abbrev x : Process
    x = ready_z.process

    same_found : FindsSame p z Z
    same_found = finds_shifted unit ks p apart z Z shifted

    there : find Z.live p ≡ Some x
    there = same_found.process ∙ ready_z.found

    ready_Z : IsReady Z p
    ready_Z = record { process = x; found = there; standing = ready_z.standing }

    sound : StepSound p others (step unit Z p)
    sound = step_sound unit Z p x others there (coherent unit system Z rZ).family.proper.fresh each

    may_Z : may_step Z p ≡ true
    may_Z = ap is_running_process there ∙ ap is_running ready_z.standing

    -- ---- the stint ends the program

    over_alone : (e : Ending) (end : Traced) (turns : ℕ) → step unit Z p ≡ ended e end turns → (e ≡ outcome.turns → ⊥) → IsAlone z p
    over_alone e end turns f some =
        go (told 1 e end.now.shown (ap (stint_after (λ t. stint unit 0 t p)) f))
        (subst (Falls (standing_size x.standing + work_size x.work) Z.world.turns p) f (step_falls unit Z p x there))
      where
        first : p ≡ [] → IsAlone z p
        first is = subst (IsAlone z) (sym is) (first_is_alone unit system z rz (subst (Runs z) is (ready_runs z p ready_z)))

        go : IsCutOrTold (endings es) e end.now.shown → IsOwn e → IsAlone z p
        go (inl h) own = absurd (some h)
        go (inr h) own = first (first_ends Z p end turns rZ (f ∙ ap (λ d. ended d end turns) (calm_own e (calm e h) own)))

    -- ---- its last step

    module _ (Z1 : Processes) (ps : List Name) (f : step unit Z p ≡ went Z1 (joins ps) false) (c : Asks) (w : World) (k : Took unit Z p x c w Z1 (joins ps) false) where
      abbrev own : List Instance
      own = instances z.world.store p

      abbrev last : Last
      last = record { process = x; own = own; asks = c }

      last_asked : IsLast x.work c × (w.store ≡ Z.world.store) × (w.system ≡ Z.world.system)
      last_asked = go (asks_so unit p x.size x.work Z.world c w (sym (ready_local unit z p ready_z Z.world) ∙ k.local))
        where
          go : AsksSo x.work Z.world c w → IsLast x.work c × (w.store ≡ Z.world.store) × (w.system ≡ Z.world.system)
          go (inl o) = absurd (onward_stays c ps false o k.next)
          go (inr h) = h

      own_frames : shape w.store p ≡ frames own
      own_frames = ap (λ s. shape s p) last_asked.1 ∙ ap frames same_found.own

      own_is : (r : Name) (b : Bool) → same r p ≡ b → instances z.world.store r ≡ (if b then own else instances z.world.store r)
      own_is r true e = ap (instances z.world.store) (same-equal r p e)
      own_is r false e = refl

      last_finished : Finished (suc j) z Z
      last_finished = record {
        count = 0;
        last = last;
        rest = record { found = ready_z.found; standing = ready_z.standing; own = refl; last = last_asked.0; fits = fits_of unit Z p x c w Z1 (joins ps) false own k.on own_frames };
        end = Z1;
        joined = ps;
        is = ap (stint_after (λ t. stint unit j t p)) f;
        shifted = record {
          live = λ r. k.results.live r ∙ ap (λ fs. live_effect unit p x fs c r (find Z.live r)) own_frames ∙ ap (live_effect unit p x (frames own) c r) (shifted.live r)
              ∙ sym (all_live_commute unit p x (frames own) c ks apart r (find z.live r));
          store = λ r. k.results.store r ∙ ap (λ fs. store_effect unit p x fs c r (instances w.store r)) own_frames
              ∙ ap (λ s. store_effect unit p x (frames own) c r (instances s r)) last_asked.1
              ∙ ap (store_effect unit p x (frames own) c r) (shifted.store r)
              ∙ sym (all_store_commute unit p x (frames own) c ks apart r (instances z.world.store r))
              ∙ ap (λ is. all_store unit ks r (store_effect unit p x (frames own) c r is)) (own_is r (same r p) refl);
          system = k.results.system ∙ last_asked.2 ∙ shifted.system;
        };
        reached = reached_step unit system Z Z1 p (joins ps) false rZ may_Z f;
        each = (subst (StepSound p others) f sound).1;
      }

    -- ---- an inner step

    abbrev zz : Processes
    zz = with_more Z.world.turns z

    abbrev change : Name → List Instance → List Instance
    change r is = if touched unit ks r then instances z.world.store r else is

    unchanged : (r : Name) → Owns p r → (is : List Instance) → change r is ≡ is
    unchanged r o is = ap (λ b. if b then instances z.world.store r else is) (owned_untouched unit ks p apart r o)

    changed : (r : Name) → instances zz.world.store r ≡ change r (instances Z.world.store r)
    changed r = go (touched unit ks r) refl
      where
        go : (b : Bool) → touched unit ks r ≡ b → instances z.world.store r ≡ (if b then instances z.world.store r else instances Z.world.store r)
        go true e = refl
        go false e = sym (shifted.store r ∙ all_untouched unit ks r e (instances z.world.store r))

    module _ (Z1 : Processes) (f : step unit Z p ≡ went Z1 stays false) (work : List Work) (w : World)
        (local : local_step unit p x.size x.standing x.work Z.world ≡ gives (goes work) w) (next : Runs' j) (whole : IsWhole (stint unit (suc j) Z p)) where
      followed : (u : World) × (local_step unit p x.size x.standing x.work zz.world ≡ gives (goes work) u)
          × Differ unit p x.size z.world.turns change unchanged w u
      followed =
          follow unit p x change unchanged z.world.turns Z zz (coherent unit system Z rZ).family.proper.owned there ready_z.found changed shifted.system (omega arith)
          (goes work) w local

      abbrev x1 : Process
      x1 = record x { work = work; standing = ready }

      abbrev z1 : Processes
      z1 = back zz p x1 followed.0

      steps : step unit zz p ≡ went z1 stays false
      steps = ap (step_of unit zz p) ready_z.found ∙ ap (kernel unit zz p x) followed.1

      reached_zz : Reached unit system zz
      reached_zz = reached_more unit system z Z.world.turns rz

      may_zz : may_step zz p ≡ true
      may_zz = ap is_running_process ready_z.found ∙ ap is_running ready_z.standing

      reached_z1 : Reached unit system z1
      reached_z1 = reached_step unit system zz z1 p stays false reached_zz may_zz steps

      module _ (k : KeepsToItself unit zz p) where
        zz_same : FindsSame p zz z
        zz_same = record { process = refl; own = refl; frames = λ r o. refl; references = λ r d k o. refl }

        abbrev kz : KeepsToItself unit z p
        kz = keeps_on unit zz z p k zz_same

        alone_is : (s t : Processes) → step unit s p ≡ went t stays false → GoesAlone unit p k.after k.own k.next k.quiet k.taken s ⊎ IsSpent unit p s →
            IsBut p k.after k.own s t × (k.next ≡ stays)
        alone_is s t e (inl g) =
            (subst (IsBut p k.after k.own s) (went_state g.0 t k.next stays k.quiet false (sym g.1 ∙ e)) g.2, went_next g.0 t k.next stays k.quiet false (sym g.1 ∙ e))
        alone_is s t e (inr g) = absurd (not_ended t stays false outcome.turns g.0 g.1 (sym e ∙ g.2))

        in_z : IsBut p k.after k.own zz z1 × (k.next ≡ stays)
        in_z = alone_is zz z1 steps (k.either zz (record { process = refl; own = refl; frames = λ r o. refl; references = λ r d k o. refl }))

        in_Z : IsBut p k.after k.own Z Z1 × (k.next ≡ stays)
        in_Z = alone_is Z Z1 f (kz.either Z same_found)

        but_z : IsBut p k.after k.own z z1
        but_z = record { live = in_z.0.live; store = in_z.0.store; system = in_z.0.system }

        shifted_1 : Shifted unit ks z1 Z1
        shifted_1 = shifted_but unit ks p apart z Z shifted k.after k.own z1 Z1 but_z in_Z.0

        back_to : (r : Name) → (same r p ≡ false) → find z1.live r ≡ find z.live r
        back_to r n = find-with_at-other z.live p r x1 n

        shifted_back : (l : Last) (end : Processes) → Shifted unit ((p, l) ∷ ks) z1 end → Shifted unit ((p, l) ∷ ks) z end
        shifted_back l end h = record {
          live = λ r. h.live r ∙ ap (all_live unit ks r) (told_live unit p l k.after k.own z z1 but_z r);
          store = λ r. h.store r ∙ ap (all_store unit ks r) (told_store unit p l k.after k.own z z1 but_z r);
          system = h.system ∙ sym but_z.system;
        }

        alone_back : IsAlone z1 p → IsAlone z p
        alone_back a q may = go (same-or-other q p)
          where
            go : (q ≡ p) ⊎ (same q p ≡ false) → q ≡ p
            go (inl e) = e
            go (inr n) = a q (ap is_running_process (back_to q n) ∙ may)

        further : Finished j z1 Z1 ⊎ IsAlone z1 p → Finished (suc j) z Z ⊎ IsAlone z p
        further (inr a) = inr (alone_back a)
        further (inl h) = inl (record {
          count = suc h.count;
          last = h.last;
          rest = record {
            keep = kz;
            on = in_z.1;
            standing = ap (λ (y : Process). y.standing) (some_is (sym k.found ∙ ready_z.found)) ∙ ready_z.standing;
            after = z1;
            but = but_z;
            more = h.rest;
          };
          end = h.end;
          joined = h.joined;
          is = ap (stint_after (λ t. stint unit j t p)) f ∙ h.is;
          shifted = shifted_back h.last h.end h.shifted;
          reached = h.reached;
          each = h.each;
        })

        on : Finished (suc j) z Z ⊎ IsAlone z p
        on =
            further (next z1 Z1 reached_z1 (reached_step unit system Z Z1 p stays false rZ may_Z f)
            (record { process = x1; found = find-with_at-same z.live p x1; standing = refl }) shifted_1 (subst (StepSound p others) f sound).1
            (subst IsWhole (ap (stint_after (λ t. stint unit j t p)) f) whole)
            (λ i e shown h. told (suc i) e shown (ap (stint_after (λ t. stint unit i t p)) f ∙ h)))

      inner_on : Finished (suc j) z Z ⊎ IsAlone z p
      inner_on = go (inner reached_zz.bound reached_zz.order zz z1 p false reached_zz.comes
          (record { process = x; found = ready_z.found; standing = ready_z.standing }) steps)
        where
          go : KeepsToItself unit zz p ⊎ IsAlone zz p → Finished (suc j) z Z ⊎ IsAlone z p
          go (inl k) = on k
          go (inr a) = inr a

    -- ---- the next step

    stepped : Runs' j → IsWhole (stint unit (suc j) Z p) → (y : Stepped) → step unit Z p ≡ y → Finished (suc j) z Z ⊎ IsAlone z p
    stepped next whole (ended e end turns) f =
        inr (over_alone e end turns f (subst IsWhole (ap (stint_after (λ t. stint unit j t p)) f) whole))
    stepped next whole (went Z1 (joins ps) quiet) f =
        let plain : step unit Z p ≡ went Z1 (joins ps) false = f ∙ ap (went Z1 (joins ps)) (ready_unmarked unit Z p ready_Z Z1 (joins ps) quiet f) in
        let k : (c : Asks) × (w : World) × Took unit Z p x c w Z1 (joins ps) false = took unit Z p x there Z1 (joins ps) false plain in
        inl (last_finished Z1 ps plain k.0 k.1 k.2)
    stepped next whole (went Z1 stays quiet) f =
        let plain : step unit Z p ≡ went Z1 stays false = f ∙ ap (went Z1 stays) (ready_unmarked unit Z p ready_Z Z1 stays quiet f) in
        let k : (c : Asks) × (w : World) × Took unit Z p x c w Z1 stays false = took unit Z p x there Z1 stays false plain in
        let o : (work : List Work) × (k.0 ≡ goes work) = onward_only k.0 false k.2.next in
        inner_on Z1 plain o.0 k.1 (k.2.local ∙ ap (λ c. gives c k.1) o.1) next whole

  pub run : (j : ℕ) → Runs' j
  run zero z Z rz rZ r h each whole told = absurd whole
  run (suc j) z Z rz rZ r h each whole told = stepped j z Z rz rZ r h each told (run j) whole (step unit Z p) refl
