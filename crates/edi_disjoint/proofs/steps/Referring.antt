-- What `var` parameters mean stays: no step puts a value in place of a location, so it leaves what the `var` parameters of all others mean.
use Rattle.std.proofs.Common.{◌≡◌, ℕ, zero, suc, ◌-◌, ◌<◌, ◌⊎◌, inl, inr, Bool, false, true, if◌then◌else◌, List, [], ◌∷◌, take, length}
use Rattle.std.proofs.Common.{Option, Some, None, refl, sym, subst, ap, ◌∙◌}
use Rattle.std.specs.Prelude.{⊤, slice_index_or}
use Rattle.edi_calls.specs.Forks.{equal_share}
use Rattle.edi_calls.specs.Names.{Name, same, find, with_at}
use Rattle.edi_calls.specs.Ready.{Next, parent_of}
use Rattle.edi_calls.specs.State.{State}
use Rattle.edi_calls.proofs.Names.{no_some}
use Rattle.edi_calls.proofs.Tables.{same-or-other, same-symmetric}
use Rattle.edi_unit.specs.Tree.{ProgramUnit}
use Rattle.edi_meaning.specs.Store.{Spot, Instance, Store, Shape, Frame, instances}
use Rattle.edi_meaning.specs.Store.{shape, now, cell, reached, room, grown, shrunk}
use Rattle.edi_meaning.specs.Evaluation.{World, Evaluation, gives, ends, turn_from}
use Rattle.edi_meaning.specs.Whole.{instance_of}
use Rattle.edi_meaning.specs.Step.{Standing, ready, at_when, waiting, Work, program_entry, Asks, goes, arrives, again, forks, leaves, body_of, Process, Processes}
use Rattle.edi_meaning.specs.Step.{Stepped, went, ended, local_step, kernel, step_of, step, start}
use Rattle.edi_meaning.specs.Permitted.{is_running, at, permitted}
use Rattle.edi_meaning.specs.Laws.{Means, CellMeans, IsWaiting}
use Rattle.edi_meaning.proofs.Lasting.{Every, Lasting, Gives, Keeps}
use Rattle.edi_meaning.proofs.Local.{Moving, local_keeps}
use Rattle.edi_meaning.proofs.Kernel.{After, of_process, permitted_keep}
use Rattle.edi_meaning.proofs.Own.{owns_first, new_cells_fit, calls_fit, instances-same, instances-other}
use Rattle.edi_meaning.proofs.References.{Refers, slot_means, meant_means}
use Rattle.edi_meaning.proofs.Living.{Setting, refers_put}
use Rattle.edi_meaning.proofs.Due.{DueAs, due_some}
use Rattle.edi_meaning.proofs.Dangling.{Coherent, owner_waits, alone_now, step_coherent, start_coherent}
use Rattle.edi_disjoint.specs.steps.Own.{reference_at}
use Rattle.edi_disjoint.proofs.Commuting.{store_off}
use Rattle.edi_disjoint.proofs.Effects.{born_with, store_effect, Results, results}
use Rattle.edi_disjoint.proofs.FirstLaw.{KidOr, is_kid, other, kid_or}
use Rattle.edi_disjoint.proofs.steps.Stepping.{first_instance}
use Rattle.edi_disjoint.proofs.steps.Locations.{NoReference, alone_reference, References, references_of, Flat, flat_less, located_none, CellLeads, fewer_references, Holding, put_same, flat_after, entered, back}

-- ---- what a local step leaves

pub record Referred (p : Name) (before store : Store) : Type 0 where
  pub flat : Flat (references_of store)
  pub others : (r : Name) (d k : ℕ) → same r p ≡ false → references_of store r d k ≡ references_of before r d k

module _ (unit : ProgramUnit) (p : Name) (size : ℕ) where
  abbrev referring : Lasting unit p size
  referring = record {
    Level = Shape × References;
    Holds = λ x w. Holding p x.0 x.1 w.store;
    Ends = λ e system turns. ⊤;
    Comes = λ x l. Means x.0 (now x.0 p) l.spot × (x.1 l.spot.0 l.spot.1 l.variable ≡ None);
    Fits = λ x c. CellMeans x.0 (now x.0 p) c × CellLeads x.1 c;
    over = λ x e w o h. tt;
    turned = λ x n w e h. h;
    stored = λ x l v w c h. record {
      setting = h.setting;
      refers = refers_put x.0 w.store l v h.refers;
      given = put_same p x.0 x.1 w.store h l v c.1;
      flat = h.flat;
    };
    replied = λ x number asked words system w e h. h;
    called = λ x number parent cells w c f h. (
      (shape (grown p (instance_of unit p size number parent cells) w.store), references_of (grown p (instance_of unit p size number parent cells) w.store)),
      entered p x.0 x.1 w.store h unit size number parent cells c.0 f,
      λ v k. back p x.0 x.1 w.store h unit size number parent cells c.0 f v.store k,
    );
    of_slot = λ x levels variable w h. (
      slot_means unit p size x.0 w.store h.refers h.setting.some levels variable,
      located_none x.1 h.flat (reached (shape w.store) levels (now (shape w.store) p)) variable (cell w.store (reached (shape w.store) levels (now (shape w.store) p)) variable)
          (h.given (reached (shape w.store) levels (now (shape w.store) p)).0 (reached (shape w.store) levels (now (shape w.store) p)).1 variable),
    );
    of_part = λ x l n c. c;
    by_value = λ x v. (tt, tt);
    by_location = λ x l c. c;
    to_location = λ x l c. c;
    by_procedure = λ x c w h. (meant_means unit p size x.0 w h.refers h.setting.some c, tt);
  }

  no_references : Every NoReference (first_instance unit p size).cells
  no_references = new_cells_fit NoReference (λ v. refl) unit p size unit.program ([], 0) _ (calls_fit NoReference (λ n. refl) unit.calls)

  -- the program is entered
  begun_referred : (before store : Store) → ((r : Name) (d k : ℕ) → references_of store r d k ≡ references_of before r d k) → Flat (references_of before) →
      Referred p before (with_at store p (first_instance unit p size ∷ []))
  begun_referred before store h flat = record {
    flat = flat_less (references_of before) _ flat (λ r d k. less r d k (same-or-other r p));
    others = others;
  }
    where
      others : (r : Name) (d k : ℕ) → same r p ≡ false → references_of (with_at store p (first_instance unit p size ∷ [])) r d k ≡ references_of before r d k
      others r d k n = ap (λ (is : List Instance). reference_at is d k) (instances-other store p r (first_instance unit p size ∷ []) n) ∙ h r d k

      less : (r : Name) (d k : ℕ) → (r ≡ p) ⊎ (same r p ≡ false) →
          (references_of (with_at store p (first_instance unit p size ∷ [])) r d k ≡ references_of before r d k)
          ⊎ (references_of (with_at store p (first_instance unit p size ∷ [])) r d k ≡ None)
      less r d k (inl e) = inr (
          ap (λ (x : Name). references_of (with_at store p (first_instance unit p size ∷ [])) x d k) e
          ∙ ap (λ (is : List Instance). reference_at is d k) (instances-same store p (first_instance unit p size ∷ []))
          ∙ alone_reference (first_instance unit p size) no_references d k)
      less r d k (inr n) = inl (others r d k n)

  module _ (before : Store) where
    shrunk_referred : (store : Store) → Holding p (shape before) (references_of before) store → Referred p before (shrunk p store)
    shrunk_referred store h = record {
      flat = flat_less (references_of before) (references_of (shrunk p store)) h.flat (λ r d k. less r d k (same-or-other r p));
      others = others;
    }
      where
        others : (r : Name) (d k : ℕ) → same r p ≡ false → references_of (shrunk p store) r d k ≡ references_of before r d k
        others r d k n = ap (λ (is : List Instance). reference_at is d k) (instances-other store p r _ n) ∙ h.given r d k

        there : (r : Name) (d k : ℕ) → r ≡ p → references_of (shrunk p store) r d k ≡ reference_at (take (length (instances store p) - 1) (instances store p)) d k
        there r d k e =
            ap (λ (x : Name). references_of (shrunk p store) x d k) e
            ∙ ap (λ (is : List Instance). reference_at is d k) (instances-same store p (take (length (instances store p) - 1) (instances store p)))

        less : (r : Name) (d k : ℕ) → (r ≡ p) ⊎ (same r p ≡ false) →
            (references_of (shrunk p store) r d k ≡ references_of before r d k) ⊎ (references_of (shrunk p store) r d k ≡ None)
        less r d k (inl e) = elim (fewer_references (length (instances store p) - 1) (instances store p) d k) [
          | inl q ↦ inl (there r d k e ∙ q ∙ h.given p d k ∙ ap (λ (x : Name). references_of before x d k) (sym e))
          | inr q ↦ inr (there r d k e ∙ q)
        ]
        less r d k (inr n) = inl (others r d k n)

    moves : Moving referring (shape before, references_of before) (λ w. Referred p before w.store)
    moves = record {
      stays = λ w h. record { flat = flat_less (references_of before) (references_of w.store) h.flat (λ r d k. inl (h.given r d k)); others = λ r d k n. h.given r d k };
      grows = λ number parent cells w c f h. record {
        flat = flat_after p (shape before) (references_of before) w.store h unit size number parent cells c.0 f;
        others = λ r d k n. ap (λ (is : List Instance). reference_at is d k) (instances-other w.store p r _ n) ∙ h.given r d k;
      };
      shrinks = λ w h. shrunk_referred w.store h;
      begins = λ w h. begun_referred before w.store h.given h.flat;
    }

  local_referred : (standing : Standing) (work : List Work) (w : World) → Setting p (shape w.store) → Refers (shape w.store) w.store → Flat (references_of w.store) →
      Keeps referring (λ a v. Referred p w.store v.store) (local_step unit p size standing work w)
  local_referred standing work w setting refers flat =
      local_keeps referring (shape w.store, references_of w.store) (λ v. Referred p w.store v.store) (moves w.store) standing work w (λ idle v h. tt)
      (record { setting = setting; refers = refers; given = λ r d k. refl; flat = flat })

-- ---- a step

after_as : (K L : Processes → Type 0) (x : Stepped) → After K x → ((t : Processes) → K t → L t) → After L x
after_as K L (went t next quiet) h f = f t h
after_as K L (ended ending system turns) h f = tt

abbrev FlatIn : Processes → Type 0
FlatIn s = Flat (references_of s.world.store)

module _ (unit : ProgramUnit) (s : Processes) (p : Name) (q : Process) (found : find s.live p ≡ Some q) (runs : is_running q.standing ≡ true) (coherent : Coherent s) where
  abbrev F : Shape
  F = shape s.world.store

  first_lives : 0 < length (F p) → 0 < length (F [])
  first_lives l = go (same-or-other [] p)
    where
      waits : IsWaiting s.live [] → 0 < length (F [])
      waits w = (subst (λ x. DueAs [] x w.process.work (length (F []))) w.standing (coherent.due [] w.process w.found)).0

      go : ([] ≡ p) ⊎ (same [] p ≡ false) → 0 < length (F [])
      go (inl e) = subst (λ r. 0 < length (F r)) (sym e) l
      go (inr n) = waits (owner_waits s.live coherent.family.family p [] q found (same-symmetric [] p n) (owns_first p))

  -- a process that runs and has an instance may evaluate
  pub setting_now : 0 < length (F p) → Setting p F
  setting_now l = record { some = l; alone = alone_now unit s p q found runs coherent; first = first_lives l }

  abbrev Kept : Evaluation Asks → Type 0
  Kept r = Gives (λ a v. Referred p s.world.store v.store) (λ ending system turns. ⊤) r

  -- what a step of p leaves
  record Left (t : Processes) : Type 0 where
    flat : FlatIn t
    others : (r : Name) (d k : ℕ) → same r p ≡ false → same (parent_of r) p ≡ false → references_of t.world.store r d k ≡ references_of s.world.store r d k

  module _ (flat : FlatIn s) where
    entry : (n : ℕ) (work : List Work) →
        Kept (turn_from n s.world (λ w. gives (goes (body_of unit unit.program work)) (record w { store = with_at w.store p (first_instance unit p q.size ∷ []) })))
    entry zero work = tt
    entry (suc n) work = begun_referred unit p q.size s.world.store s.world.store (λ r d k. refl) flat

    local : Kept (local_step unit p q.size q.standing q.work s.world)
    local = go q.standing q.work refl refl (coherent.due p q found)
      where
        living : 0 < length (F p) → Kept (local_step unit p q.size q.standing q.work s.world)
        living l = (local_referred unit p q.size q.standing q.work s.world (setting_now l) coherent.refers flat).is

        entering : (rest : List Work) → q.standing ≡ ready → q.work ≡ (program_entry ∷ rest) → Kept (local_step unit p q.size q.standing q.work s.world)
        entering rest e f =
            subst (λ x. Kept (local_step unit p q.size x q.work s.world)) (sym e)
            (subst (λ x. Kept (local_step unit p q.size ready x s.world)) (sym f) (entry s.world.turns rest))

        go : (standing : Standing) (work : List Work) → q.standing ≡ standing → q.work ≡ work → DueAs p standing work (length (F p)) →
            Kept (local_step unit p q.size q.standing q.work s.world)
        go ready work e f d = elim (due_some p work (length (F p)) d) [
          | inl l ↦ living l
          | inr k ↦ entering k.0 e (f ∙ k.1)
        ]
        go (at_when cs position) work e f d = living d.0
        go (waiting n) work e f d = living d.0

    -- the kernel takes instances away, and makes some without locations
    effect_less : (fs : List Frame) (a : Asks) (r : Name) (is : List Instance) →
        (store_effect unit p q fs a r is ≡ is) ⊎ ((d k : ℕ) → reference_at (store_effect unit p q fs a r is) d k ≡ None)
    effect_less fs (goes work) r is = inl refl
    effect_less fs (arrives cs position work) r is = inl refl
    effect_less fs (again cs position quiet work) r is = inl refl
    effect_less fs (forks bs line work) r is = go (kid_or unit p f share parent bs 0 r)
      where
        f : ℕ
        f = suc q.forks

        share : ℕ
        share = equal_share (room q.size fs) (length bs)

        parent : Spot
        parent = (p, length fs - 1)

        go : KidOr unit p f share parent bs 0 r →
            (born_with unit p f share parent bs 0 r is ≡ is) ⊎ ((d k : ℕ) → reference_at (born_with unit p f share parent bs 0 r is) d k ≡ None)
        go (is_kid h) = inr (λ d k. ap (λ (js : List Instance). reference_at js d k) (h.store is)
            ∙ alone_reference (instance_of unit r share (slice_index_or bs h.index 0) parent [])
            (new_cells_fit NoReference (λ v. refl) unit r share (slice_index_or bs h.index 0) parent [] tt) d k)
        go (other h) = inl (h.store is)
    effect_less fs leaves r is = go (same r p)
      where
        go : (b : Bool) → ((if b then [] else is) ≡ is) ⊎ ((d k : ℕ) → reference_at (if b then [] else is) d k ≡ None)
        go true = inr (λ d k. refl)
        go false = inl refl

    left_after : (a : Asks) (w : World) (t : Processes) → Referred p s.world.store w.store → Results unit s p q a w t → Left t
    left_after a w t h k = record {
      flat = flat_less (references_of w.store) (references_of t.world.store) h.flat (λ r d j. less r d j (effect_less (shape w.store p) a r (instances w.store r)));
      others = λ r d j m n. ap (λ (is : List Instance). reference_at is d j) (k.store r ∙ store_off unit p q (shape w.store p) a r m n (instances w.store r)) ∙ h.others r d j m;
    }
      where
        less : (r : Name) (d j : ℕ) →
            (store_effect unit p q (shape w.store p) a r (instances w.store r) ≡ instances w.store r)
            ⊎ ((d k : ℕ) → reference_at (store_effect unit p q (shape w.store p) a r (instances w.store r)) d k ≡ None) →
            (references_of t.world.store r d j ≡ references_of w.store r d j) ⊎ (references_of t.world.store r d j ≡ None)
        less r d j (inl e) = inl (ap (λ (is : List Instance). reference_at is d j) (k.store r ∙ e))
        less r d j (inr e) = inr (ap (λ (is : List Instance). reference_at is d j) (k.store r) ∙ e d j)

    left : After Left (kernel unit s p q (local_step unit p q.size q.standing q.work s.world))
    left = go (local_step unit p q.size q.standing q.work s.world) local
      where
        go : (r : Evaluation Asks) → Kept r → After Left (kernel unit s p q r)
        go (gives a w) h = after_as (Results unit s p q a w) Left (kernel unit s p q (gives a w)) (results unit s p q a w) (λ t k. left_after a w t h k)
        go (ends ending system turns) h = tt

-- ---- along permitted steps

module _ (unit : ProgramUnit) where
  record Told (s : Processes) : Type 0 where
    coherent : Coherent s
    flat : FlatIn s

  step_flat : (s : Processes) (p : Name) → Told s → After FlatIn (step unit s p)
  step_flat s p h = go (find s.live p) refl
    where
      of_standing : (q : Process) → find s.live p ≡ Some q → (standing : Standing) → q.standing ≡ standing →
          After FlatIn (kernel unit s p q (local_step unit p q.size q.standing q.work s.world))
      of_standing q e ready g =
          after_as (Left unit s p q e (ap is_running g) h.coherent) FlatIn _ (left unit s p q e (ap is_running g) h.coherent h.flat) (λ t k. k.flat)
      of_standing q e (at_when cs position) g =
          after_as (Left unit s p q e (ap is_running g) h.coherent) FlatIn _ (left unit s p q e (ap is_running g) h.coherent h.flat) (λ t k. k.flat)
      of_standing q e (waiting n) g = subst (λ x. After FlatIn (kernel unit s p q (local_step unit p q.size x q.work s.world))) (sym g) tt

      go : (x : Option Process) → find s.live p ≡ x → After FlatIn (step unit s p)
      go None e = subst (λ x. After FlatIn (step_of unit s p x)) (sym e) tt
      go (Some q) e = of_process unit s p q (After FlatIn) e (of_standing q e q.standing refl)

  step_told : (s : Processes) (p : Name) → Told s → After Told (step unit s p)
  step_told s p h = go (step unit s p) (step_coherent unit s p h.coherent) (step_flat s p h)
    where
      go : (x : Stepped) → After Coherent x → After FlatIn x → After Told x
      go (went t next quiet) c f = record { coherent = c; flat = f }
      go (ended ending system turns) c f = tt

  start_told : (system : State) (bound : ℕ) → Told (start unit system bound)
  start_told system bound = record { coherent = start_coherent unit system bound; flat = record { leads = λ r d k l e. absurd (no_some None refl e) } }

  permitted_told : (system : State) (bound : ℕ) (order : List Name) (s : Processes) → permitted unit order (start unit system bound) ≡ at s → Told s
  permitted_told system bound order s e = permitted_keep unit Told step_told order (start unit system bound) s (start_told system bound) e

  -- AFTER A STEP OF p the `var` parameters of each other process that is no child of it mean what they meant
  pub references_stay : (system : State) (bound : ℕ) (order : List Name) (s t : Processes) (p : Name) (q : Process) (n : Next) (quiet : Bool) →
      permitted unit order (start unit system bound) ≡ at s → find s.live p ≡ Some q → is_running q.standing ≡ true → step unit s p ≡ went t n quiet →
      (r : Name) (d k : ℕ) → same r p ≡ false → same (parent_of r) p ≡ false → reference_at (instances t.world.store r) d k ≡ reference_at (instances s.world.store r) d k
  references_stay system bound order s t p q n quiet comes found runs e = here.others
    where
      told : Told s
      told = permitted_told system bound order s comes

      here : Left unit s p q found runs told.coherent t
      here = subst (After (Left unit s p q found runs told.coherent)) (sym (ap (step_of unit s p) found) ∙ e) (left unit s p q found runs told.coherent told.flat)
