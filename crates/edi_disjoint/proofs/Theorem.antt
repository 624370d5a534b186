-- The exchange theorem.
use Rattle.std.proofs.Common.{◌≡◌, ℕ, ◌<◌, ◌⊎◌, inl, inr, Bool, true, false, if◌then◌else◌, List, [], ◌∷◌, length, Some, refl, sym, subst, ap, ◌∙◌, arith}
use Rattle.edi_calls.specs.Names.{Name, same, find}
use Rattle.edi_calls.proofs.Names.{some_is}
use Rattle.edi_calls.proofs.Tables.{same-or-other, same-symmetric}
use Rattle.edi_unit.specs.Fits.{Fits}
use Rattle.edi_unit.specs.Tree.{ProgramUnit}
use Rattle.edi_meaning.specs.Store.{instances, shape, Owns}
use Rattle.edi_meaning.specs.Evaluation.{World, Evaluation, gives, ends}
use Rattle.edi_meaning.specs.Step.{Asks, Process, Processes, Stepped, went, ended, local_step, kernel, step_of, step}
use Rattle.edi_meaning.specs.Permitted.{is_running, Led, at, nowhere}
use Rattle.edi_meaning.specs.Permitted.{may_step, onward, permitted}
use Rattle.edi_meaning.specs.Laws.{IsWaiting}
use Rattle.edi_meaning.proofs.Kernel.{After, permitted_keep}
use Rattle.edi_meaning.proofs.Frames.{length-frames}
use Rattle.edi_meaning.proofs.Own.{owns_self, owns_first}
use Rattle.edi_meaning.proofs.Parents.{waiting_does_not_run}
use Rattle.edi_meaning.proofs.Dangling.{owner_waits}
use Rattle.edi_meaning.proofs.Waiting.{WithFamily, step_both}
use Rattle.edi_disjoint.specs.Footprints.{CallsParameter, Disjoint}
use Rattle.edi_disjoint.specs.Exchange.{IsSame, IsReadyIn, MayStepIn, DisjointExchange, AttemptsToo}
use Rattle.edi_disjoint.proofs.Effects.{Results, results}
use Rattle.edi_disjoint.proofs.Commuting.{live_off}
use Rattle.edi_disjoint.proofs.Exchanged.{Prepared, Takes, Two, two_swap, disjoint_swap, off_child}
use Rattle.edi_disjoint.proofs.Same.{live_same, instances_same, systems, turns, not_parent}
use Rattle.edi_disjoint.proofs.SameSize.{same_size}
use Rattle.edi_disjoint.proofs.Kept.{Lawful, may_now, knows, permitted_lawful}

-- ---- a step that goes on

abbrev Went : Stepped → Processes → Type 0
Went (went u next quiet) t = u ≡ t
Went (ended ending system left) t = ⊥

-- the first of permitted steps, and the rest
first_of : (b : Bool) (x : Stepped) (names : List Name) (go : Processes → Led) (t : Processes) → (if b then onward x names go else nowhere) ≡ at t →
    (m : Processes) × Went x m × (go m ≡ at t)
first_of true (went u next quiet) names go t e = (u, refl, e)
first_of true (ended ending system left) [] go t e = absurd (cc)
first_of true (ended ending system left) (r ∷ rs) go t e = absurd (cc)
first_of false x names go t e = absurd (cc)

one_step : (unit : ProgramUnit) (p : Name) (names : List Name) (s t : Processes) → permitted unit (p ∷ names) s ≡ at t →
    (m : Processes) × Went (step unit s p) m × (permitted unit names m ≡ at t)
one_step unit p names s t e = first_of (may_step s p) (step unit s p) names (permitted unit names) t e

last_state : (unit : ProgramUnit) (s t : Processes) → permitted unit [] s ≡ at t → s ≡ t
last_state unit s t e = is e
  where
    is : at s ≡ at t → s ≡ t
    is e = cc

after_went : (K : Processes → Type 0) (x : Stepped) (m : Processes) → After K x → Went x m → K m
after_went K (went u next quiet) m k e = subst K e k
after_went K (ended ending system left) m k e = absurd e

module _ (unit : ProgramUnit) (ok : Fits unit) where
  takes : (s : Processes) (p : Name) (q : Process) (m : Processes) → find s.live p ≡ Some q → Went (step unit s p) m → (a : Asks) × (w : World) × Takes unit ok s p q a w m
  takes s p q m found e = go (local_step unit p q.size q.standing q.work s.world) refl (subst (λ x. Went (step_of unit s p x) m) found e)
    where
      go : (r : Evaluation Asks) → local_step unit p q.size q.standing q.work s.world ≡ r → Went (kernel unit s p q r) m → (a : Asks) × (w : World) × Takes unit ok s p q a w m
      go (gives a w) f e = (a, w, record { local = f; results = after_went (Results unit s p q a w) (kernel unit s p q (gives a w)) m (results unit s p q a w) e })
      go (ends ending system left) f e = absurd e

  -- what the first law says of a process that is ready
  module _ (a b : ℕ) (d : Disjoint unit a b) (s : Processes) (law : Lawful unit ok d.unnamed s) where
    prepared : (c : ℕ) (quiet : CallsParameter unit c → ⊥) (p : Name) → (p ≡ [] → ⊥) → MayStepIn s p c → Prepared unit ok c d.unnamed quiet s p
    prepared c quiet p some h =
        let runs : is_running h.process.standing ≡ true = h.runs in
        let lives : 0 < length (shape s.world.store p) = omega (arith, h.some, length-frames (instances s.world.store p)) in
        record {
          process = h.process;
          found = h.found;
          runs = runs;
          may = may_now unit ok d.unnamed s p h.process h.found runs law.coherent law.stood lives;
          knows = knows unit ok d.unnamed s p h.process h.found runs law.coherent law.stood c quiet lives h.block some;
        }

    -- who is ready beside another is not the first process
    not_root : (p q : Name) (x y : ℕ) → same p q ≡ false → MayStepIn s p x → MayStepIn s q y → p ≡ [] → ⊥
    not_root p q x y n h k e =
        let w : IsWaiting s.live p = owner_waits s.live law.coherent.family.family q p k.process k.found (same-symmetric p q n) (subst (Owns q) (sym e) (owns_first q)) in
        waiting_does_not_run h.process.standing w.number h.runs (ap (λ z. z.standing) (some_is (sym h.found ∙ w.found)) ∙ w.standing)

    two : (p q : Name) → same p q ≡ false → MayStepIn s p a → MayStepIn s q b → Two unit ok a b d s p q
    two p q n h k = record {
      one = prepared a d.first_others p (not_root p q a b n h k) h;
      other = prepared b d.second_others q (not_root q p b a (same-symmetric p q n) k h) k;
      different = n;
      family = law.coherent.family.family;
    }

  -- q is after a step of p as it was before it
  still_found : (a b : ℕ) (d : Disjoint unit a b) (s : Processes) (p q : Name) (t : Two unit ok a b d s p q) (c : Asks) (w : World) (m : Processes) →
      Takes unit ok s p t.one.process c w m → find m.live q ≡ Some t.other.process
  still_found a b d s p q t c w m k =
      k.results.live q
      ∙ live_off unit p t.one.process (shape w.store p) c q (same-symmetric p q t.different) (off_child unit ok a b d s p q t q (owns_self q))
      (not_parent unit ok b a (disjoint_swap unit a b d) s q p (two_swap unit ok a b d s p q t)) (find s.live q)
      ∙ t.other.found

  module _ (a b : ℕ) (d : Disjoint unit a b) (s : Processes) (p q : Name) (family : WithFamily s) (t : Two unit ok a b d s p q) where
    abbrev turned : Two unit ok b a (disjoint_swap unit a b d) s q p
    turned = two_swap unit ok a b d s p q t

    exchanged : (x y : Processes) → permitted unit (p ∷ q ∷ []) s ≡ at x → permitted unit (q ∷ p ∷ []) s ≡ at y → IsSame x y
    exchanged x y e f =
        let p1 : (m : Processes) × Went (step unit s p) m × (permitted unit (q ∷ []) m ≡ at x) = one_step unit p (q ∷ []) s x e in
        let q1 : (m : Processes) × Went (step unit p1.0 q) m × (permitted unit [] m ≡ at x) = one_step unit q [] p1.0 x p1.2 in
        let q2 : (m : Processes) × Went (step unit s q) m × (permitted unit (p ∷ []) m ≡ at y) = one_step unit q (p ∷ []) s y f in
        let p2 : (m : Processes) × Went (step unit q2.0 p) m × (permitted unit [] m ≡ at y) = one_step unit p [] q2.0 y q2.2 in
        let first : (c : Asks) × (w : World) × Takes unit ok s p t.one.process c w p1.0 = takes s p t.one.process p1.0 t.one.found p1.1 in
        let second : (c : Asks) × (w : World) × Takes unit ok s q t.other.process c w q2.0 = takes s q t.other.process q2.0 t.other.found q2.1 in
        let then_q : (c : Asks) × (w : World) × Takes unit ok p1.0 q t.other.process c w x =
        takes p1.0 q t.other.process x (still_found a b d s p q t first.0 first.1 p1.0 first.2) (subst (Went (step unit p1.0 q)) (last_state unit q1.0 x q1.2) q1.1) in
        let then_p : (c : Asks) × (w : World) × Takes unit ok q2.0 p t.one.process c w y =
        takes q2.0 p t.one.process y (still_found b a (disjoint_swap unit a b d) s q p turned second.0 second.1 q2.0 second.2)
        (subst (Went (step unit q2.0 p)) (last_state unit p2.0 y p2.2) p2.1) in
        let live : (r : Name) → find x.live r ≡ find y.live r =
        live_same unit ok a b d s p q t first.0 second.0 then_q.0 then_p.0 first.1 second.1 then_q.1 then_p.1 p1.0 q2.0 x y first.2 second.2 then_q.2 then_p.2 in
        record {
          live = live;
          number = same_size x.live y.live (permitted_keep unit WithFamily (step_both unit) (p ∷ q ∷ []) s x family e).family.once
              (permitted_keep unit WithFamily (step_both unit) (q ∷ p ∷ []) s y family f).family.once live;
          instances = instances_same unit ok a b d s p q t first.0 second.0 then_q.0 then_p.0 first.1 second.1 then_q.1 then_p.1 p1.0 q2.0 x y first.2 second.2
              then_q.2 then_p.2;
          system = systems unit ok a b d s p q t first.0 second.0 then_q.0 then_p.0 first.1 second.1 then_q.1 then_p.1 p1.0 q2.0 x y first.2 second.2 then_q.2 then_p.2;
          turns = turns unit ok a b d s p q t first.0 second.0 then_q.0 then_p.0 first.1 second.1 then_q.1 then_p.1 p1.0 q2.0 x y first.2 second.2 then_q.2 then_p.2;
        }

-- the steps of disjoint processes may be exchanged, attempts too
pub attempts_too : AttemptsToo
attempts_too unit ok a b d system bound order s p q e h k n one other f g =
    let law : Lawful unit ok d.unnamed s = permitted_lawful unit ok d.unnamed system bound order s e in
    go law (same-or-other p q)
  where
    go : Lawful unit ok d.unnamed s → (p ≡ q) ⊎ (same p q ≡ false) → IsSame one other
    go law (inl is) = absurd (n is)
    go law (inr m) = exchanged unit ok a b d s p q law.coherent.family (two unit ok a b d s law p q m h k) one other f g

-- who is ready may step
able : (s : Processes) (p : Name) (b : ℕ) → IsReadyIn s p b → MayStepIn s p b
able s p b h = record { process = h.process; found = h.found; runs = ap is_running h.standing; some = h.some; block = h.block }

pub disjoint_exchange : DisjointExchange
disjoint_exchange unit ok a b d system bound order s p q e h k n one other f g =
    attempts_too unit ok a b d system bound order s p q e (able s p a h) (able s q b k) n one other f g
