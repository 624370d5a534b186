-- A stretch of one process keeps the relation: the process is written back on both sides.
use Rattle.std.proofs.Common.{◌≡◌, ℕ, ◌+◌, ◌-◌, ◌<◌, ◌≤◌, ◌⊎◌, inl, inr, false, List, length, Some, sym, subst, ap, ◌∙◌, arith}
use Rattle.std.specs.Prelude.{unwrap_or}
use Rattle.edi_calls.specs.Names.{Name, Table, same, find, with_at, names}
use Rattle.edi_calls.proofs.Tables.{same-or-other, same-symmetric, find-with_at-same, find-with_at-other}
use Rattle.edi_meaning.specs.Store.{Spot, Shape, shape, frame_at, now, used, IsLive, Older, within, above}
use Rattle.edi_meaning.specs.Evaluation.{World}
use Rattle.edi_meaning.specs.Step as source
use Rattle.edi_meaning.specs.Step.{Process, Processes, waiting}
use Rattle.edi_meaning.specs.Laws.{IsWaiting}
use Rattle.edi_meaning.proofs.Dangling.{Coherent, owner_waits}
use Rattle.edi_calls.proofs.Names.{some_is}
use Rattle.edi_meaning.proofs.Parents.{names-with_at, still_waiting}
use Rattle.edi_target.specs.Memory.{word}
use Rattle.edi_target.specs.Mach.{Machine, is_first}
use Rattle.edi_follows.specs.places.Coded.{Coded, block}
use Rattle.edi_follows.specs.places.Spots.{Segments, block_at, Fine, Layout, frame_start}
use Rattle.edi_follows.specs.places.Located.{frame_of, IsAt, Agrees}
use Rattle.edi_follows.specs.places.Follows.{Stretch}
use Rattle.edi_follows.specs.places.Related.{Lives, no_process, process_in, size_in, activity, IsPlaced, Words, Related}
use Rattle.edi_follows.specs.places.Lands.{Stepping, scene}
use Rattle.edi_follows.proofs.places.Places.{tail_free, changed, start_within, roomy, control_other}
use Rattle.edi_follows.proofs.places.Located.{at_kept}

-- ---- tables of processes

pub process_same : (live : Table Process) (p : Name) (q : Process) → process_in (with_at live p q) p ≡ q
process_same live p q = ap (λ o. unwrap_or o no_process) (find-with_at-same live p q)

pub process_other : (live : Table Process) (p y : Name) (q : Process) → same y p ≡ false → process_in (with_at live p q) y ≡ process_in live y
process_other live p y q n = ap (λ o. unwrap_or o no_process) (find-with_at-other live p y q n)

-- an instance with the same frame, whose parent has the same frame
pub fine_kept : (g : Coded) (F G : Shape) (s : Spot) → G s.0 ≡ F s.0 → G (frame_at F s).parent.0 ≡ F (frame_at F s).parent.0 → Fine g F s → Fine g G s
fine_kept g F G s e f h =
    let i : frame_at G s ≡ frame_at F s = ap (λ fs. frame_of fs s.1) e in
    let k : frame_at G (frame_at F s).parent ≡ frame_at F (frame_at F s).parent = ap (λ fs. frame_of fs (frame_at F s).parent.1) f in
    record {
      known = subst (λ x. x.block < length g.unit.blocks) (sym i) h.known;
      needs = subst (λ x. x.need ≡ (block g x.block).need) (sym i) h.needs;
      parent = subst (λ x. IsLive G x.parent) (sym i) (subst (λ fs. (frame_at F s).parent.1 < length fs) (sym f) h.parent);
      older = subst (λ x. Older x.parent s) (sym i) h.older;
      up = subst (λ x. block_at g G x.parent ≡ (block g x.block).up) (sym i) (ap (λ x. x.block) k ∙ h.up);
    }

module _ (g : Coded) (s : Processes) (t : Machine) (p : Name) (q : Process) (x : Stepping g s p q) (r : Related g s t) (coherent : Coherent s)
    (w : World) (m' : List ℕ) (st : Stretch g (scene g s t p q x r) s.world.store w t.memory m') (q' : Process) (sized : q'.size ≡ q.size) where
  abbrev live' : Table Process
  live' = with_at s.live p q'

  abbrev F : Shape
  F = shape s.world.store

  abbrev G : Shape
  G = shape w.store

  abbrev lay : Layout g (Lives s.live) (IsWaiting s.live) r.first (size_in s.live) F
  lay = r.words.layout

  lives_p : Lives s.live p
  lives_p = record { process = q; found = x.found }

  lives_old : (y : Name) → Lives live' y → Lives s.live y
  lives_old y h = go (same-or-other y p)
    where
      go : (y ≡ p) ⊎ (same y p ≡ false) → Lives s.live y
      go (inl e) = subst (Lives s.live) (sym e) lives_p
      go (inr n) = record { process = h.process; found = sym (find-with_at-other s.live p y q' n) ∙ h.found }

  lives_new : (y : Name) → Lives s.live y → Lives live' y
  lives_new y h = go (same-or-other y p)
    where
      go : (y ≡ p) ⊎ (same y p ≡ false) → Lives live' y
      go (inl e) = subst (Lives live') (sym e) (record { process = q'; found = find-with_at-same s.live p q' })
      go (inr n) = record { process = h.process; found = find-with_at-other s.live p y q' n ∙ h.found }

  -- who waits is not p
  waits_other : (y : Name) → IsWaiting s.live y → same y p ≡ false
  waits_other y h = go (same-or-other y p)
    where
      go : (y ≡ p) ⊎ (same y p ≡ false) → same y p ≡ false
      go (inl e) = absurd (x.free (subst (IsWaiting s.live) e h))
      go (inr n) = n

  sizes : (y : Name) → size_in live' y ≡ size_in s.live y
  sizes y = go (same-or-other y p)
    where
      go : (y ≡ p) ⊎ (same y p ≡ false) → size_in live' y ≡ size_in s.live y
      go (inl e) = subst (λ z. size_in live' z ≡ size_in s.live z) (sym e)
          (ap (λ z. z.size) (process_same s.live p q') ∙ sized ∙ sym (ap (λ o. (unwrap_or o no_process).size) x.found))
      go (inr n) = ap (λ z. z.size) (process_other s.live p y q' n)

  segments' : Segments (Lives live') (IsWaiting live') r.first (size_in live') (λ y. used (G y))
  segments' =
      changed (Lives s.live) (Lives live') (IsWaiting s.live) (IsWaiting live') r.first (size_in s.live) (size_in live') (λ y. used (F y))
      (λ y. used (G y)) lay.segments lives_old (λ y h. sizes y) (λ y h. own y h (same-or-other y p))
      (λ y h v. (still_waiting s.live p q' y (waits_other y v) v, ap used (st.others y (waits_other y v))))
    where
      own : (y : Name) → Lives live' y → (y ≡ p) ⊎ (same y p ≡ false) → used (G y) ≤ size_in live' y
      own y h (inl e) = let a : used (G y) ≤ size_in s.live y = subst (λ z. used (G z) ≤ size_in s.live z) (sym e) st.room in omega (arith, a, sizes y)
      own y h (inr n) = omega (arith, ap used (st.others y n), lay.segments.own y (lives_old y h), sizes y)

  -- the static parent of another's instance is not p's
  parent_other : (z : Spot) → same z.0 p ≡ false → Lives s.live z.0 → Older (frame_at F z).parent z → same (frame_at F z).parent.0 p ≡ false
  parent_other z n l (within e le) = ap (λ y. same y p) e ∙ n
  parent_other z n l (above m o) =
      waits_other (frame_at F z).parent.0
      (owner_waits s.live coherent.family.family z.0 (frame_at F z).parent.0 l.process l.found (same-symmetric (frame_at F z).parent.0 z.0 m) o)

  pub layout' : Layout g (Lives live') (IsWaiting live') r.first (size_in live') G
  layout' = record {
    segments = segments';
    owner = λ z h. lives_new z.0 (owner z h (same-or-other z.0 p));
    some = λ y h. some y (lives_old y h) (same-or-other y p);
    fine = λ z h. fine z h (same-or-other z.0 p);
  }
    where
      owner : (z : Spot) → IsLive G z → (z.0 ≡ p) ⊎ (same z.0 p ≡ false) → Lives s.live z.0
      owner z h (inl e) = subst (Lives s.live) (sym e) lives_p
      owner z h (inr n) = lay.owner z (subst (λ fs. z.1 < length fs) (st.others z.0 n) h)

      some : (y : Name) → Lives s.live y → (y ≡ p) ⊎ (same y p ≡ false) → 0 < length (G y)
      some y h (inl e) = subst (λ z. 0 < length (G z)) (sym e) st.some
      some y h (inr n) = subst (λ fs. 0 < length fs) (sym (st.others y n)) (lay.some y h)

      fine : (z : Spot) → IsLive G z → (z.0 ≡ p) ⊎ (same z.0 p ≡ false) → Fine g G z
      fine z h (inl e) =
          let h' : z.1 < length (G p) = subst (λ y. z.1 < length (G y)) e h in
          let e' : z ≡ (p, z.1) = λ j. (e j, z.1) in
          subst (Fine g G) (sym e') (st.fine z.1 h')
      fine z h (inr n) =
          let old : IsLive F z = subst (λ fs. z.1 < length fs) (st.others z.0 n) h in
          let f : Fine g F z = lay.fine z old in
          fine_kept g F G z (st.others z.0 n) (st.others (frame_at F z).parent.0 (parent_other z n (lay.owner z old) f.older)) f

  -- the links of another process stay, so its work stands where it stood
  others_agree : (y : Name) → Lives s.live y → same y p ≡ false → Agrees g (r.first y) (F y) (G y) t.memory m' (length (F y) - 1)
  others_agree y l n = record {
    starts = λ e h. ap (λ fs. frame_start fs e) (st.others y n);
    framed = λ e h. ap (λ fs. frame_of fs e) (st.others y n);
    words = λ e j h k. control e j (omega (arith, lay.some y l, h)) k;
  }
    where
      control : (e j : ℕ) → e < length (F y) → j < 5 → word m' (r.first y + frame_start (F y) e + j) ≡ word t.memory (r.first y + frame_start (F y) e + j)
      control e j h k =
          st.outside (r.first y + frame_start (F y) e + j)
          (elim (tail_free (Lives s.live) (IsWaiting s.live) r.first (size_in s.live) (λ z. used (F z)) lay.segments p y x.free lives_p l
          (same-symmetric y p n)) [
            | inl a ↦ inr (omega (arith, a))
            | inr a ↦ inl (omega (arith, a, start_within (F y) e h, roomy g F (y, e) (lay.fine (y, e) h), k))
          ])
          (control_other g (Lives s.live) (IsWaiting s.live) r.first (size_in s.live) F lay (now F p) (y, e) j h k)

  -- on the side of the machine p is this activity, and nothing else has changed but memory, system and turns
  pub record Written (u : Machine) (pc : ℕ) : Type 0 where
    pub memory : u.memory ≡ m'
    pub mine : find u.activities p ≡ Some (activity g r.first G p q' pc)
    pub theirs : (y : Name) → same y p ≡ false → find u.activities y ≡ find t.activities y
    pub same_names : names u.activities ≡ names t.activities
    pub system : u.system ≡ w.system.now
    pub turns : u.turns ≡ w.turns

  module _ (u : Machine) (pc : ℕ) (b : Written u pc) (at : IsAt g (is_first p) (r.first p) (G p) m' q'.standing q'.work pc (length (G p) - 1)) where
    pub placed : (y : Name) (z : Process) → find live' y ≡ Some z → (y ≡ p) ⊎ (same y p ≡ false) → IsPlaced g r.first G m' u.activities y z
    placed y z e (inl i) =
        let one : q' ≡ z = some_is (sym (find-with_at-same s.live p q') ∙ sym (ap (find live') i) ∙ e) in
        subst (λ v. IsPlaced g r.first G m' u.activities v z) (sym i)
        (subst (IsPlaced g r.first G m' u.activities p) one (record { pc = pc; found = b.mine; at = at }))
    placed y z e (inr n) =
        let was : find s.live y ≡ Some z = sym (find-with_at-other s.live p y q' n) ∙ e in
        let old : IsPlaced g r.first F t.memory t.activities y z = r.words.each y z was in
        let same_frames : F y ≡ G y = sym (st.others y n) in
        record {
          pc = old.pc;
          found = b.theirs y n ∙ old.found ∙ ap (λ fs. Some (activity g r.first (λ _. fs) y z old.pc)) same_frames;
          at = subst (λ d. IsAt g (is_first y) (r.first y) (G y) m' z.standing z.work old.pc (d - 1)) (ap length same_frames)
              (at_kept g (is_first y) (r.first y) (F y) (G y) t.memory m' z.standing z.work old.pc (length (F y) - 1)
              (others_agree y (record { process = z; found = was }) n) old.at);
        }

    abbrev pub related_on : Related g (source.back s p q' w) u
    related_on = record {
      first = r.first;
      words = subst (λ m. Words g r.first live' w.store m u.activities) (sym b.memory) (record {
        layout = layout';
        mirrors = st.mirrors;
        typed = st.typed;
        long = st.long;
        each = λ y z e. placed y z e (same-or-other y p);
      });
      same_names = b.same_names ∙ r.same_names ∙ sym (names-with_at s.live p q' q x.found);
      system = b.system;
      turns = b.turns;
    }
