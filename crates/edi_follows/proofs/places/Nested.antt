-- Segments, from what the machine keeps by itself; and what the cells of others mean where a process goes.
use Rattle.std.proofs.Common.{◌≡◌, ℕ, suc, ◌+◌, ◌<◌, ◌≤◌, ◌⊎◌, inl, inr, [], ◌∷◌, length, Option, Some, None, refl, sym, subst, ap, ◌∙◌, arith}
use Rattle.std.specs.Prelude.{unwrap_or}
use Rattle.edi_calls.specs.Names.{Name, Table, find}
use Rattle.edi_unit.specs.declared.units.Parameter.{Parameter}
use Rattle.edi_unit.specs.declared.units.Parameter.TheVariants as slot
use Rattle.edi_unit.specs.Headings.{Heading}
use Rattle.edi_meaning.specs.Store.{Spot, Location, system_procedure, block_procedure, Cell, value, location, procedure, Shape, used, IsLive, Older}
use Rattle.edi_meaning.specs.Step as source
use Rattle.edi_meaning.specs.Step.{Process}
use Rattle.edi_meaning.specs.Laws.{IsWaiting}
use Rattle.edi_target.specs.Op.{high_word, low_word}
use Rattle.edi_target.specs.Mach as target
use Rattle.edi_target.specs.Mach.{Activity}
use Rattle.edi_target.proofs.segments.Families.{Sound}
use Rattle.edi_target.proofs.segments.Pairs.{Under, child_of, deeper, under_ancestor, Lying, apart_from, under, over, lying}
use Rattle.edi_follows.specs.places.Coded.{Coded, entry, slot_in}
use Rattle.edi_follows.specs.places.Spots.{Inside, Segments, address, block_at, location_address, cell_words, Leads, Holds, frame_start}
use Rattle.edi_follows.specs.places.Located.{frame_of}
use Rattle.edi_follows.specs.places.Related.{Lives, no_process, size_in, standing_of, activity}

-- who has a live process below waits
under_waits : (t : Table Activity) → Sound t → (p q : Name) → Under p q → (b : Activity) → find t q ≡ Some b →
    (a : Activity) × (k : ℕ) × (find t p ≡ Some a) × (a.standing ≡ target.waiting k)
under_waits t s p _ (child_of q some e) b f =
    let h = s.nested q b some f in
    (h.parent, h.number, ap (find t) (sym e) ∙ h.lives, h.waits)
under_waits t s p _ (deeper q some u) b f =
    let h = s.nested q b some f in under_waits t s p _ u h.parent h.lives

some_same : {A : Type 0} {x y : A} → Some x ≡ Some y → x ≡ y
some_same e = cc

waiting_of : (st : source.Standing) (k : ℕ) → standing_of st ≡ target.waiting k → st ≡ source.waiting k
waiting_of source.ready k e = absurd (cc)
waiting_of (source.at_when cs position) k e = absurd (cc)
waiting_of (source.waiting n) k e = cc

module _ (g : Coded) (live : Table Process) (first : Name → ℕ) (F : Shape) (t : Table Activity) (sound : Sound t)
    (placed : (p : Name) (q : Process) → find live p ≡ Some q → (pc : ℕ) × (find t p ≡ Some (activity g first F p q pc))) where
  sized : (p : Name) (h : Lives live p) → size_in live p ≡ h.process.size
  sized p h = ap (λ o. (unwrap_or o no_process).size) h.found

  inside : (p q : Name) (lp : Lives live p) (lq : Lives live q) → Under p q → first p + used (F p) ≤ first q →
      first q + lq.process.size ≤ first p + lp.process.size → Inside (Lives live) (IsWaiting live) first (size_in live) (λ y. used (F y)) p q
  inside p q lp lq u behind within =
      let w : (a : Activity) × (k : ℕ) × (find t p ≡ Some a) × (a.standing ≡ target.waiting k) = under_waits t sound p q u _ (placed q lq.process lq.found).1 in
      let one : activity g first F p lp.process (placed p lp.process lp.found).0 ≡ w.0 = some_same (sym (placed p lp.process lp.found).1 ∙ w.2) in
      record {
        waiting = record {
          process = lp.process;
          found = lp.found;
          number = w.1;
          standing =
              waiting_of lp.process.standing w.1 (ap (λ (y : Activity). y.standing) one ∙ w.3);
        };
        below = under_ancestor p q u;
        behind = behind;
        within = omega (arith, within, sized p lp, sized q lq);
      }

  pub segments_of : Segments (Lives live) (IsWaiting live) first (size_in live) (λ y. used (F y))
  segments_of = record {
    own = λ p h. let o = sound.ordered p _ (placed p h.process h.found).1 in omega (arith, o.ends, sized p h);
    within = λ p h. let o = sound.ordered p _ (placed p h.process h.found).1 in omega (arith, o.fits, sized p h);
    pairs = λ p q lp lq n. go p q lp lq
        (lying t sound (suc (length p + length q)) p q _ _ (omega arith) n (placed p lp.process lp.found).1 (placed q lq.process lq.found).1);
  }
    where
      go : (p q : Name) (lp : Lives live p) (lq : Lives live q) → Lying p (activity g first F p lp.process (placed p lp.process lp.found).0) q
          (activity g first F q lq.process (placed q lq.process lq.found).0) →
          Inside (Lives live) (IsWaiting live) first (size_in live) (λ y. used (F y)) p q ⊎
          (Inside (Lives live) (IsWaiting live) first (size_in live) (λ y. used (F y)) q p
          ⊎ ((first p + size_in live p ≤ first q) ⊎ (first q + size_in live q ≤ first p)))
      go p q lp lq (apart_from (inl h)) = inr (inr (inl (omega (arith, h, sized p lp))))
      go p q lp lq (apart_from (inr h)) = inr (inr (inr (omega (arith, h, sized q lq))))
      go p q lp lq (under u h) = inr (inl (inside q p lq lp u h.behind h.within))
      go p q lp lq (over u h) = inl (inside p q lp lq u h.behind h.within)

-- ---- where the frames of those that a cell means stay

-- G has the frames of F at this name
abbrev pub SameAt : Shape → Shape → Name → Type 0
SameAt F G y = G y ≡ F y

module _ (g : Coded) (first : Name → ℕ) (F G : Shape) where
  pub address_kept : (z : Spot) → SameAt F G z.0 → address first G z ≡ address first F z
  address_kept z e = ap (λ fs. first z.0 + frame_start fs z.1) e

  pub block_kept : (z : Spot) → SameAt F G z.0 → block_at g G z ≡ block_at g F z
  block_kept z e = ap (λ fs. (frame_of fs z.1).block) e

  pub location_kept : (l : Location) → SameAt F G l.spot.0 → location_address g first G l ≡ location_address g first F l
  location_kept l e = ap (λ fs. location_address g first (λ _. fs) l) e

  pub leads_kept : (l : Location) (t : ℕ) → SameAt F G l.spot.0 → Leads g F l t → Leads g G l t
  leads_kept l t e h = record {
    lives = subst (λ fs. l.spot.1 < length fs) (sym e) h.lives;
    of = h.of;
    holds = ap (λ b. slot_in g b l.variable) (block_kept l.spot e) ∙ h.holds;
    path = h.path;
    type = h.type;
  }

  -- the words of a cell that is one of its variable, and that it is one, where the frames stay of all that it may mean
  pub words_kept : (z : Spot) (h : Heading) (v : Option Parameter) (c : Cell) → ((y : Spot) → IsLive F y → Older y z → SameAt F G y.0) → Holds g F z h v c →
      (cell_words g first G c ≡ cell_words g first F c) × Holds g G z h v c
  words_kept z h (Some (slot.Value t)) (value x) k held = (refl, held)
  words_kept z h (Some (slot.Var t)) (location l) k held =
      let e : SameAt F G l.spot.0 = k l.spot held.0.lives held.1 in (ap (λ a. a ∷ []) (location_kept l e), (leads_kept l t e held.0, held.1))
  words_kept z h (Some (slot.Formal r)) (procedure (system_procedure number)) k held = (refl, held)
  words_kept z h (Some (slot.Formal r)) (procedure (block_procedure number parent)) k held =
      let e : SameAt F G parent.0 = k parent held.3 held.4 in (
        ap (λ a. high_word (entry g number) ∷ low_word (entry g number) ∷ a ∷ []) (address_kept parent e),
        (held.0, held.1, held.2, subst (λ fs. parent.1 < length fs) (sym e) held.3, held.4, block_kept parent e ∙ held.5),
      )
  words_kept z h None c k held = absurd held
  words_kept z h (Some (slot.Value t)) (location l) k held = absurd held
  words_kept z h (Some (slot.Value t)) (procedure c) k held = absurd held
  words_kept z h (Some (slot.Var t)) (value x) k held = absurd held
  words_kept z h (Some (slot.Var t)) (procedure c) k held = absurd held
  words_kept z h (Some (slot.Formal r)) (value x) k held = absurd held
  words_kept z h (Some (slot.Formal r)) (location l) k held = absurd held
