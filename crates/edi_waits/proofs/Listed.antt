-- Those that are listed slot after slot are those that wait in the machine.
use Rattle.std.proofs.Common.{◌≡◌, ◌⊎◌, inl, inr, ℕ, zero, suc, ◌<◌, Bool, true, false, ◌&&◌, if◌then◌else◌, List, [], ◌∷◌, ◌++◌, length, Contains, Some, refl, sym, ap, subst, ◌∙◌}
use Rattle.std.proofs.Common.{arith, append-nil, slice_get, None, ◌≤◌}
use Rattle.std.proofs.lemmas.Bool.{cases_lt}
use Rattle.edi_calls.specs.Names.{Name, find}
use Rattle.edi_target.specs.Mach.{Activity, Machine, at_when}
use Rattle.edi_kernel.specs.declared.table.Standing.{Standing}
use Rattle.edi_kernel.specs.declared.table.Standing.TheVariants as standing
use Rattle.edi_kernel.specs.declared.state.KernelState.{KernelState}
use Rattle.edi_kernel.specs.Table.{is_live, process_at}
use Rattle.edi_kernel.specs.TableIsMachine.{Naming, TableIsMachine, entry_of, standing_of}
use Rattle.edi_kernel.specs.Named.{HoldsBy}
use Rattle.edi_kernel.proofs.Again.{found_has}
use Rattle.edi_kernel.proofs.Changes.{live_below}
use Rattle.edi_waits.specs.Places.{place}
use Rattle.edi_waits.specs.declared.births.Names.{Names}
use Rattle.edi_waits.specs.Names.{AreNames, is_at_when, name_at, waiting_at, waiting_below}
use Rattle.edi_waits.specs.Waits.{AreWaiting, IsWaiting, Waiting}
use Rattle.edi_waits.proofs.Naming.{told_name}
use Rattle.edi_waits.proofs.Lists.{at_contained, contains_front, contains_last, some_is, split_at}

-- ---- tests

both : (a b : Bool) → (a && b) ≡ true → (a ≡ true) × (b ≡ true)
both true true e = (refl, refl)
both true false e = absurd (cc)
both false b e = absurd (cc)

stands_at : (s : Standing) → is_at_when s ≡ true → standing_of s ≡ at_when
stands_at standing.Ready e = absurd (cc)
stands_at standing.AtWhen e = refl
stands_at (standing.Waiting n) e = absurd (cc)

at_stands : (s : Standing) → standing_of s ≡ at_when → is_at_when s ≡ true
at_stands standing.Ready e = absurd (cc)
at_stands standing.AtWhen e = refl
at_stands (standing.Waiting n) e = absurd (cc)

-- ---- those below a slot

module _ (words : List ℕ) (k : KernelState) (names : Names) where
  abbrev Waits : ℕ → Bool
  Waits slot = is_live k.table slot && is_at_when (process_at k.table slot).standing

  abbrev At : ℕ → Waiting
  At slot = waiting_at words k.store names k.table slot

  -- each of them is that of a slot
  pub record IsOf (n : ℕ) (w : Waiting) : Type 0 where
    pub slot : ℕ
    pub below : slot < n
    pub waits : Waits slot ≡ true
    pub is : w ≡ At slot

  more_of : (n : ℕ) (w : Waiting) → IsOf n w → IsOf (suc n) w
  more_of n w h = record { slot = h.slot; below = omega (arith, h.below); waits = h.waits; is = h.is }

  pub of_slot : (n i : ℕ) (w : Waiting) → slice_get (waiting_below words k names n) i ≡ Some w → IsOf n w
  of_slot zero i w e = absurd (cc)
  of_slot (suc n) i w e = go (Waits n) refl e (of_slot n i w)
    where
      go : (b : Bool) → Waits n ≡ b → slice_get (waiting_below words k names n ++ (if b then At n ∷ [] else [])) i ≡ Some w →
          (slice_get (waiting_below words k names n) i ≡ Some w → IsOf n w) → IsOf (suc n) w
      go false b e more = more_of n w (more (ap (λ xs. slice_get xs i) (sym (append-nil (waiting_below words k names n))) ∙ e))
      go true b e more = elim (split_at (waiting_below words k names n) (At n) w i e) [
        | inl h ↦ more_of n w (more h)
        | inr h ↦ record { slot = n; below = omega arith; waits = b; is = h.1 }
      ]

  pub has_slot : (n slot : ℕ) → slot < n → Waits slot ≡ true → Contains (waiting_below words k names n) (At slot)
  has_slot zero slot l w = absurd (omega (arith, l))
  has_slot (suc n) slot l w = go (cases_lt slot n) (has_slot n slot)
    where
      go : (slot < n) ⊎ (n ≤ slot) → (slot < n → Waits slot ≡ true → Contains (waiting_below words k names n) (At slot)) →
          Contains (waiting_below words k names (suc n)) (At slot)
      go (inl less) more =
          contains_front (waiting_below words k names n) (if Waits n then At n ∷ [] else []) (At slot) (more less w)
      go (inr past) more =
          let e : slot ≡ n = omega (arith, l, past) in
          subst (λ s. Contains (waiting_below words k names (suc n)) (At s)) (sym e)
          (subst (λ b. Contains (waiting_below words k names n ++ (if b then At n ∷ [] else [])) (At n)) (sym (ap Waits (sym e) ∙ w))
          (contains_last (waiting_below words k names n) (At n)))

  -- ---- as those of the machine

  module _ (n : Naming) (m : Machine) (ready : List Name) (used : ℕ) (h : HoldsBy n k m None ready) (are : AreNames names n k.table used) where
    stands : TableIsMachine k.table n m
    stands = subst (λ x. TableIsMachine k.table x m) h.by h.holds.stands

    called : (slot : ℕ) → is_live k.table slot ≡ true → name_at names k.table slot ≡ n.name slot
    called slot l = told_name names n k.table m used stands are slot l

    abbrev entry : ℕ → Activity
    entry slot = entry_of (process_at k.table slot) (n.forks slot)

    waiting : (w : Waiting) (slot : ℕ) → Waits slot ≡ true → w ≡ At slot → IsWaiting words m w
    waiting w slot waits is =
        let b = both (is_live k.table slot) (is_at_when (process_at k.table slot).standing) waits in
        subst (IsWaiting words m) (sym is) (record {
          activity = entry slot;
          found = ap (find m.activities) (called slot b.0) ∙ stands.found slot b.0;
          stands = stands_at (process_at k.table slot).standing b.1;
          lines_are =
              ap (λ memory. place words memory (process_at k.table slot).activity.segment.first (process_at k.table slot).activity.base
              (process_at k.table slot).activity.pc) (sym h.holds.memory);
        })

    all : (p : Name) (a : Activity) → find m.activities p ≡ Some a → a.standing ≡ at_when →
        (w : Waiting) × Contains (waiting_below words k names 32) w × (w.process ≡ p)
    all p a found at =
        let s : (slot : ℕ) × (is_live k.table slot ≡ true) × (p ≡ n.name slot) = stands.all p (found_has m.activities p a found) in
        let same : entry s.0 ≡ a = some_is (sym (stands.found s.0 s.1) ∙ ap (find m.activities) (sym s.2) ∙ found) in
        let test : is_at_when (process_at k.table s.0).standing ≡ true =
        at_stands (process_at k.table s.0).standing (ap (λ (x : Activity). x.standing) same ∙ at) in
        let waits : Waits s.0 ≡ true = ap (λ b. b && is_at_when (process_at k.table s.0).standing) s.1 ∙ test in
        (At s.0, has_slot 32 s.0 (live_below k.table s.0 s.1) waits, called s.0 s.1 ∙ sym s.2)

    same_slot : (x y : ℕ) → Waits x ≡ true → Waits y ≡ true → name_at names k.table x ≡ name_at names k.table y → x ≡ y
    same_slot x y p q e =
        let a = (both (is_live k.table x) (is_at_when (process_at k.table x).standing) p).0 in
        let b = (both (is_live k.table y) (is_at_when (process_at k.table y).standing) q).0 in
        stands.apart x y a b (sym (called x a) ∙ e ∙ called y b)

    once : (c i j : ℕ) (v w : Waiting) → slice_get (waiting_below words k names c) i ≡ Some v → slice_get (waiting_below words k names c) j ≡ Some w →
        v.process ≡ w.process → i ≡ j
    once zero i j v w p q e = absurd (cc)
    once (suc c) i j v w p q e = go (Waits c) refl p q (once c i j v w)
      where
        front : (x : ℕ) (y : Waiting) → slice_get (waiting_below words k names c ++ []) x ≡ Some y → slice_get (waiting_below words k names c) x ≡ Some y
        front x y g = ap (λ xs. slice_get xs x) (sym (append-nil (waiting_below words k names c))) ∙ g

        -- the last one stands for a slot of its own
        not_last : (x : ℕ) (y : Waiting) → slice_get (waiting_below words k names c) x ≡ Some y → Waits c ≡ true → y.process ≡ name_at names k.table c → ⊥
        not_last x y g b same =
            let o = of_slot c x y g in
            let s : o.slot ≡ c = same_slot o.slot c o.waits b (ap (λ (z : Waiting). z.process) (sym o.is) ∙ same) in
            absurd (omega (arith, o.below, s))

        go : (b : Bool) → Waits c ≡ b → slice_get (waiting_below words k names c ++ (if b then At c ∷ [] else [])) i ≡ Some v →
            slice_get (waiting_below words k names c ++ (if b then At c ∷ [] else [])) j ≡ Some w →
            (slice_get (waiting_below words k names c) i ≡ Some v → slice_get (waiting_below words k names c) j ≡ Some w → v.process ≡ w.process → i ≡ j) → i ≡ j
        go false b p q more = more (front i v p) (front j w q) e
        go true b p q more = sides (split_at (waiting_below words k names c) (At c) v i p) (split_at (waiting_below words k names c) (At c) w j q)
          where
            sides : (slice_get (waiting_below words k names c) i ≡ Some v) ⊎ ((i ≡ length (waiting_below words k names c)) × (v ≡ At c)) →
                (slice_get (waiting_below words k names c) j ≡ Some w) ⊎ ((j ≡ length (waiting_below words k names c)) × (w ≡ At c)) → i ≡ j
            sides (inl x) (inl y) = more x y e
            sides (inl x) (inr y) = absurd (not_last i v x b (e ∙ ap (λ (z : Waiting). z.process) y.1))
            sides (inr x) (inl y) = absurd (not_last j w y b (sym e ∙ ap (λ (z : Waiting). z.process) x.1))
            sides (inr x) (inr y) = x.0 ∙ sym y.0

    pub are_waiting : AreWaiting words m (waiting_below words k names 32)
    are_waiting = record {
      each = λ w c.
          let i = at_contained (waiting_below words k names 32) w c in
          let o = of_slot 32 i.0 w i.1 in
          waiting w o.slot o.waits o.is;
      all = all;
      once = λ i j v w p q e. once 32 i j v w p q e;
    }
