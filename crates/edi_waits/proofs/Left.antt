-- Those that are put in slot after slot are those of the machine.
use Rattle.std.proofs.Common.{◌≡◌, ◌⊎◌, inl, inr, ℕ, zero, suc, ◌-◌, ◌<◌, ◌≤◌, Bool, true, false, if◌then◌else◌, List, Contains, Option, Some, None}
use Rattle.std.proofs.Common.{refl, sym, ap, subst, ◌∙◌, arith, eq-eqb}
use Rattle.std.proofs.lemmas.Bool.{cases_eq, cases_lt, ne_eqb}
use Rattle.std.specs.Option.{option_map}
use Rattle.edi_calls.specs.Names.{Name, find, same}
use Rattle.edi_calls.proofs.Tables.{same-refl}
use Rattle.edi_target.specs.Mach.{Activity, Machine}
use Rattle.edi_kernel.specs.declared.state.KernelState.{KernelState}
use Rattle.edi_kernel.specs.Table.{is_live, process_at}
use Rattle.edi_kernel.specs.TableIsMachine.{Naming, TableIsMachine, entry_of, standing_of}
use Rattle.edi_kernel.specs.Named.{HoldsBy}
use Rattle.edi_kernel.proofs.Again.{found_has}
use Rattle.edi_kernel.proofs.Changes.{live_below, names_apart}
use Rattle.edi_waits.specs.declared.births.Names.{Names}
use Rattle.edi_waits.specs.Ends.{AreAtEnd, AtEnd, end_of, frames_of, stands_by}
use Rattle.edi_waits.specs.Left.{at_end_of, at_ends, frames_by, is_broken, is_slot, put_in}
use Rattle.edi_waits.specs.Names.{AreNames, forks_at, name_at}
use Rattle.edi_waits.proofs.Naming.{told_name}
use Rattle.edi_waits.proofs.CallLines.{frames_same}
use Rattle.edi_waits.proofs.Lists.{some_is}
use Rattle.edi_waits.proofs.Ordered.{Free, InOrder, IsIn, contained_in, in_back, in_contained, in_more, in_put, order_put, ordered}

-- ---- those of the slots

module _ (k : KernelState) (names : Names) where
  abbrev live : ℕ → Bool
  live slot = is_live k.table slot

  abbrev item : ℕ → AtEnd
  item slot = at_end_of k names slot

  -- each is that of a slot
  pub record IsOf (n : ℕ) (x : AtEnd) : Type 0 where
    pub slot : ℕ
    pub below : slot < n
    pub lives : is_live k.table slot ≡ true
    pub is : x ≡ at_end_of k names slot

  more_of : (n : ℕ) (x : AtEnd) → IsOf n x → IsOf (suc n) x
  more_of n x h = record { slot = h.slot; below = omega (arith, h.below); lives = h.lives; is = h.is }

  pub of_slot : (n : ℕ) (x : AtEnd) → IsIn x (at_ends k names n) → IsOf n x
  of_slot zero x h = absurd h
  of_slot (suc n) x h = go (live n) refl h (of_slot n x)
    where
      go : (b : Bool) → live n ≡ b → IsIn x (if b then put_in (item n) (at_ends k names n) else at_ends k names n) →
          (IsIn x (at_ends k names n) → IsOf n x) → IsOf (suc n) x
      go false e h more = more_of n x (more h)
      go true e h more = elim (in_back (item n) x (at_ends k names n) h) [
        | inl is ↦ record { slot = n; below = omega arith; lives = e; is = is }
        | inr there ↦ more_of n x (more there)
      ]

  stays_in : (n : ℕ) (x : AtEnd) (b : Bool) → IsIn x (at_ends k names n) →
      IsIn x (if b then put_in (item n) (at_ends k names n) else at_ends k names n)
  stays_in n x true h = in_more (item n) x (at_ends k names n) h
  stays_in n x false h = h

  newest_in : (n : ℕ) (b : Bool) → b ≡ true → IsIn (item n) (if b then put_in (item n) (at_ends k names n) else at_ends k names n)
  newest_in n true e = in_put (item n) (at_ends k names n)
  newest_in n false e = absurd (cc)

  pub has_slot : (n slot : ℕ) → slot < n → live slot ≡ true → IsIn (item slot) (at_ends k names n)
  has_slot zero slot l e = absurd (omega (arith, l))
  has_slot (suc n) slot l e = go (cases_lt slot n) (has_slot n slot)
    where
      go : (slot < n) ⊎ (n ≤ slot) → (slot < n → live slot ≡ true → IsIn (item slot) (at_ends k names n)) → IsIn (item slot) (at_ends k names (suc n))
      go (inl less) more = stays_in n (item slot) (live n) (more less e)
      go (inr past) more =
          let last : slot ≡ n = omega (arith, l, past) in
          subst (λ s. IsIn (item s) (at_ends k names (suc n))) (sym last) (newest_in n (live n) (ap (is_live k.table) (sym last) ∙ e))

  -- where each live slot has a name of its own
  module _ (apart : (i j : ℕ) → live i ≡ true → live j ≡ true → name_at names k.table i ≡ name_at names k.table j → i ≡ j) where
    free : (n : ℕ) → live n ≡ true → Free (item n).process (at_ends k names n)
    free n e x h same =
        let o = of_slot n x h in
        let here : o.slot ≡ n = apart o.slot n o.lives e (ap (λ (t : AtEnd). t.process) (sym o.is) ∙ same) in
        absurd (omega (arith, o.below, here))

    pub order_all : (n : ℕ) → InOrder (at_ends k names n)
    order_all zero = tt
    order_all (suc n) = go (live n) refl (order_all n)
      where
        go : (b : Bool) → live n ≡ b → InOrder (at_ends k names n) → InOrder (if b then put_in (item n) (at_ends k names n) else at_ends k names n)
        go true e more = order_put (item n) (at_ends k names n) more (free n e)
        go false e more = more

-- ---- the processes of the kernel, as those of the machine

module _ (k : KernelState) (names : Names) (n : Naming) (m : Machine) (broke : Option Name) (ready : List Name) (used : ℕ) (h : HoldsBy n k m broke ready)
    (are : AreNames names n k.table used) (lives : (slot : ℕ) → k.taken ≡ Some slot → is_live k.table slot ≡ true) where
  stands : TableIsMachine k.table n m
  stands = subst (λ x. TableIsMachine k.table x m) h.by h.holds.stands

  called : (slot : ℕ) → is_live k.table slot ≡ true → name_at names k.table slot ≡ n.name slot
  called slot l = told_name names n k.table m used stands are slot l

  broke_is : broke ≡ option_map n.name k.taken
  broke_is = h.holds.is_taken ∙ ap (λ (x : Naming). option_map x.name k.taken) h.by

  abbrev entry : ℕ → Activity
  entry slot = entry_of (process_at k.table slot) (n.forks slot)

  abbrev End : Name → Activity → AtEnd
  End = end_of m (is_broken broke)

  -- the process that ended the run is the one that is taken
  ended_by : (slot : ℕ) → is_live k.table slot ≡ true → is_broken broke (name_at names k.table slot) ≡ is_slot k.taken slot
  ended_by slot l = ap (is_broken broke) (called slot l) ∙ ap (λ o. is_broken o (n.name slot)) broke_is ∙ by_taken k.taken refl
    where
      by_taken : (o : Option ℕ) → k.taken ≡ o → is_broken (option_map n.name o) (n.name slot) ≡ is_slot o slot
      by_taken None e = refl
      by_taken (Some t) e = elim (cases_eq t slot) [
        | inl same_slot ↦
            ap (λ i. same (n.name i) (n.name slot)) same_slot ∙ same-refl (n.name slot) ∙ sym (eq-eqb t slot same_slot)
        | inr other ↦ names_apart k.table n m stands t slot (lives t e) l other ∙ sym (ne_eqb t slot other)
      ]

  -- what is told of a slot is what the machine has of its process
  is_end : (slot : ℕ) → is_live k.table slot ≡ true → at_end_of k names slot ≡ End (name_at names k.table slot) (entry slot)
  is_end slot l =
      let a = (process_at k.table slot).activity in
      let how : stands_by (is_slot k.taken slot) (standing_of (process_at k.table slot).standing) (forks_at names slot)
      ≡ stands_by (is_broken broke (name_at names k.table slot)) (entry slot).standing (entry slot).forks =
      ap (λ b. stands_by b (standing_of (process_at k.table slot).standing) (forks_at names slot)) (sym (ended_by slot l))
      ∙ ap (stands_by (is_broken broke (name_at names k.table slot)) (standing_of (process_at k.table slot).standing)) (are.forks slot l) in
      let frames : frames_by k.store a ≡ frames_of (suc (a.base - a.segment.first)) m.memory a.segment.first a.base a.top a.pc =
      ap (λ memory. frames_by memory a) (sym h.holds.memory)
      ∙ sym (frames_same m.memory a.segment.first (a.base - a.segment.first) a.base a.top a.pc) in
      (λ i. record { process = name_at names k.table slot; stands = how i; frames = frames i })

  is_at : (x : AtEnd) (slot : ℕ) → is_live k.table slot ≡ true → x ≡ at_end_of k names slot →
      (a : Activity) × (find m.activities x.process ≡ Some a) × (x ≡ End x.process a)
  is_at x slot l is =
      let named : x.process ≡ name_at names k.table slot = ap (λ (z : AtEnd). z.process) is in (
        entry slot,
        ap (find m.activities) (named ∙ called slot l) ∙ stands.found slot l,
        is ∙ is_end slot l ∙ ap (λ p. End p (entry slot)) (sym named),
      )

  all : (p : Name) (a : Activity) → find m.activities p ≡ Some a → Contains (at_ends k names 32) (End p a)
  all p a found =
      let s : (slot : ℕ) × (is_live k.table slot ≡ true) × (p ≡ n.name slot) = stands.all p (found_has m.activities p a found) in
      let named : name_at names k.table s.0 ≡ p = called s.0 s.1 ∙ sym s.2 in
      let same_entry : entry s.0 ≡ a = some_is (sym (stands.found s.0 s.1) ∙ ap (find m.activities) (sym s.2) ∙ found) in
      subst (Contains (at_ends k names 32)) (is_end s.0 s.1 ∙ (λ i. End (named i) (same_entry i)))
      (in_contained (at_ends k names 32) (at_end_of k names s.0) (has_slot k names 32 s.0 (live_below k.table s.0 s.1) s.1))

  same_slot : (i j : ℕ) → is_live k.table i ≡ true → is_live k.table j ≡ true → name_at names k.table i ≡ name_at names k.table j → i ≡ j
  same_slot i j a b e = stands.apart i j a b (sym (called i a) ∙ e ∙ called j b)

  pub are_at_end : AreAtEnd m (is_broken broke) (at_ends k names 32)
  are_at_end = record {
    each = λ x c. let o = of_slot k names 32 x (contained_in (at_ends k names 32) x c) in is_at x o.slot o.lives o.is;
    all = all;
    order = ordered (at_ends k names 32) (order_all k names same_slot 32);
  }
