-- The parts of the live processes, slot after slot.
use Rattle.std.proofs.Common.{◌≡◌, ◌⊎◌, inl, inr, ℕ, zero, suc, ◌+◌, ◌<◌, ◌≤◌, Bool, true, false, List, [], ◌∷◌, ◌++◌, length, slice_get, Some, refl, sym, ap, ◌∙◌, arith}
use Rattle.std.proofs.Common.{subst, length-append}
use Rattle.std.proofs.lemmas.Bool.{cases_lt}
use Rattle.std.proofs.lemmas.Option.{slice_get_within}
use Rattle.edi_kernel.specs.declared.kept.Kept.{Kept}
use Rattle.edi_kernel.specs.declared.state.KernelState.{KernelState}
use Rattle.edi_kernel.specs.Table.{is_live}
use Rattle.edi_kernel.specs.Kept.{IsKeptOf, IsWhole}
use Rattle.edi_kernel.proofs.Changes.{live_below}
use Rattle.edi_explored.specs.machine.Alike.{SameShown}
use Rattle.edi_explore.specs.declared.offline.Offline.{Offline}
use Rattle.edi_explore.specs.declared.offline.Place.{Place}
use Rattle.edi_explore.specs.declared.states.Key.{Key}
use Rattle.edi_explore.specs.declared.states.States.{States}
use Rattle.edi_explore.specs.Back.{IsPart}
use Rattle.edi_explore.specs.States.{ArePartsBelow, Follows, IsKeyOf, IsSameKept, IsSamePlace}
use Rattle.edi_explore.specs.Systems.{IsPlaceOf}
use Rattle.edi_explore.proofs.Growing.{stays_at}
use Rattle.edi_explore.proofs.Equal.{same_kept_of, same_whole}

pub some_is : {X : Type 0} {x y : X} → Some x ≡ Some y → x ≡ y
some_is e = cc

pub lookup : {X : Type 0} (xs : List X) (i : ℕ) → i < length xs → (x : X) × (slice_get xs i ≡ Some x)
lookup [] i l = absurd (omega (arith, l))
lookup (x ∷ xs) zero l = (x, refl)
lookup (x ∷ xs) (suc i) l = lookup xs i (omega (arith, l))

-- of a list with one more at its end
pub last_at : {X : Type 0} (xs : List X) (x : X) → slice_get (xs ++ x ∷ []) (length xs) ≡ Some x
last_at [] x = refl
last_at (y ∷ xs) x = last_at xs x

pub split_at : {X : Type 0} (xs : List X) (x y : X) (i : ℕ) → slice_get (xs ++ x ∷ []) i ≡ Some y → (slice_get xs i ≡ Some y) ⊎ ((i ≡ length xs) × (y ≡ x))
split_at [] x y zero e = inr (refl, sym (some_is e))
split_at [] x y (suc i) e = absurd (cc)
split_at (z ∷ xs) x y zero e = inl e
split_at (z ∷ xs) x y (suc i) e = elim (split_at xs x y i e) [
  | inl h ↦ inl h
  | inr h ↦ inr (ap suc h.0, h.1)
]

pub parts_none : (kept : List Kept) (k : KernelState) → ArePartsBelow 0 kept [] k
parts_none kept k = record {
  there = λ index number e. absurd (cc);
  whole = λ index part p. absurd (none index p.number p.at);
  distinct = λ i j a b p q e. absurd (none i p.number p.at);
  below = λ index part p. absurd (none index p.number p.at);
  each = λ index part p. absurd (none index p.number p.at);
  all = λ slot l live. absurd (omega (arith, l));
}
  where
    none : (i n : ℕ) → slice_get [] i ≡ Some n → ⊥
    none i n e = cc

module _ (n : ℕ) (kept : List Kept) (numbers : List ℕ) (k : KernelState) (b : ArePartsBelow n kept numbers k) where
  -- nobody lives at this slot
  pub parts_skip : is_live k.table n ≡ false → ArePartsBelow (n + 1) kept numbers k
  parts_skip dead = record {
    there = b.there;
    whole = b.whole;
    distinct = b.distinct;
    below = λ index part p. omega (arith, b.below index part p);
    each = b.each;
    all = λ slot l live. elim (cases_lt slot n) [
      | inl less ↦ b.all slot less live
      | inr past ↦ let same : slot ≡ n = omega (arith, l, past) in let a : true ≡ false = sym live ∙ ap (is_live k.table) same ∙ dead in absurd (cc)
    ];
  }

  module _ (more : List Kept) (number : ℕ) (given part : Kept) (f : Follows kept more) (at : slice_get more number ≡ Some part) (same : IsSameKept given part)
      (of : IsKeptOf k given) (whole : IsWhole given) (slot : given.slot ≡ n) where
    here : part.slot ≡ n
    here = same.0 ∙ slot

    -- a part of the longer list is one of the shorter, or the new one
    old_or_new : (i : ℕ) (a : Kept) → IsPart more (numbers ++ number ∷ []) i a → IsPart kept numbers i a ⊎ ((i ≡ length numbers) × (a ≡ part))
    old_or_new i a p = elim (split_at numbers number p.number i p.at) [
      | inl h ↦
          let x : (x : Kept) × (slice_get kept p.number ≡ Some x) = lookup kept p.number (b.there i p.number h) in
          let it : a ≡ x.0 = some_is (sym p.is ∙ stays_at kept more p.number x.0 f x.1) in
          inl (record { number = p.number; at = h; is = x.1 ∙ ap Some (sym it) })
      | inr h ↦ inr (h.0, some_is (sym p.is ∙ ap (slice_get more) h.1 ∙ at))
    ]

    longer : (i : ℕ) (a : Kept) → IsPart kept numbers i a → IsPart more (numbers ++ number ∷ []) i a
    longer i a p = record { number = p.number; at = stays_at numbers (numbers ++ number ∷ []) i p.number (number ∷ [], refl) p.at; is = stays_at kept more p.number a f p.is }

    pub parts_more : ArePartsBelow (n + 1) more (numbers ++ number ∷ []) k
    parts_more = record {
      there = λ i x e. elim (split_at numbers number x i e) [
        | inl h ↦ omega (arith, b.there i x h, ap length f.1, length-append kept f.0)
        | inr h ↦ subst (λ z. z < length more) (sym h.1) (slice_get_within more number part at)
      ];
      whole = λ i a p. elim (old_or_new i a p) [
        | inl h ↦ b.whole i a h
        | inr h ↦ subst IsWhole (sym h.1) (same_whole given part same whole)
      ];
      distinct = λ i j x y p q e. distinct i j x y (old_or_new i x p) (old_or_new j y q) e;
      below = λ i a p. elim (old_or_new i a p) [
        | inl h ↦ omega (arith, b.below i a h)
        | inr h ↦ let e : a.slot ≡ n = ap (λ (x : Kept). x.slot) h.1 ∙ here in omega (arith, e)
      ];
      each = λ i a p. elim (old_or_new i a p) [
        | inl h ↦ b.each i a h
        | inr h ↦ subst (IsKeptOf k) (sym h.1) (same_kept_of given part same k of)
      ];
      all = λ s l live. elim (cases_lt s n) [
        | inl less ↦ let r = b.all s less live in (r.0, r.1, longer r.0 r.1 r.2, r.3)
        | inr past ↦ (length numbers, part, record { number = number; at = last_at numbers number; is = at }, let e : n ≡ s = omega (arith, l, past) in here ∙ e)
      ];
    }
      where
        distinct : (i j : ℕ) (x y : Kept) → IsPart kept numbers i x ⊎ ((i ≡ length numbers) × (x ≡ part)) → IsPart kept numbers j y
            ⊎ ((j ≡ length numbers) × (y ≡ part)) → x.slot ≡ y.slot → i ≡ j
        distinct i j x y (inl p) (inl q) e = b.distinct i j x y p q e
        distinct i j x y (inl p) (inr q) e = absurd (let s : y.slot ≡ n = ap (λ (z : Kept). z.slot) q.1 ∙ here in omega (arith, b.below i x p, e, s))
        distinct i j x y (inr p) (inl q) e = absurd (let s : x.slot ≡ n = ap (λ (z : Kept). z.slot) p.1 ∙ here in omega (arith, b.below j y q, e, s))
        distinct i j x y (inr p) (inr q) e = p.0 ∙ sym q.0

-- ---- the key of them

pub same_place : (asks : Bool) (o : Offline) (a b : Place) → IsPlaceOf asks o a → IsSamePlace a b → IsPlaceOf asks o b
same_place asks o a b h e = record {
  taken = e.0 ∙ h.taken;
  shown = subst (λ (xs : List ℕ). SameShown asks xs o.shown.items) (sym e.2) h.shown;
  buffer = e.1 ∙ h.buffer;
}

pub parts_key : (asks : Bool) (s : States) (key : Key) (k : KernelState) (o : Offline) (n : ℕ) → ArePartsBelow n s.processes.keys key.parts.items k → 32 ≤ n →
    (place : Place) × (slice_get s.places.keys key.place ≡ Some place) × IsPlaceOf asks o place → IsKeyOf asks s key k o
parts_key asks s key k o n b all place = record {
  place = place.0;
  at = place.1;
  system = place.2;
  processes = record { there = b.there; whole = b.whole; distinct = b.distinct };
  each = b.each;
  all = λ slot live. b.all slot (omega (arith, live_below k.table slot live, all)) live;
}
