-- The drive's blocks with the cached ones over them.
use Rattle.std.proofs.Common.{◌≡◌, ℕ, ◌<◌, ◌≤◌, inl, inr, List, [], ◌∷◌, ◌++◌, length, map, refl, sym, ◌∙◌, ap, subst, eq-eqb, set, length-set}
use Rattle.std.specs.Prelude.{Option, Some, None, slice_get, drop}
use Rattle.std.proofs.lemmas.Bool.{ne_eqb, cases_eq, cases_lt, lt-ltb, le-ltb}
use Rattle.edi_disk.specs.declared.cache.Slot.{Slot}
use Rattle.edi_disk.specs.Use.{slot_of, without_block, with_room, settled_slot, AreDifferent}
use Rattle.edi_disk.specs.Shown.{over, numbers_of}
use Rattle.edi_disk.proofs.Gets.{get-set_same, get-set_other, set_again, same_gets}
use Rattle.edi_disk.proofs.Lookup.{slot_of_after, slot_of_rest, listed_absent}

-- each cached block is one of so many
abbrev pub AreBelow : ℕ → List Slot → Type 0
AreBelow many ps = (n : ℕ) (p : Slot) → slot_of n ps ≡ Some p → n < many

pub length-over : (b : List (List ℕ)) (ps : List Slot) → length (over b ps) ≡ length b
length-over b [] = refl
length-over b (p ∷ ps) = length-set (over b ps) p.number p.bytes ∙ length-over b ps

-- what is cached hides what is below
abbrev pub hiding : Option Slot → Option (List ℕ) → Option (List ℕ)
hiding None below = below
hiding (Some p) below = Some p.bytes

below_head : (many : ℕ) (p : Slot) (ps : List Slot) → AreBelow many (p ∷ ps) → p.number < many
below_head many p ps h = h p.number p (rw (eq-eqb p.number p.number refl) refl)

below_tail : (many : ℕ) (p : Slot) (ps : List Slot) → AreBelow many (p ∷ ps) → AreBelow many ps
below_tail many p ps h n q e =
    elim (cases_eq n p.number) [
      | inl same ↦ rw same (below_head many p ps h)
      | inr ne ↦ h n q (rw (ne_eqb n p.number ne) e)
    ]

pub get-over : (b : List (List ℕ)) (ps : List Slot) (k : ℕ) → AreBelow (length b) ps → slice_get (over b ps) k ≡ hiding (slot_of k ps) (slice_get b k)
get-over b [] k h = refl
get-over b (p ∷ ps) k h =
    elim (cases_eq k p.number) [
      | inl same ↦
          let lt : p.number < length (over b ps) = rw (length-over b ps) (below_head (length b) p ps h) in
          rw (eq-eqb k p.number same) (ap (λ (m : ℕ). slice_get (set (over b ps) p.number p.bytes) m) same ∙ get-set_same (over b ps) p.number p.bytes lt)
      | inr ne ↦
          rw (ne_eqb k p.number ne) (get-set_other (over b ps) p.number k p.bytes (λ e. ne (sym e)) ∙ get-over b ps k (below_tail (length b) p ps h))
    ]

pub get-over_cached : (b : List (List ℕ)) (ps : List Slot) (k : ℕ) (p : Slot) → AreBelow (length b) ps → slot_of k ps ≡ Some p
    → slice_get (over b ps) k ≡ Some p.bytes
get-over_cached b ps k p h e = get-over b ps k h ∙ ap (λ (o : Option Slot). hiding o (slice_get b k)) e

pub get-over_absent : (b : List (List ℕ)) (ps : List Slot) (k : ℕ) → AreBelow (length b) ps → slot_of k ps ≡ None → slice_get (over b ps) k ≡ slice_get b k
get-over_absent b ps k h e = get-over b ps k h ∙ ap (λ (o : Option Slot). hiding o (slice_get b k)) e

-- after a use of block n
pub below_after : (many n : ℕ) (ps : List Slot) (p : Slot) → p.number ≡ n → n < many → AreBelow many ps → AreBelow many (without_block n ps ++ p ∷ [])
below_after many n ps p is lt h k q e =
    elim (cases_eq k n) [
      | inl same ↦ rw same lt
      | inr ne ↦ h k q (rw (slot_of_after n k ps p is, ne_eqb k n ne) at e)
    ]

pub over_after : (b : List (List ℕ)) (n : ℕ) (ps : List Slot) (p : Slot) → p.number ≡ n → n < length b → AreBelow (length b) ps
    → over b (without_block n ps ++ p ∷ []) ≡ set (over b ps) n p.bytes
over_after b n ps p is lt h = same_gets _ _ (λ k.
    let here = get-over b (without_block n ps ++ p ∷ []) k (below_after (length b) n ps p is lt h) in
    elim (cases_eq k n) [
      | inl same ↦
          let lt : n < length (over b ps) = rw (length-over b ps) lt in
          here ∙ rw (slot_of_after n k ps p is, eq-eqb k n same)
          (sym (ap (λ (m : ℕ). slice_get (set (over b ps) n p.bytes) m) same ∙ get-set_same (over b ps) n p.bytes lt))
      | inr ne ↦
          here ∙ rw (slot_of_after n k ps p is, ne_eqb k n ne) (sym (get-set_other (over b ps) n k p.bytes (λ e. ne (sym e)) ∙ get-over b ps k h))
    ])

-- without the first where the drive has it
pub below_room : (many : ℕ) (ps : List Slot) → AreDifferent (numbers_of ps) → AreBelow many ps → AreBelow many (with_room ps)
below_room many ps d h =
    elim (cases_lt (length ps) 16) [
      | inl lt ↦ rw (lt-ltb (length ps) 16 lt) h
      | inr le ↦ rw (le-ltb (length ps) 16 le) (rest ps d h)
    ]
  where
    rest : (ps : List Slot) → AreDifferent (numbers_of ps) → AreBelow many ps → AreBelow many (drop 1 ps)
    rest [] d h = h
    rest (q ∷ ps) d h = λ n p e. h n p (slot_of_rest n q ps p d.0 e)

over_rest : (b : List (List ℕ)) (ps : List Slot) → AreDifferent (numbers_of ps) → AreBelow (length b) ps
    → ((q : Slot) → slice_get ps 0 ≡ Some q → slice_get b q.number ≡ Some q.bytes) → over b (drop 1 ps) ≡ over b ps
over_rest b [] d h on = refl
over_rest b (q ∷ ps) d h on =
    let under = get-over_absent b ps q.number (below_tail (length b) q ps h) (listed_absent q.number ps d.0) in
    sym (set_again (over b ps) q.number q.bytes (under ∙ on q refl))

pub over_room : (b : List (List ℕ)) (ps : List Slot) → AreDifferent (numbers_of ps) → AreBelow (length b) ps
    → (16 ≤ length ps → (q : Slot) → slice_get ps 0 ≡ Some q → slice_get b q.number ≡ Some q.bytes) → over b (with_room ps) ≡ over b ps
over_room b ps d h on =
    elim (cases_lt (length ps) 16) [
      | inl lt ↦ rw (lt-ltb (length ps) 16 lt) refl
      | inr le ↦ rw (le-ltb (length ps) 16 le) (over_rest b ps d h (on le))
    ]

-- a cached block that is written changes nothing that is shown
pub over_written : (b : List (List ℕ)) (ps : List Slot) (k : ℕ) (p : Slot) (v : List ℕ) → AreBelow (length b) ps → slot_of k ps ≡ Some p
    → over (set b k v) ps ≡ over b ps
over_written b ps k p v h e = same_gets _ _ (λ j.
    let long = length-set b k v in
    let there = get-over (set b k v) ps j (subst (λ (m : ℕ). AreBelow m ps) (sym long) h) in
    elim (cases_eq j k) [
      | inl same ↦
          let here : slot_of j ps ≡ Some p = rw same e in
          there ∙ ap (λ (o : Option Slot). hiding o (slice_get (set b k v) j)) here ∙ sym (get-over_cached b ps j p h here)
      | inr ne ↦ there ∙ ap (λ (o : Option (List ℕ)). hiding (slot_of j ps) o) (get-set_other b k j v (λ e. ne (sym e))) ∙ sym (get-over b ps j h)
    ])

-- where the drive has all as they are cached, it is as it is shown
pub over_all : (b : List (List ℕ)) (ps : List Slot) → AreBelow (length b) ps → ((n : ℕ) (p : Slot) → slot_of n ps ≡ Some p → slice_get b n ≡ Some p.bytes)
    → over b ps ≡ b
over_all b ps h on = same_gets _ _ (λ k. get-over b ps k h ∙ shows k (slot_of k ps) refl)
  where
    shows : (k : ℕ) (o : Option Slot) → slot_of k ps ≡ o → hiding o (slice_get b k) ≡ slice_get b k
    shows k None e = refl
    shows k (Some p) e = sym (on k p e)

pub over_settled : (b : List (List ℕ)) (ps : List Slot) → over b (map settled_slot ps) ≡ over b ps
over_settled b [] = refl
over_settled b (p ∷ ps) = ap (λ (c : List (List ℕ)). set c p.number p.bytes) (over_settled b ps)
