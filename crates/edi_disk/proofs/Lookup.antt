-- Which block is cached under a number, before and after a use.
use Rattle.std.proofs.Common.{◌≡◌, ℕ, zero, suc, inl, inr, true, false, cond, List, [], ◌∷◌, ◌++◌, map, take, refl, sym, ◌∙◌, ap, subst, eq-eqb}
use Rattle.std.specs.Prelude.{Some, None, slice_get, nat_eq}
use Rattle.std.specs.Option.{option_map}
use Rattle.std.proofs.lemmas.Bool.{ne_eqb, cases_eq}
use Rattle.edi_disk.specs.declared.cache.Slot.{Slot}
use Rattle.edi_disk.specs.Use.{slot_of, without_block, settled_slot, is_listed, AreDifferent}
use Rattle.edi_disk.specs.Shown.{numbers_of}

pub slot_of_number : (n : ℕ) (ps : List Slot) (p : Slot) → slot_of n ps ≡ Some p → p.number ≡ n
slot_of_number n [] p e = let h : None ≡ Some p = e in absurd (cc)
slot_of_number n (q ∷ ps) p e =
    elim (cases_eq n q.number) [
      | inl same ↦ let h : Some q ≡ Some p = rw (eq-eqb n q.number same) at e in cc
      | inr ne ↦ slot_of_number n ps p (rw (ne_eqb n q.number ne) at e)
    ]

-- no block of that number: nothing is left out
pub without_absent : (n : ℕ) (ps : List Slot) → slot_of n ps ≡ None → without_block n ps ≡ ps
without_absent n [] e = refl
without_absent n (q ∷ ps) e =
    elim (cases_eq n q.number) [
      | inl same ↦ let h : Some q ≡ None = rw (eq-eqb n q.number same) at e in absurd (cc)
      | inr ne ↦ rw (ne_eqb n q.number ne) (ap (λ qs. q ∷ qs) (without_absent n ps (rw (ne_eqb n q.number ne) at e)))
    ]

-- what stands in front of one more
pub slot_of_front : (n : ℕ) (ps : List Slot) (p q : Slot) → (n ≡ p.number → ⊥) → slot_of n (ps ++ p ∷ []) ≡ Some q → slot_of n ps ≡ Some q
slot_of_front n [] p q ne e = let h : None ≡ Some q = rw (ne_eqb n p.number ne) at e in absurd (cc)
slot_of_front n (r ∷ ps) p q ne e =
    elim (cases_eq n r.number) [
      | inl same ↦ rw (eq-eqb n r.number same) (rw (eq-eqb n r.number same) at e)
      | inr other ↦ rw (ne_eqb n r.number other) (slot_of_front n ps p q ne (rw (ne_eqb n r.number other) at e))
    ]

-- a block that was cached, or is taken in, stands under its number; every other as before
pub slot_of_after : (n k : ℕ) (ps : List Slot) (p : Slot) → p.number ≡ n → slot_of k (without_block n ps ++ p ∷ []) ≡ cond (nat_eq k n) (Some p) (slot_of k ps)
slot_of_after n k [] p e = rw e refl
slot_of_after n k (q ∷ ps) p e =
    elim (cases_eq n q.number) [
      | inl same ↦
          rw (eq-eqb n q.number same) (elim (cases_eq k n) [
            | inl here ↦ slot_of_after n k ps p e ∙ rw (eq-eqb k n here) refl
            | inr ne ↦ slot_of_after n k ps p e ∙ rw (ne_eqb k n ne, ne_eqb k q.number (λ h. ne (h ∙ sym same))) refl
          ])
      | inr ne ↦
          rw (ne_eqb n q.number ne) (elim (cases_eq k q.number) [
            | inl here ↦ rw (eq-eqb k q.number here, ne_eqb k n (λ h. ne (sym h ∙ here))) refl
            | inr other ↦ rw (ne_eqb k q.number other) (slot_of_after n k ps p e)
          ])
    ]

-- the numbers tell which blocks are cached
pub listed_absent : (n : ℕ) (ps : List Slot) → is_listed n (numbers_of ps) ≡ false → slot_of n ps ≡ None
listed_absent n [] e = refl
listed_absent n (q ∷ ps) e =
    elim (cases_eq n q.number) [
      | inl same ↦ let h : true ≡ false = rw (eq-eqb n q.number same) at e in absurd (cc)
      | inr ne ↦ rw (ne_eqb n q.number ne) (listed_absent n ps (rw (ne_eqb n q.number ne) at e))
    ]

pub absent_listed : (n : ℕ) (ps : List Slot) → slot_of n ps ≡ None → is_listed n (numbers_of ps) ≡ false
absent_listed n [] e = refl
absent_listed n (q ∷ ps) e =
    elim (cases_eq n q.number) [
      | inl same ↦ let h : Some q ≡ None = rw (eq-eqb n q.number same) at e in absurd (cc)
      | inr ne ↦ rw (ne_eqb n q.number ne) (absent_listed n ps (rw (ne_eqb n q.number ne) at e))
    ]

-- the block at a slot stands under its number, where no number stands twice
pub slot_of_at : (ps : List Slot) (i : ℕ) (p : Slot) → AreDifferent (numbers_of ps) → slice_get ps i ≡ Some p → slot_of p.number ps ≡ Some p
slot_of_at [] i p d e = let h : None ≡ Some p = e in absurd (cc)
slot_of_at (q ∷ ps) zero p d e = let h : Some q ≡ Some p = e in let same : q ≡ p = cc in
    rw (eq-eqb p.number q.number (ap (λ (x : Slot). x.number) (sym same))) h
slot_of_at (q ∷ ps) (suc i) p d e =
    let rest = slot_of_at ps i p d.1 e in
    elim (cases_eq p.number q.number) [
      | inl same ↦
          let none : slot_of q.number ps ≡ None = listed_absent q.number ps d.0 in
          let some : slot_of q.number ps ≡ Some p = subst (λ (n : ℕ). slot_of n ps ≡ Some p) same rest in
          let h : None ≡ Some p = sym none ∙ some in absurd (cc)
      | inr ne ↦ rw (ne_eqb p.number q.number ne) rest
    ]

-- in a front part stands what stands in the whole
pub slot_of_take : (n i : ℕ) (ps : List Slot) (p : Slot) → slot_of n (take i ps) ≡ Some p → slot_of n ps ≡ Some p
slot_of_take n zero ps p e = let h : None ≡ Some p = e in absurd (cc)
slot_of_take n (suc i) [] p e = e
slot_of_take n (suc i) (q ∷ ps) p e =
    elim (cases_eq n q.number) [
      | inl same ↦ rw (eq-eqb n q.number same) (rw (eq-eqb n q.number same) at e)
      | inr ne ↦ rw (ne_eqb n q.number ne) (slot_of_take n i ps p (rw (ne_eqb n q.number ne) at e))
    ]

-- without the first
pub slot_of_rest : (n : ℕ) (q : Slot) (ps : List Slot) (p : Slot) → is_listed q.number (numbers_of ps) ≡ false → slot_of n ps ≡ Some p
    → slot_of n (q ∷ ps) ≡ Some p
slot_of_rest n q ps p d e =
    elim (cases_eq n q.number) [
      | inl same ↦
          let none : slot_of q.number ps ≡ None = listed_absent q.number ps d in
          let some : slot_of q.number ps ≡ Some p = subst (λ (m : ℕ). slot_of m ps ≡ Some p) same e in
          let h : None ≡ Some p = sym none ∙ some in absurd (cc)
      | inr ne ↦ rw (ne_eqb n q.number ne) e
    ]

pub absent_rest : (n : ℕ) (q : Slot) (ps : List Slot) → slot_of n (q ∷ ps) ≡ None → slot_of n ps ≡ None
absent_rest n q ps e =
    elim (cases_eq n q.number) [
      | inl same ↦ let h : Some q ≡ None = rw (eq-eqb n q.number same) at e in absurd (cc)
      | inr ne ↦ rw (ne_eqb n q.number ne) at e
    ]

-- settled, each stands where it stood
pub slot_of_settled : (n : ℕ) (ps : List Slot) → slot_of n (map settled_slot ps) ≡ option_map settled_slot (slot_of n ps)
slot_of_settled n [] = refl
slot_of_settled n (q ∷ ps) =
    elim (cases_eq n q.number) [
      | inl same ↦ rw (eq-eqb n q.number same) refl
      | inr ne ↦ rw (ne_eqb n q.number ne) (slot_of_settled n ps)
    ]

pub numbers_settled : (ps : List Slot) → numbers_of (map settled_slot ps) ≡ numbers_of ps
numbers_settled [] = refl
numbers_settled (q ∷ ps) = ap (λ ns. q.number ∷ ns) (numbers_settled ps)
