-- The numbers of the cached blocks after a use.
use Rattle.std.proofs.Common.{◌≡◌, ℕ, ◌<◌, ◌≤◌, inl, inr, true, false, not, List, [], ◌∷◌, ◌++◌, length, refl, sym, ◌∙◌, ap, arith, eq-eqb}
use Rattle.std.specs.Prelude.{Some, None, nat_eq, drop, filter}
use Rattle.std.proofs.lemmas.Bool.{ne_eqb, cases_eq, cases_lt, lt-ltb, le-ltb, or_parts, or_from}
use Rattle.std.proofs.lemmas.List.{length-map}
use Rattle.edi_disk.specs.declared.cache.Slot.{Slot}
use Rattle.edi_disk.specs.Use.{slot_of, without_block, with_room, is_listed, AreDifferent, after_use}
use Rattle.edi_disk.specs.Shown.{numbers_of}
use Rattle.edi_disk.proofs.Lookup.{absent_listed}

-- the other numbers
abbrev pub others : ℕ → List ℕ → List ℕ
others n ns = filter (λ other. not (nat_eq n other)) ns

pub numbers_after : (n : ℕ) (ps : List Slot) (p : Slot) → p.number ≡ n → numbers_of (without_block n ps ++ p ∷ []) ≡ others n (numbers_of ps) ++ n ∷ []
numbers_after n [] p e = ap (λ m. m ∷ []) e
numbers_after n (q ∷ ps) p e =
    elim (cases_eq n q.number) [
      | inl same ↦ rw (eq-eqb n q.number same) (numbers_after n ps p e)
      | inr ne ↦ rw (ne_eqb n q.number ne) (ap (λ ns. q.number ∷ ns) (numbers_after n ps p e))
    ]

others_fewer : (n : ℕ) (ns : List ℕ) → length (others n ns) ≤ length ns
others_fewer n [] = omega arith
others_fewer n (m ∷ ns) =
    let rest = others_fewer n ns in
    elim (cases_eq n m) [ inl same ↦ rw (eq-eqb n m same) (omega arith) | inr ne ↦ rw (ne_eqb n m ne) (omega arith) ]

-- a number that is there is one of them
pub others_cached : (n : ℕ) (ps : List Slot) (p : Slot) → slot_of n ps ≡ Some p → length (others n (numbers_of ps)) < length ps
others_cached n [] p e = let h : None ≡ Some p = e in absurd (cc)
others_cached n (q ∷ ps) p e =
    elim (cases_eq n q.number) [
      | inl same ↦ let few = others_fewer n (numbers_of ps) in rw (eq-eqb n q.number same) (omega (arith, length-map ps (λ (p : Slot). p.number)))
      | inr ne ↦ let few = others_cached n ps p (rw (ne_eqb n q.number ne) at e) in rw (ne_eqb n q.number ne) (omega arith)
    ]

pub others_absent : (n : ℕ) (ns : List ℕ) → is_listed n ns ≡ false → others n ns ≡ ns
others_absent n [] e = refl
others_absent n (m ∷ ns) e =
    elim (cases_eq n m) [
      | inl same ↦ let h : true ≡ false = rw (eq-eqb n m same) at e in absurd (cc)
      | inr ne ↦ rw (ne_eqb n m ne) (ap (λ ms. m ∷ ms) (others_absent n ns (rw (ne_eqb n m ne) at e)))
    ]

pub numbers_room : (ps : List Slot) → numbers_of (with_room ps) ≡ with_room (numbers_of ps)
numbers_room ps =
    elim (cases_lt (length ps) 16) [
      | inl lt ↦ rw (lt-ltb (length ps) 16 lt, lt-ltb (length (numbers_of ps)) 16 (omega (arith, length-map ps (λ (p : Slot). p.number)))) refl
      | inr le ↦ rw (le-ltb (length ps) 16 le, le-ltb (length (numbers_of ps)) 16 (omega (arith, length-map ps (λ (p : Slot). p.number)))) (rest ps)
    ]
  where
    rest : (ps : List Slot) → numbers_of (drop 1 ps) ≡ drop 1 (numbers_of ps)
    rest [] = refl
    rest (q ∷ ps) = refl

-- a use of a block that is cached
pub order_cached : (n : ℕ) (ps : List Slot) (p q : Slot) → length ps ≤ 16 → slot_of n ps ≡ Some p → q.number ≡ n → numbers_of (without_block n ps ++ q ∷ [])
    ≡ after_use n (numbers_of ps)
order_cached n ps p q few e is =
    let fewer = others_cached n ps p e in
    numbers_after n ps q is ∙ rw (lt-ltb (length (others n (numbers_of ps))) 16 (omega arith)) refl

-- a use of a block that is taken in
pub order_absent : (n : ℕ) (ps : List Slot) (q : Slot) → slot_of n ps ≡ None → q.number ≡ n → numbers_of (with_room ps ++ q ∷ []) ≡ after_use n (numbers_of ps)
order_absent n ps q none is =
    rw (others_absent n (numbers_of ps) (absent_listed n ps none), ← numbers_room ps) (pushed (with_room ps) q n is)
  where
    pushed : (ps : List Slot) (q : Slot) (n : ℕ) → q.number ≡ n → numbers_of (ps ++ q ∷ []) ≡ numbers_of ps ++ n ∷ []
    pushed [] q n is = ap (λ m. m ∷ []) is
    pushed (p ∷ ps) q n is = ap (λ ns. p.number ∷ ns) (pushed ps q n is)

-- no number stands twice
listed_after : (n m : ℕ) (ns : List ℕ) → is_listed m ns ≡ false → (m ≡ n → ⊥) → is_listed m (others n ns ++ n ∷ []) ≡ false
listed_after n m [] e ne = rw (ne_eqb m n ne) refl
listed_after n m (k ∷ ns) e ne =
    let parts = or_parts (nat_eq m k) (is_listed m ns) e in
    elim (cases_eq n k) [
      | inl same ↦ rw (eq-eqb n k same) (listed_after n m ns parts.1 ne)
      | inr other ↦ rw (ne_eqb n k other) (or_from _ _ parts.0 (listed_after n m ns parts.1 ne))
    ]

pub different_after : (n : ℕ) (ns : List ℕ) → AreDifferent ns → AreDifferent (others n ns ++ n ∷ [])
different_after n [] d = (refl, tt)
different_after n (k ∷ ns) d =
    elim (cases_eq n k) [
      | inl same ↦ rw (eq-eqb n k same) (different_after n ns d.1)
      | inr other ↦ rw (ne_eqb n k other) (listed_after n k ns d.0 (λ e. other (sym e)), different_after n ns d.1)
    ]

pub different_rest : (ns : List ℕ) → AreDifferent ns → AreDifferent (drop 1 ns)
different_rest [] d = d
different_rest (k ∷ ns) d = d.1
