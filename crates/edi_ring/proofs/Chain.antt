-- Nodes of a list: what one more or less makes of it.
use Rattle.std.proofs.Common.{◌≡◌, ℕ, zero, suc, ◌+◌, ◌<◌, ◌⊎◌, inl, inr, not, List, [], ◌∷◌, ◌++◌, length, refl, sym, ◌∙◌, ap, arith, eqb}
use Rattle.std.proofs.Common.{eq-eqb, subst}
use Rattle.std.proofs.Common.{take, drop}
use Rattle.std.proofs.lemmas.Bool.{ne_eqb, cases_eq}
use Rattle.std.specs.Prelude.{Some, None, filter, slice_get}
use Rattle.edi_ring.specs.Links.{IsAmong, NoneTwice}

pub among_at : (xs : List ℕ) (k n : ℕ) → slice_get xs k ≡ Some n → IsAmong n xs
among_at [] k n at_k = let end : None ≡ Some n = at_k in absurd (cc)
among_at (x ∷ xs) zero n at_k = inl (cc)
among_at (x ∷ xs) (suc k) n at_k = inr (among_at xs k n at_k)

-- what is among the nodes stands at an index
pub place_of : (n : ℕ) (xs : List ℕ) → IsAmong n xs → (k : ℕ) × (k < length xs) × (slice_get xs k ≡ Some n)
place_of n [] i = absurd i
place_of n (x ∷ xs) (inl e) = (0, omega arith, ap Some (sym e))
place_of n (x ∷ xs) (inr i) =
    let h : (k : ℕ) × (k < length xs) × (slice_get xs k ≡ Some n) = place_of n xs i in (suc h.0, omega (arith, h.1), h.2)

-- the nodes without one of them
abbrev pub minus : ℕ → List ℕ → List ℕ
minus node nodes = filter (λ other. not (eqb node other)) nodes

pub minus_none : (n : ℕ) (xs : List ℕ) → (IsAmong n xs → ⊥) → minus n xs ≡ xs
minus_none n [] h = refl
minus_none n (x ∷ xs) h = rw (ne_eqb n x (λ e. h (inl e))) (ap (λ ys. x ∷ ys) (minus_none n xs (λ i. h (inr i))))

pub minus_here : (n x : ℕ) (xs : List ℕ) → n ≡ x → (IsAmong n xs → ⊥) → minus n (x ∷ xs) ≡ xs
minus_here n x xs e h = rw (eq-eqb n x e) (minus_none n xs h)

pub minus_there : (n x : ℕ) (xs : List ℕ) → (n ≡ x → ⊥) → minus n (x ∷ xs) ≡ x ∷ minus n xs
minus_there n x xs h = rw (ne_eqb n x h) refl

pub minus_drop : (n x : ℕ) (xs : List ℕ) → n ≡ x → minus n (x ∷ xs) ≡ minus n xs
minus_drop n x xs e = rw (eq-eqb n x e) refl

-- what is among the nodes without one, and what is not
pub among-minus : (n q : ℕ) (xs : List ℕ) → IsAmong q (minus n xs) → IsAmong q xs
among-minus n q [] i = i
among-minus n q (x ∷ xs) i =
    elim (cases_eq n x) [
      | inl e ↦ inr (among-minus n q xs (subst (λ (ys : List ℕ). IsAmong q ys) (minus_drop n x xs e) i))
      | inr ne ↦
          let here : (q ≡ x) ⊎ IsAmong q (minus n xs) = subst (λ (ys : List ℕ). IsAmong q ys) (minus_there n x xs ne) i in
          elim here [ inl e ↦ inl e | inr j ↦ inr (among-minus n q xs j) ]
    ]

pub minus_gone : (n : ℕ) (xs : List ℕ) → IsAmong n (minus n xs) → ⊥
minus_gone n [] i = i
minus_gone n (x ∷ xs) i =
    elim (cases_eq n x) [
      | inl e ↦ minus_gone n xs (subst (λ (ys : List ℕ). IsAmong n ys) (minus_drop n x xs e) i)
      | inr ne ↦
          let here : (n ≡ x) ⊎ IsAmong n (minus n xs) = subst (λ (ys : List ℕ). IsAmong n ys) (minus_there n x xs ne) i in
          elim here [ inl e ↦ ne e | inr j ↦ minus_gone n xs j ]
    ]

pub minus_keeps : (n q : ℕ) (xs : List ℕ) → IsAmong q xs → (q ≡ n → ⊥) → IsAmong q (minus n xs)
minus_keeps n q [] i ne = i
minus_keeps n q (x ∷ xs) (inl e) ne = subst (λ (ys : List ℕ). IsAmong q ys) (sym (minus_there n x xs (λ h. ne (e ∙ sym h)))) (inl e)
minus_keeps n q (x ∷ xs) (inr i) ne =
    elim (cases_eq n x) [
      | inl e ↦ subst (λ (ys : List ℕ). IsAmong q ys) (sym (minus_drop n x xs e)) (minus_keeps n q xs i ne)
      | inr h ↦ subst (λ (ys : List ℕ). IsAmong q ys) (sym (minus_there n x xs h)) (inr (minus_keeps n q xs i ne))
    ]

pub NoneTwice-minus : (n : ℕ) (xs : List ℕ) → NoneTwice xs → NoneTwice (minus n xs)
NoneTwice-minus n [] t = t
NoneTwice-minus n (x ∷ xs) t =
    elim (cases_eq n x) [
      | inl e ↦ subst (λ (ys : List ℕ). NoneTwice ys) (sym (minus_drop n x xs e)) (NoneTwice-minus n xs t.1)
      | inr h ↦ subst (λ (ys : List ℕ). NoneTwice ys) (sym (minus_there n x xs h)) (λ i. t.0 (among-minus n x xs i), NoneTwice-minus n xs t.1)
    ]

pub length-minus : (n : ℕ) (xs : List ℕ) → IsAmong n xs → NoneTwice xs → length xs ≡ length (minus n xs) + 1
length-minus n [] i t = absurd i
length-minus n (x ∷ xs) (inl e) t = rw (minus_here n x xs e (λ i. t.0 (subst (λ (k : ℕ). IsAmong k xs) e i))) (omega arith)
length-minus n (x ∷ xs) (inr i) t =
    let rest = length-minus n xs i t.1 in rw (minus_there n x xs (λ e. t.0 (subst (λ (k : ℕ). IsAmong k xs) e i))) (omega arith)

-- what is among the nodes with one more at the back
pub among_push : (n : ℕ) (xs : List ℕ) → IsAmong n (xs ++ n ∷ [])
among_push n [] = inl refl
among_push n (x ∷ xs) = inr (among_push n xs)

pub among_kept : (n q : ℕ) (xs : List ℕ) → IsAmong q xs → IsAmong q (xs ++ n ∷ [])
among_kept n q [] i = absurd i
among_kept n q (x ∷ xs) (inl e) = inl e
among_kept n q (x ∷ xs) (inr i) = inr (among_kept n q xs i)

pub among-push : (n q : ℕ) (xs : List ℕ) → IsAmong q (xs ++ n ∷ []) → (q ≡ n) ⊎ IsAmong q xs
among-push n q [] (inl e) = inl e
among-push n q [] (inr i) = inr i
among-push n q (x ∷ xs) (inl e) = inr (inl e)
among-push n q (x ∷ xs) (inr i) = elim (among-push n q xs i) [ inl e ↦ inl e | inr j ↦ inr (inr j) ]

pub NoneTwice-push : (n : ℕ) (xs : List ℕ) → NoneTwice xs → (IsAmong n xs → ⊥) → NoneTwice (xs ++ n ∷ [])
NoneTwice-push n [] t free = (λ i. i, tt)
NoneTwice-push n (x ∷ xs) t free =
    (λ i. elim (among-push n x xs i) [ inl e ↦ free (inl (sym e)) | inr j ↦ t.0 j ], NoneTwice-push n xs t.1 (λ i. free (inr i)))

-- the nodes without the one at an index
pub minus_at : (n i : ℕ) (xs : List ℕ) → slice_get xs i ≡ Some n → NoneTwice xs → take i xs ++ drop (suc i) xs ≡ minus n xs
minus_at n i [] h t = let end : None ≡ Some n = h in absurd (cc)
minus_at n zero (x ∷ xs) h t =
    let same : n ≡ x = cc in sym (minus_here n x xs same (λ i. t.0 (subst (λ (k : ℕ). IsAmong k xs) same i)))
minus_at n (suc i) (x ∷ xs) h t =
    sym (minus_there n x xs (λ e. t.0 (subst (λ (k : ℕ). IsAmong k xs) e (among_at xs i n h)))
    ∙ ap (λ ys. x ∷ ys) (sym (minus_at n i xs h t.1)))
