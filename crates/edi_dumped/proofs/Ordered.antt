-- Those who stand at an end, in the order of their names: such a list is one.
use Rattle.std.proofs.Common.{◌≡◌, ◌⊎◌, inl, inr, ℕ, suc, ◌<◌, Bool, true, false, ◌&&◌, ◌||◌, List, [], ◌∷◌, Contains, Some, refl, sym, ap, subst, ◌∙◌}
use Rattle.std.proofs.Common.{arith, slice_get}
use Rattle.std.specs.Prelude.{nat_eq}
use Rattle.std.proofs.lemmas.Bool.{cases_eq, cases_lt, eq-eqb, le-ltb, lt-ltb, ne_eqb}
use Rattle.edi_calls.specs.Names.{Name}
use Rattle.edi_target.specs.Mach.{Machine}
use Rattle.edi_waits.specs.Ends.{AreAtEnd, AtEnd, is_before}
use Rattle.edi_waits.proofs.Ordered.{InOrder, IsIn, contained_in, in_contained}

-- ---- names

before_by : (x y : ℕ) (p q : Name) → is_before (x ∷ p) (y ∷ q) ≡ true → (x < y) ⊎ ((x ≡ y) × (is_before p q ≡ true))
before_by x y p q h = elim (cases_lt x y) [
  | inl less ↦ inl less
  | inr least ↦ elim (cases_eq x y) [
    | inl same ↦ inr (same, sym (λ i. le-ltb x y least i || (eq-eqb x y same i && is_before p q)) ∙ h)
    | inr other ↦
        let wrong : false ≡ true = sym (λ i. le-ltb x y least i || (ne_eqb x y other i && is_before p q)) ∙ h in
        absurd (cc)
  ]
]

before_less : (x y : ℕ) (p q : Name) → x < y → is_before (x ∷ p) (y ∷ q) ≡ true
before_less x y p q less = ap (λ b. b || (nat_eq x y && is_before p q)) (lt-ltb x y less)

before_same : (x y : ℕ) (p q : Name) → x ≡ y → is_before p q ≡ true → is_before (x ∷ p) (y ∷ q) ≡ true
before_same x y p q same h = (λ i. le-ltb x y (omega (arith, same)) i || (eq-eqb x y same i && h i))

not_itself : (p : Name) → is_before p p ≡ true → ⊥
not_itself [] h = absurd (cc)
not_itself (x ∷ p) h = elim (before_by x x p p h) [
  | inl less ↦ absurd (omega (arith, less))
  | inr more ↦ not_itself p more.1
]

before_later : (p q r : Name) → is_before p q ≡ true → is_before q r ≡ true → is_before p r ≡ true
before_later [] [] r h k = absurd (cc)
before_later [] (y ∷ q) [] h k = absurd (cc)
before_later [] (y ∷ q) (z ∷ r) h k = refl
before_later (x ∷ p) [] r h k = absurd (cc)
before_later (x ∷ p) (y ∷ q) [] h k = absurd (cc)
before_later (x ∷ p) (y ∷ q) (z ∷ r) h k = elim (before_by x y p q h) [
  | inl less ↦ elim (before_by y z q r k) [
    | inl next ↦ before_less x z p r (omega (arith, less, next))
    | inr next ↦ before_less x z p r (omega (arith, less, next.0))
  ]
  | inr same ↦ elim (before_by y z q r k) [
    | inl next ↦ before_less x z p r (omega (arith, same.0, next))
    | inr next ↦ before_same x z p r (same.0 ∙ next.0) (before_later p q r same.1 next.1)
  ]
]

-- ---- lists in order

in_order : (xs : List AtEnd)
    → ((i : ℕ) (x y : AtEnd) → slice_get xs i ≡ Some x → slice_get xs (suc i) ≡ Some y → is_before x.process y.process ≡ true) → InOrder xs
in_order [] h = tt
in_order (x ∷ []) h = tt
in_order (x ∷ y ∷ xs) h = (h 0 x y refl refl, in_order (y ∷ xs) (λ i a b e f. h (suc i) a b e f))

rest : (x : AtEnd) (xs : List AtEnd) → InOrder (x ∷ xs) → InOrder xs
rest x [] o = tt
rest x (y ∷ ys) o = o.1

first_before : (x z : AtEnd) (xs : List AtEnd) → InOrder (x ∷ xs) → IsIn z xs → is_before x.process z.process ≡ true
first_before x z [] o h = absurd h
first_before x z (y ∷ ys) o (inl e) = ap (λ (w : AtEnd). is_before x.process w.process) e ∙ o.0
first_before x z (y ∷ ys) o (inr h) = before_later x.process y.process z.process o.0 (first_before y z ys o.1 h)

same_first : (x y : AtEnd) (xs ys : List AtEnd) → InOrder (x ∷ xs) → InOrder (y ∷ ys) → IsIn x (y ∷ ys) → IsIn y (x ∷ xs) → x ≡ y
same_first x y xs ys o p (inl e) k = e
same_first x y xs ys o p (inr h) (inl e) = sym e
same_first x y xs ys o p (inr h) (inr k) =
    absurd (not_itself x.process (before_later x.process y.process x.process (first_before x y xs o k) (first_before y x ys p h)))

-- one of those after the first is among those after the same first
in_rest : (x y z : AtEnd) (xs ys : List AtEnd) → InOrder (x ∷ xs) → x ≡ y → IsIn z xs → IsIn z (y ∷ ys) → IsIn z ys
in_rest x y z xs ys o same h (inl e) =
    absurd (not_itself x.process (ap (λ (w : AtEnd). is_before x.process w.process) (same ∙ sym e) ∙ first_before x z xs o h))
in_rest x y z xs ys o same h (inr k) = k

same_lists : (xs ys : List AtEnd) → InOrder xs → InOrder ys → ((z : AtEnd) → IsIn z xs → IsIn z ys) → ((z : AtEnd) → IsIn z ys → IsIn z xs) → xs ≡ ys
same_lists [] [] o p there back = refl
same_lists [] (y ∷ ys) o p there back = absurd (back y (inl refl))
same_lists (x ∷ xs) [] o p there back = absurd (there x (inl refl))
same_lists (x ∷ xs) (y ∷ ys) o p there back =
    let same : x ≡ y = same_first x y xs ys o p (there x (inl refl)) (back y (inl refl)) in
    let more : xs ≡ ys = same_lists xs ys (rest x xs o) (rest y ys p) (λ z h. in_rest x y z xs ys o same h (there z (inr h)))
    (λ z h. in_rest y x z ys xs p (sym same) h (back z (inr h))) in
    (λ i. same i ∷ more i)

-- ---- those who stand at an end

module _ (m : Machine) (ran : Name → Bool) where
  among : (xs ys : List AtEnd) → AreAtEnd m ran xs → AreAtEnd m ran ys → (z : AtEnd) → IsIn z xs → IsIn z ys
  among xs ys are also z h =
      let one = are.each z (in_contained xs z h) in
      contained_in ys z (subst (Contains ys) (sym one.2) (also.all z.process one.0 one.1))

  -- THEY ARE ONE LIST
  pub ends_are_one : (xs ys : List AtEnd) → AreAtEnd m ran xs → AreAtEnd m ran ys → xs ≡ ys
  ends_are_one xs ys are also =
      same_lists xs ys (in_order xs are.order) (in_order ys also.order) (among xs ys are also) (among ys xs also are)
