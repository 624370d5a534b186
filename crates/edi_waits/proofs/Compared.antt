-- Which of two names comes first, branch by branch.
use Rattle.std.proofs.Common.{◌≡◌, ◌⊎◌, inl, inr, ℕ, zero, suc, ◌<◌, ◌≤◌, Bool, true, false, ◌&&◌, ◌||◌, List, [], ◌∷◌, length, drop, Option, Some, None, refl, sym, ap}
use Rattle.std.proofs.Common.{◌∙◌, arith, slice_get}
use Rattle.std.specs.Prelude.{nat_lt, nat_eq}
use Rattle.std.proofs.lemmas.Bool.{cases_eq, cases_lt, eq-eqb, eqb-true, le-ltb, lt-ltb, ne_eqb}
use Rattle.std.proofs.lemmas.List.{drop_all}
use Rattle.std.proofs.lemmas.Option.{slice_get_within}
use Rattle.edi_calls.specs.Names.{Name}
use Rattle.edi_waits.specs.declared.births.Branch.{Branch}
use Rattle.edi_waits.specs.Ends.{is_before}
use Rattle.edi_waits.specs.Left.{decided, decided_by}
use Rattle.edi_waits.specs.Told.{name_of}
use Rattle.edi_waits.proofs.Lists.{some_is}

-- ---- one is before the other

less : (x y : ℕ) (p q : Name) → x < y → is_before (x ∷ p) (y ∷ q) ≡ true
less x y p q l = ap (λ b. b || (nat_eq x y && is_before p q)) (lt-ltb x y l)

not_less : (x y : ℕ) (p q : Name) → y < x → is_before (x ∷ p) (y ∷ q) ≡ false
not_less x y p q l = (λ i. le-ltb x y (omega (arith, l)) i || (ne_eqb x y (λ e. absurd (omega (arith, e, l))) i && is_before p q))

alike : (x : ℕ) (p q : Name) → is_before (x ∷ p) (x ∷ q) ≡ is_before p q
alike x p q = (λ i. le-ltb x x (omega arith) i || (eq-eqb x x refl i && is_before p q))

-- of two names that are not the same
pub before_other : (p q : Name) → is_before p q ≡ false → (p ≡ q → ⊥) → is_before q p ≡ true
before_other [] [] e h = absurd (h refl)
before_other [] (y ∷ q) e h = absurd (cc)
before_other (x ∷ p) [] e h = refl
before_other (x ∷ p) (y ∷ q) e h = elim (cases_lt x y) [
  | inl l ↦ let wrong : true ≡ false = sym (less x y p q l) ∙ e in absurd (cc)
  | inr l ↦ go (cases_eq x y) l (before_other p q)
]
  where
    go : (x ≡ y) ⊎ (x ≡ y → ⊥) → y ≤ x → (is_before p q ≡ false → (p ≡ q → ⊥) → is_before q p ≡ true) → is_before (y ∷ q) (x ∷ p) ≡ true
    go (inl same) l more =
        ap (λ z. is_before (y ∷ q) (z ∷ p)) same ∙ alike y q p
        ∙ more (sym (alike y p q) ∙ ap (λ z. is_before (z ∷ p) (y ∷ q)) (sym same) ∙ e) (λ r. h (λ i. same i ∷ r i))
    go (inr other) l more = less y x q p (omega (arith, l, other))

-- ---- by the branches at an index

drop_some : {X : Type 0} (xs : List X) (i : ℕ) (x : X) → slice_get xs i ≡ Some x → drop i xs ≡ x ∷ drop (suc i) xs
drop_some [] i x e = absurd (cc)
drop_some (y ∷ ys) zero x e = ap (λ z. z ∷ ys) (some_is e)
drop_some (y ∷ ys) (suc i) x e = drop_some ys i x e

drop_none : {X : Type 0} (xs : List X) (i : ℕ) → slice_get xs i ≡ None → drop i xs ≡ []
drop_none [] zero e = refl
drop_none [] (suc i) e = refl
drop_none (y ∷ ys) zero e = absurd (cc)
drop_none (y ∷ ys) (suc i) e = drop_none ys i e

-- two branches that are not the same decide
parts : (a b c d x : Bool) → (b && d) ≡ false → (a || (b && (c || (d && x)))) ≡ (a || (b && c))
parts true b c d x e = refl
parts false false c d x e = refl
parts false true true d x e = refl
parts false true false true x e = absurd (cc)
parts false true false false x e = refl

both : (a b : Bool) → (a && b) ≡ true → (a ≡ true) × (b ≡ true)
both true true e = (refl, refl)
both true false e = absurd (cc)
both false b e = absurd (cc)

not_decided : (same before : Bool) → decided_by same before ≡ None → same ≡ true
not_decided true before e = refl
not_decided false before e = absurd (cc)

is_decided : (same before answer : Bool) → decided_by same before ≡ Some answer → (same ≡ false) × (before ≡ answer)
is_decided true before answer e = absurd (cc)
is_decided false before answer e = (refl, some_is e)

module _ (a b : List Branch) where
  abbrev Before : ℕ → Bool
  Before i = is_before (name_of (drop i a)) (name_of (drop i b))

  pub decides : (i : ℕ) (answer : Bool) → decided (slice_get a i) (slice_get b i) ≡ Some answer → Before i ≡ answer
  decides i answer h = go (slice_get a i) (slice_get b i) refl refl h
    where
      go : (x y : Option Branch) → slice_get a i ≡ x → slice_get b i ≡ y → decided x y ≡ Some answer → Before i ≡ answer
      go None None p q e = (λ t. is_before (name_of (drop_none a i p t)) (name_of (drop_none b i q t))) ∙ some_is e
      go None (Some y) p q e = (λ t. is_before (name_of (drop_none a i p t)) (name_of (drop_some b i y q t))) ∙ some_is e
      go (Some x) None p q e = (λ t. is_before (name_of (drop_some a i x p t)) (name_of (drop_none b i q t))) ∙ some_is e
      go (Some x) (Some y) p q e =
          let r = is_decided (nat_eq x.fork y.fork && nat_eq x.number y.number)
          (nat_lt x.fork y.fork || (nat_eq x.fork y.fork && nat_lt x.number y.number)) answer e in
          (λ t. is_before (name_of (drop_some a i x p t)) (name_of (drop_some b i y q t)))
          ∙ parts (nat_lt x.fork y.fork) (nat_eq x.fork y.fork) (nat_lt x.number y.number) (nat_eq x.number y.number)
          (is_before (name_of (drop (suc i) a)) (name_of (drop (suc i) b))) r.0
          ∙ r.1

  pub goes_on : (i : ℕ) → decided (slice_get a i) (slice_get b i) ≡ None → Before i ≡ Before (suc i)
  goes_on i h = go (slice_get a i) (slice_get b i) refl refl h
    where
      go : (x y : Option Branch) → slice_get a i ≡ x → slice_get b i ≡ y → decided x y ≡ None → Before i ≡ Before (suc i)
      go None None p q e = absurd (cc)
      go None (Some y) p q e = absurd (cc)
      go (Some x) None p q e = absurd (cc)
      go (Some x) (Some y) p q e =
          let r = both (nat_eq x.fork y.fork) (nat_eq x.number y.number) (not_decided (nat_eq x.fork y.fork && nat_eq x.number y.number)
          (nat_lt x.fork y.fork || (nat_eq x.fork y.fork && nat_lt x.number y.number)) e) in
          let fork : x.fork ≡ y.fork = eqb-true x.fork y.fork r.0 in
          let number : x.number ≡ y.number = eqb-true x.number y.number r.1 in
          let rest : Name = name_of (drop (suc i) a) in
          let with : Name = name_of (drop (suc i) b) in
          (λ t. is_before (name_of (drop_some a i x p t)) (name_of (drop_some b i y q t)))
          ∙ (λ t. is_before (fork t ∷ number t ∷ rest) (y.fork ∷ y.number ∷ with))
          ∙ alike y.fork (y.number ∷ rest) (y.number ∷ with) ∙ alike y.number rest with

  -- behind the last branch of the first
  pub at_end : (i : ℕ) → length a ≤ i → Before i ≡ nat_lt i (length b)
  at_end i l = ap (λ (xs : List Branch). is_before (name_of xs) (name_of (drop i b))) (drop_all i a l) ∙ go (slice_get b i) refl
    where
      there : (xs : List Branch) (i : ℕ) → i < length xs → slice_get xs i ≡ None → ⊥
      there [] i l e = absurd (omega (arith, l))
      there (x ∷ xs) zero l e = absurd (cc)
      there (x ∷ xs) (suc i) l e = there xs i (omega (arith, l)) e

      go : (y : Option Branch) → slice_get b i ≡ y → is_before [] (name_of (drop i b)) ≡ nat_lt i (length b)
      go (Some y) q =
          ap (λ (xs : List Branch). is_before [] (name_of xs)) (drop_some b i y q) ∙ sym (lt-ltb i (length b) (slice_get_within b i y q))
      go None q = elim (cases_lt i (length b)) [
        | inl inside ↦ absurd (there b i inside q)
        | inr past ↦ ap (λ (xs : List Branch). is_before [] (name_of xs)) (drop_none b i q) ∙ sym (le-ltb i (length b) past)
      ]
