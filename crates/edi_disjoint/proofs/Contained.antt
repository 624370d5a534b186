-- What a list contains, of one element more, and of two lists.
use Rattle.std.proofs.Common.{◌≡◌, ℕ, zero, suc, ◌<◌, ◌⊎◌, inl, inr, List, [], ◌∷◌, ◌++◌, length, refl, subst, arith}
use Rattle.std.specs.Prelude.{Contains, slice_index_or}

module _ {A : Type 0} where
  pub contains_first : (x : A) (xs : List A) → Contains (x ∷ xs) x
  contains_first x xs = (0, omega arith, refl)

  pub contains_later : (x y : A) (xs : List A) → Contains xs y → Contains (x ∷ xs) y
  contains_later x y xs h = (suc h.0, omega (arith, h.1), h.2)

  pub contains_either : (x y : A) (xs : List A) → Contains (x ∷ xs) y → (x ≡ y) ⊎ Contains xs y
  contains_either x y xs h = go h.0 h.1 h.2
    where
      go : (k : ℕ) → k < length (x ∷ xs) → slice_index_or (x ∷ xs) k y ≡ y → (x ≡ y) ⊎ Contains xs y
      go zero l e = inl e
      go (suc k) l e = inr (k, omega (arith, l), e)

  pub contains_none : (y : A) → Contains [] y → ⊥
  contains_none y h = omega (arith, h.1)

pub contains_append : {A : Type 0} (xs ys : List A) (x : A) → Contains xs x → Contains (xs ++ ys) x
contains_append [] ys x h = absurd (contains_none x h)
contains_append (z ∷ xs) ys x h = go (contains_either z x xs h) (contains_append xs ys x)
  where
    go : (z ≡ x) ⊎ Contains xs x → (Contains xs x → Contains (xs ++ ys) x) → Contains (z ∷ (xs ++ ys)) x
    go (inl e) more = subst (Contains (z ∷ (xs ++ ys))) e (contains_first z (xs ++ ys))
    go (inr k) more = contains_later z x (xs ++ ys) (more k)

pub contains_last : {A : Type 0} (xs : List A) (x : A) → Contains (xs ++ x ∷ []) x
contains_last [] x = contains_first x []
contains_last (z ∷ xs) x = contains_later z x (xs ++ x ∷ []) (contains_last xs x)

pub contains_more : {A : Type 0} (xs : List A) (x y : A) → Contains (xs ++ x ∷ []) y → Contains xs y ⊎ (x ≡ y)
contains_more [] x y h = go (contains_either x y [] h)
  where
    go : (x ≡ y) ⊎ Contains [] y → Contains [] y ⊎ (x ≡ y)
    go (inl e) = inr e
    go (inr k) = absurd (contains_none y k)
contains_more (z ∷ xs) x y h = go (contains_either z y (xs ++ x ∷ []) h) (contains_more xs x y)
  where
    go : (z ≡ y) ⊎ Contains (xs ++ x ∷ []) y → (Contains (xs ++ x ∷ []) y → Contains xs y ⊎ (x ≡ y)) → Contains (z ∷ xs) y ⊎ (x ≡ y)
    go (inl e) more = inl (subst (Contains (z ∷ xs)) e (contains_first z xs))
    go (inr k) more = elim (more k) [ inl m ↦ inl (contains_later z y xs m) | inr e ↦ inr e ]

pub contains_right : {A : Type 0} (xs ys : List A) (x : A) → Contains ys x → Contains (xs ++ ys) x
contains_right [] ys x h = h
contains_right (z ∷ xs) ys x h = contains_later z x (xs ++ ys) (contains_right xs ys x h)

pub contains_halves : {A : Type 0} (xs ys : List A) (x : A) → Contains (xs ++ ys) x → Contains xs x ⊎ Contains ys x
contains_halves [] ys x h = inr h
contains_halves (z ∷ xs) ys x h = go (contains_either z x (xs ++ ys) h) (contains_halves xs ys x)
  where
    go : (z ≡ x) ⊎ Contains (xs ++ ys) x → (Contains (xs ++ ys) x → Contains xs x ⊎ Contains ys x) → Contains (z ∷ xs) x ⊎ Contains ys x
    go (inl e) more = inl (subst (Contains (z ∷ xs)) e (contains_first z xs))
    go (inr k) more = elim (more k) [ inl l ↦ inl (contains_later z x xs l) | inr r ↦ inr r ]
