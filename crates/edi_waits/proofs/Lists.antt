-- Lists: what they contain, and where.
use Rattle.std.proofs.Common.{◌≡◌, ◌⊎◌, inl, inr, ℕ, zero, suc, ◌+◌, ◌-◌, ◌<◌, ◌≤◌, List, [], ◌∷◌, ◌++◌, length, map, Contains, Some, refl, sym, ap, subst, ◌∙◌, arith}
use Rattle.std.proofs.Common.{slice_get, slice_set, slice_index_or}
use Rattle.edi_calls.specs.Names.{Name}
use Rattle.edi_calls.specs.Ready.{child, children}
use Rattle.edi_ring.specs.Links.{IsAmong, NoneTwice}
use Rattle.edi_ring.proofs.Calls.{among_at}

pub some_is : {X : Type 0} {x y : X} → Some x ≡ Some y → x ≡ y
some_is e = cc

-- ---- what a list contains

pub contains_later : {X : Type 0} (x : X) (xs : List X) (y : X) → Contains xs y → Contains (x ∷ xs) y
contains_later x xs y c = (suc c.0, omega (arith, c.1), c.2)

pub contains_front : {X : Type 0} (xs ys : List X) (x : X) → Contains xs x → Contains (xs ++ ys) x
contains_front [] ys x c = absurd (omega (arith, c.1))
contains_front (y ∷ xs) ys x (zero, l, is) = (0, omega arith, is)
contains_front (y ∷ xs) ys x (suc k, l, is) = contains_later y (xs ++ ys) x (contains_front xs ys x (k, omega (arith, l), is))

pub contains_last : {X : Type 0} (xs : List X) (x : X) → Contains (xs ++ x ∷ []) x
contains_last [] x = (0, omega arith, refl)
contains_last (y ∷ xs) x = contains_later y (xs ++ x ∷ []) x (contains_last xs x)

pub contains_at : {X : Type 0} (xs : List X) (i : ℕ) (x : X) → slice_get xs i ≡ Some x → Contains xs x
contains_at [] i x e = absurd (cc)
contains_at (y ∷ xs) zero x e = (0, omega arith, some_is e)
contains_at (y ∷ xs) (suc i) x e = contains_later y xs x (contains_at xs i x e)

pub at_contained : {X : Type 0} (xs : List X) (x : X) → Contains xs x → (i : ℕ) × (slice_get xs i ≡ Some x)
at_contained [] x c = absurd (omega (arith, c.1))
at_contained (y ∷ xs) x (zero, l, is) = (0, ap Some is)
at_contained (y ∷ xs) x (suc k, l, is) = let r = at_contained xs x (k, omega (arith, l), is) in (suc r.0, r.1)

-- ---- where it stands

pub split_at : {X : Type 0} (xs : List X) (x y : X) (i : ℕ) → slice_get (xs ++ x ∷ []) i ≡ Some y → (slice_get xs i ≡ Some y) ⊎ ((i ≡ length xs) × (y ≡ x))
split_at [] x y zero e = inr (refl, sym (some_is e))
split_at [] x y (suc i) e = absurd (cc)
split_at (z ∷ xs) x y zero e = inl e
split_at (z ∷ xs) x y (suc i) e = elim (split_at xs x y i e) [
  | inl h ↦ inl h
  | inr h ↦ inr (ap suc h.0, h.1)
]

pub past : {X : Type 0} (xs ys : List X) (i : ℕ) → length xs ≤ i → slice_get (xs ++ ys) i ≡ slice_get ys (i - length xs)
past {X = X} [] ys i l = let e : i ≡ i - length {A = X} [] = omega arith in ap (slice_get ys) e
past (x ∷ xs) ys zero l = absurd (omega (arith, l))
past (x ∷ xs) ys (suc i) l = let e : suc i - suc (length xs) ≡ i - length xs = omega arith in rw e (past xs ys i (omega (arith, l)))

pub map_at : {X Y : Type 0} (f : X → Y) (xs : List X) (i : ℕ) (x : X) → slice_get xs i ≡ Some x → slice_get (map f xs) i ≡ Some (f x)
map_at f [] i x e = absurd (cc)
map_at f (y ∷ xs) zero x e = ap (λ z. Some (f z)) (some_is e)
map_at f (y ∷ xs) (suc i) x e = map_at f xs i x e

pub mapped : {X Y : Type 0} (f : X → Y) (xs : List X) → length (map f xs) ≡ length xs
mapped f [] = refl
mapped f (x ∷ xs) = ap suc (mapped f xs)

pub once_at : (xs : List ℕ) → NoneTwice xs → (i j x : ℕ) → slice_get xs i ≡ Some x → slice_get xs j ≡ Some x → i ≡ j
once_at [] n i j x p q = absurd (cc)
once_at (y ∷ xs) n zero zero x p q = refl
once_at (y ∷ xs) n zero (suc j) x p q = absurd (n.0 (subst (λ z. IsAmong z xs) (sym (some_is p)) (among_at xs j x q)))
once_at (y ∷ xs) n (suc i) zero x p q = absurd (n.0 (subst (λ z. IsAmong z xs) (sym (some_is q)) (among_at xs i x p)))
once_at (y ∷ xs) n (suc i) (suc j) x p q = ap suc (once_at xs n.1 i j x p q)

-- ---- children

-- each by its number
pub children_at : (p : Name) (f n i k : ℕ) (q : Name) → slice_get (children p f i n) k ≡ Some q → q ≡ child p f (i + k)
children_at p f zero i k q e = absurd (cc)
children_at p f (suc n) i zero q e = let z : i + 0 ≡ i = omega arith in rw z (sym (some_is e))
children_at p f (suc n) i (suc k) q e =
    let r : q ≡ child p f (suc i + k) = children_at p f n (suc i) k q e in
    let z : suc i + k ≡ i + suc k = omega arith in
    r ∙ ap (child p f) z

-- ---- an item that is set

pub item_same : {X : Type 0} (d : X) (xs : List X) (i : ℕ) (x : X) → i < length xs → slice_index_or (slice_set xs i x) i d ≡ x
item_same d [] i x l = absurd (omega (arith, l))
item_same d (y ∷ xs) zero x l = refl
item_same d (y ∷ xs) (suc i) x l = item_same d xs i x (omega (arith, l))

pub item_other : {X : Type 0} (d : X) (xs : List X) (i j : ℕ) (x : X) → (j ≡ i → ⊥) → slice_index_or (slice_set xs i x) j d ≡ slice_index_or xs j d
item_other d [] i j x h = refl
item_other d (y ∷ xs) zero zero x h = absurd (h refl)
item_other d (y ∷ xs) zero (suc j) x h = refl
item_other d (y ∷ xs) (suc i) zero x h = refl
item_other d (y ∷ xs) (suc i) (suc j) x h = item_other d xs i j x (λ e. h (ap suc e))
