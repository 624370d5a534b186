-- A list by what stands at each of its places.
use Rattle.std.proofs.Common.{◌≡◌, ℕ, zero, suc, ◌+◌, ◌<◌, List, [], ◌∷◌, ◌++◌, length, take, refl, ap, arith, set, add-one}
use Rattle.std.specs.Prelude.{Some, None, slice_get}

pub get-set_same : {A : Type 0} (xs : List A) (i : ℕ) (a : A) → i < length xs → slice_get (set xs i a) i ≡ Some a
get-set_same [] i a lt = absurd (omega arith)
get-set_same (x ∷ xs) zero a lt = refl
get-set_same (x ∷ xs) (suc i) a lt = get-set_same xs i a (omega arith)

pub get-set_other : {A : Type 0} (xs : List A) (i j : ℕ) (a : A) → (i ≡ j → ⊥) → slice_get (set xs i a) j ≡ slice_get xs j
get-set_other [] i j a ne = refl
get-set_other (x ∷ xs) zero zero a ne = absurd (ne refl)
get-set_other (x ∷ xs) zero (suc j) a ne = refl
get-set_other (x ∷ xs) (suc i) zero a ne = refl
get-set_other (x ∷ xs) (suc i) (suc j) a ne = get-set_other xs i j a (λ e. ne (ap (λ k. suc k) e))

-- what stands there already, written again
pub set_again : {A : Type 0} (xs : List A) (i : ℕ) (a : A) → slice_get xs i ≡ Some a → set xs i a ≡ xs
set_again [] i a e = refl
set_again (x ∷ xs) zero a e = let h : Some x ≡ Some a = e in cc
set_again (x ∷ xs) (suc i) a e = ap (λ ys. x ∷ ys) (set_again xs i a e)

-- lists with the same at each place are the same
pub same_gets : {A : Type 0} (xs ys : List A) → ((k : ℕ) → slice_get xs k ≡ slice_get ys k) → xs ≡ ys
same_gets [] [] same = refl
same_gets [] (y ∷ ys) same = let e : None ≡ Some y = same 0 in absurd (cc)
same_gets (x ∷ xs) [] same = let e : Some x ≡ None = same 0 in absurd (cc)
same_gets (x ∷ xs) (y ∷ ys) same =
    let first : Some x ≡ Some y = same 0 in
    let rest : xs ≡ ys = same_gets xs ys (λ k. same (suc k)) in cc

take-suc_some : {A : Type 0} (xs : List A) (i : ℕ) (a : A) → slice_get xs i ≡ Some a → take (suc i) xs ≡ take i xs ++ a ∷ []
take-suc_some [] i a e = let h : None ≡ Some a = e in absurd (cc)
take-suc_some (x ∷ xs) zero a e = let h : Some x ≡ Some a = e in cc
take-suc_some (x ∷ xs) (suc i) a e = ap (λ ys. x ∷ ys) (take-suc_some xs i a e)

take-suc_none : {A : Type 0} (xs : List A) (i : ℕ) → slice_get xs i ≡ None → take (suc i) xs ≡ take i xs
take-suc_none [] zero e = refl
take-suc_none [] (suc i) e = refl
take-suc_none (x ∷ xs) zero e = let h : Some x ≡ None = e in absurd (cc)
take-suc_none (x ∷ xs) (suc i) e = ap (λ ys. x ∷ ys) (take-suc_none xs i e)

-- one more of the front, or no more
pub take_one_more : {A : Type 0} (xs : List A) (i : ℕ) (a : A) → slice_get xs i ≡ Some a → take (i + 1) xs ≡ take i xs ++ a ∷ []
take_one_more xs i a e = rw add-one (take-suc_some xs i a e)

pub take_no_more : {A : Type 0} (xs : List A) (i : ℕ) → slice_get xs i ≡ None → take (i + 1) xs ≡ take i xs
take_no_more xs i e = rw add-one (take-suc_none xs i e)
