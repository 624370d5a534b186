-- Numbers of slots.
use Rattle.std.proofs.Common.{◌≡◌, ℕ, zero, suc, ◌+◌, ◌<◌, ◌≤◌, inl, inr, Bool, true, false, ◌&&◌, nat_eq, if◌then◌else◌, List, [], ◌∷◌, ◌++◌, length, map}
use Rattle.std.proofs.Common.{refl, sym, ◌∙◌, ap, arith}
use Rattle.std.proofs.lemmas.Bool.{cases_eq, ne_eqb}
use Rattle.std.proofs.lemmas.Bool.Decides.{nat_tests}
use Rattle.edi_calls.specs.Names.{Name}
use Rattle.edi_calls.specs.Ready.{has, all_marked}
use Rattle.edi_ring.specs.Links.{IsAmong}
use Rattle.edi_kernel.specs.declared.table.Table.{Table}
use Rattle.edi_kernel.specs.Table.{marked_at}
use Rattle.edi_kernel.specs.TableIsMachine.{marked_among, slots_where}

-- ---- slots that pass a test

pub where_same : (f g : ℕ → Bool) (n : ℕ) → ((i : ℕ) → i < n → f i ≡ g i) → slots_where f n ≡ slots_where g n
where_same f g zero h = refl
where_same f g (suc n) h =
    ap (λ b. if b then suc (slots_where f n) else slots_where f n) (h n (omega arith))
    ∙ ap (λ k. if g n then suc k else k) (where_same f g n (λ i l. h i (omega arith)))

-- a slot that passes is counted
pub where_some : (f : ℕ → Bool) (n j : ℕ) → j < n → f j ≡ true → 0 < slots_where f n
where_some f zero j l e = absurd (omega arith)
where_some f (suc n) j l e = elim (cases_eq j n) [
  | inl here ↦ let t : f n ≡ true = ap f (sym here) ∙ e in rw t (omega arith)
  | inr there ↦ more (f n) (where_some f n j (omega arith) e)
]
  where
    more : (b : Bool) → 0 < slots_where f n → 0 < (if b then suc (slots_where f n) else slots_where f n)
    more true h = omega arith
    more false h = h

-- a slot that passes one test and not the other, where they differ nowhere else
pub where_less : (f g : ℕ → Bool) (n j : ℕ) → j < n → f j ≡ true → g j ≡ false → ((i : ℕ) → nat_eq i j ≡ false → f i ≡ g i)
    → slots_where f n ≡ suc (slots_where g n)
where_less f g zero j l t u h = absurd (omega arith)
where_less f g (suc n) j l t u h = elim (cases_eq j n) [
  | inl here ↦
      let a : f n ≡ true = ap f (sym here) ∙ t in
      let b : g n ≡ false = ap g (sym here) ∙ u in
      rw a (rw b (ap suc (where_same f g n (λ i k. h i (ne_eqb i j (λ e. omega (arith, e)))))))
  | inr there ↦
      ap (λ b. if b then suc (slots_where f n) else slots_where f n) (h n (ne_eqb n j (λ e. there (sym e))))
      ∙ more (g n) (where_less f g n j (omega arith) t u h)
]
  where
    more : (b : Bool) → slots_where f n ≡ suc (slots_where g n) → (if b then suc (slots_where f n) else slots_where f n) ≡ suc
        (if b then suc (slots_where g n) else slots_where g n)
    more true e = ap suc e
    more false e = e

-- ---- marks

pub marked-append : (t : Table) (xs ys : List ℕ) → marked_among t (xs ++ ys) ≡ marked_among t xs + marked_among t ys
marked-append t [] ys = omega arith
marked-append t (x ∷ xs) ys = go (marked_at t x) (marked-append t xs ys)
  where
    go : (b : Bool) → marked_among t (xs ++ ys) ≡ marked_among t xs + marked_among t ys
        → (if b then suc (marked_among t (xs ++ ys)) else marked_among t (xs ++ ys)) ≡ (if b then suc (marked_among t xs) else marked_among t xs) + marked_among
        t ys
    go true e = omega (arith, e)
    go false e = e

pub marked_few : (t : Table) (xs : List ℕ) → marked_among t xs ≤ length xs
marked_few t [] = omega arith
marked_few t (x ∷ xs) = go (marked_at t x) (marked_few t xs)
  where
    go : (b : Bool) → marked_among t xs ≤ length xs → (if b then suc (marked_among t xs) else marked_among t xs) ≤ suc (length xs)
    go true e = omega arith
    go false e = omega arith

pub marked_same : (t u : Table) (xs : List ℕ) → ((i : ℕ) → IsAmong i xs → marked_at t i ≡ marked_at u i) → marked_among t xs ≡ marked_among u xs
marked_same t u [] h = refl
marked_same t u (x ∷ xs) h =
    ap (λ b. if b then suc (marked_among t xs) else marked_among t xs) (h x (inl refl))
    ∙ ap (λ k. if marked_at u x then suc k else k) (marked_same t u xs (λ i k. h i (inr k)))

suc_eq : (a b : ℕ) → nat_eq a b ≡ nat_eq (suc a) (suc b)
suc_eq a b = grind (arith, nat_tests)

-- all are marked exactly where as many are
pub all_marked-among : (t : Table) (marks : List Name) (name : ℕ → Name) (xs : List ℕ) → ((i : ℕ) → IsAmong i xs → has marks (name i) ≡ marked_at t i)
    → all_marked marks (map name xs) ≡ nat_eq (marked_among t xs) (length xs)
all_marked-among t marks name [] h = refl
all_marked-among t marks name (x ∷ xs) h =
    ap (λ b. b && all_marked marks (map name xs)) (h x (inl refl))
    ∙ go (marked_at t x) (all_marked-among t marks name xs (λ i k. h i (inr k))) (marked_few t xs)
  where
    go : (b : Bool) → all_marked marks (map name xs) ≡ nat_eq (marked_among t xs) (length xs) → marked_among t xs ≤ length xs
        → (b && all_marked marks (map name xs)) ≡ nat_eq (if b then suc (marked_among t xs) else marked_among t xs) (suc (length xs))
    go true e le = e ∙ suc_eq (marked_among t xs) (length xs)
    go false e le = sym (ne_eqb (marked_among t xs) (suc (length xs)) (λ e. omega (arith, e)))

-- ---- lists of slots

pub map_same : {X : Type 0} (f g : ℕ → X) (xs : List ℕ) → ((i : ℕ) → IsAmong i xs → f i ≡ g i) → map f xs ≡ map g xs
map_same f g [] h = refl
map_same f g (x ∷ xs) h = ap (λ y. y ∷ map f xs) (h x (inl refl)) ∙ ap (λ ys. g x ∷ ys) (map_same f g xs (λ i k. h i (inr k)))

pub map-append : {X : Type 0} (f : ℕ → X) (xs ys : List ℕ) → map f (xs ++ ys) ≡ map f xs ++ map f ys
map-append f [] ys = refl
map-append f (x ∷ xs) ys = ap (λ zs. f x ∷ zs) (map-append f xs ys)
