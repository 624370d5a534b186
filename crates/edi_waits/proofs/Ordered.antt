-- Processes that are put in by their names, in order.
use Rattle.std.proofs.Common.{◌≡◌, ◌⊎◌, inl, inr, ℕ, zero, suc, Bool, true, false, if◌then◌else◌, List, [], ◌∷◌, map, drop, Contains}
use Rattle.std.proofs.Common.{Some, refl, sym, ap, ◌∙◌, arith, slice_get}
use Rattle.std.specs.Prelude.{⊤, insert}
use Rattle.edi_calls.specs.Names.{Name}
use Rattle.edi_waits.specs.declared.ends.Process.{Process}
use Rattle.edi_waits.specs.Ends.{AtEnd, is_before}
use Rattle.edi_waits.specs.Left.{comes_before, index_among, put_in, told_end}
use Rattle.edi_waits.proofs.Compared.{before_other}
use Rattle.edi_waits.proofs.Lists.{at_contained, contains_later, some_is}

-- ---- one of these

abbrev pub IsIn : AtEnd → List AtEnd → Type 0
IsIn x [] = ⊥
IsIn x (y ∷ ys) = (x ≡ y) ⊎ IsIn x ys

pub at_in : (xs : List AtEnd) (i : ℕ) (x : AtEnd) → slice_get xs i ≡ Some x → IsIn x xs
at_in [] i x e = absurd (cc)
at_in (y ∷ ys) zero x e = inl (sym (some_is e))
at_in (y ∷ ys) (suc i) x e = inr (at_in ys i x e)

pub contained_in : (xs : List AtEnd) (x : AtEnd) → Contains xs x → IsIn x xs
contained_in xs x c = let r = at_contained xs x c in at_in xs r.0 x r.1

pub in_contained : (xs : List AtEnd) (x : AtEnd) → IsIn x xs → Contains xs x
in_contained [] x h = absurd h
in_contained (y ∷ ys) x (inl e) = (0, omega arith, sym e)
in_contained (y ∷ ys) x (inr h) = contains_later y ys x (in_contained ys x h)

-- ---- one is put in

pub in_put : (x : AtEnd) (ys : List AtEnd) → IsIn x (put_in x ys)
in_put x [] = inl refl
in_put x (y ∷ ys) = go (is_before x.process y.process) (in_put x ys)
  where
    go : (b : Bool) → IsIn x (put_in x ys) → IsIn x (if b then x ∷ y ∷ ys else y ∷ put_in x ys)
    go true h = inl refl
    go false h = inr h

pub in_more : (x z : AtEnd) (ys : List AtEnd) → IsIn z ys → IsIn z (put_in x ys)
in_more x z [] h = absurd h
in_more x z (y ∷ ys) h = go (is_before x.process y.process) h (in_more x z ys)
  where
    go : (b : Bool) → (z ≡ y) ⊎ IsIn z ys → (IsIn z ys → IsIn z (put_in x ys)) → IsIn z (if b then x ∷ y ∷ ys else y ∷ put_in x ys)
    go true h more = inr h
    go false (inl e) more = inl e
    go false (inr h) more = inr (more h)

pub in_back : (x z : AtEnd) (ys : List AtEnd) → IsIn z (put_in x ys) → (z ≡ x) ⊎ IsIn z ys
in_back x z [] (inl e) = inl e
in_back x z [] (inr h) = absurd h
in_back x z (y ∷ ys) h = go (is_before x.process y.process) h (in_back x z ys)
  where
    go : (b : Bool) → IsIn z (if b then x ∷ y ∷ ys else y ∷ put_in x ys) → (IsIn z (put_in x ys) → (z ≡ x) ⊎ IsIn z ys) → (z ≡ x) ⊎ ((z ≡ y) ⊎ IsIn z ys)
    go true (inl e) more = inl e
    go true (inr h) more = inr h
    go false (inl e) more = inr (inl e)
    go false (inr h) more = elim (more h) [
      | inl e ↦ inl e
      | inr k ↦ inr (inr k)
    ]

-- none of these has this name
abbrev pub Free : Name → List AtEnd → Type 0
Free p xs = (x : AtEnd) → IsIn x xs → x.process ≡ p → ⊥

-- ---- they are in order

-- each comes before the next one
abbrev pub InOrder : List AtEnd → Type 0
InOrder [] = ⊤
InOrder (x ∷ []) = ⊤
InOrder (x ∷ y ∷ xs) = (is_before x.process y.process ≡ true) × InOrder (y ∷ xs)

pub ordered : (xs : List AtEnd) → InOrder xs → (i : ℕ) (x y : AtEnd) → slice_get xs i ≡ Some x → slice_get xs (suc i) ≡ Some y →
    is_before x.process y.process ≡ true
ordered [] o i x y p q = absurd (cc)
ordered (z ∷ []) o i x y p q = absurd (cc)
ordered (z ∷ w ∷ zs) o zero x y p q =
    let a : z ≡ x = some_is p in
    let b : w ≡ y = some_is q in
    (λ i. is_before (sym a i).process (sym b i).process) ∙ o.0
ordered (z ∷ w ∷ zs) o (suc i) x y p q = ordered (w ∷ zs) o.1 i x y p q

after : (z x : AtEnd) (ys : List AtEnd) → is_before z.process x.process ≡ true → InOrder (z ∷ ys) → Free x.process ys → InOrder (z ∷ put_in x ys)
after z x [] b o f = (b, tt)
after z x (y ∷ ys) b o f = go (is_before x.process y.process) refl (after y x ys)
  where
    go : (t : Bool) → is_before x.process y.process ≡ t →
        (is_before y.process x.process ≡ true → InOrder (y ∷ ys) → Free x.process ys → InOrder (y ∷ put_in x ys)) →
        InOrder (z ∷ (if t then x ∷ y ∷ ys else y ∷ put_in x ys))
    go true e more = (b, (e, o.1))
    go false e more =
        (o.0, more (before_other x.process y.process e (λ same. f y (inl refl) (sym same))) o.1 (λ t h k. f t (inr h) k))

pub order_put : (x : AtEnd) (ys : List AtEnd) → InOrder ys → Free x.process ys → InOrder (put_in x ys)
order_put x [] o f = tt
order_put x (y ∷ ys) o f = go (is_before x.process y.process) refl
  where
    go : (t : Bool) → is_before x.process y.process ≡ t → InOrder (if t then x ∷ y ∷ ys else y ∷ put_in x ys)
    go true e = (e, o)
    go false e = after y x ys (before_other x.process y.process e (λ same. f y (inl refl) (sym same))) o (λ t h k. f t (inr h) k)

-- ---- where one is put in

-- at its index
insert_is : (x : AtEnd) (ys : List AtEnd) → insert ys (index_among x.process ys) x ≡ put_in x ys
insert_is x [] = refl
insert_is x (y ∷ ys) = go (is_before x.process y.process) (insert_is x ys)
  where
    go : (t : Bool) → insert ys (index_among x.process ys) x ≡ put_in x ys →
        insert (y ∷ ys) (if t then 0 else suc (index_among x.process ys)) x ≡ (if t then x ∷ y ∷ ys else y ∷ put_in x ys)
    go true e = refl
    go false e = ap (λ (zs : List AtEnd). y ∷ zs) e

map_insert : (ps : List Process) (i : ℕ) (p : Process) → map told_end (insert ps i p) ≡ insert (map told_end ps) i (told_end p)
map_insert [] zero p = refl
map_insert [] (suc i) p = refl
map_insert (q ∷ ps) zero p = refl
map_insert (q ∷ ps) (suc i) p = ap (λ (zs : List AtEnd). told_end q ∷ zs) (map_insert ps i p)

pub told_put : (ps : List Process) (p : Process) (i : ℕ) → i ≡ index_among (told_end p).process (map told_end ps) →
    map told_end (insert ps i p) ≡ put_in (told_end p) (map told_end ps)
told_put ps p i e =
    map_insert ps i p ∙ ap (λ n. insert (map told_end ps) n (told_end p)) e ∙ insert_is (told_end p) (map told_end ps)

-- index after index
module _ (p : Name) where
  abbrev Among : List Process → ℕ
  Among ps = index_among p (map told_end ps)

  pub found_at : (ps : List Process) (i : ℕ) → comes_before p (slice_get ps i) ≡ true → Among (drop i ps) ≡ 0
  found_at [] zero e = refl
  found_at [] (suc i) e = refl
  found_at (q ∷ ps) zero e = ap (λ b. if b then 0 else suc (Among ps)) e
  found_at (q ∷ ps) (suc i) e = found_at ps i e

  pub not_at : (ps : List Process) (i : ℕ) → comes_before p (slice_get ps i) ≡ false → Among (drop i ps) ≡ suc (Among (drop (suc i) ps))
  not_at [] i e = absurd (cc)
  not_at (q ∷ ps) zero e = ap (λ b. if b then 0 else suc (Among ps)) e
  not_at (q ∷ ps) (suc i) e = not_at ps i e
