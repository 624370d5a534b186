-- Names, and what stands in a table by name after a change.
use Rattle.std.proofs.Common.{◌≡◌, ◌⊎◌, inl, inr, Bool, true, false, if◌then◌else◌, [], ◌∷◌, Some, None, refl, sym, subst, ap, ◌∙◌, ◌&&◌, nat_eq, eq-eqb}
use Rattle.std.proofs.lemmas.Bool.{eqb-true}
use Rattle.edi_calls.specs.Names.{Name, Table, same, find, with_at, without}

-- a name is itself
pub same-refl : (p : Name) → same p p ≡ true
same-refl [] = refl
same-refl (x ∷ xs) = ap (λ b. b && same xs xs) (eq-eqb x x refl) ∙ same-refl xs

-- names that are told to be the same are equal
pub same-equal : (p q : Name) → same p q ≡ true → p ≡ q
same-equal [] [] e = refl
same-equal [] (y ∷ ys) e = cc
same-equal (x ∷ xs) [] e = cc
same-equal (x ∷ xs) (y ∷ ys) e = go (nat_eq x y) refl (same xs ys) refl e (same-equal xs ys)
  where
    go : (b : Bool) → nat_eq x y ≡ b → (c : Bool) → same xs ys ≡ c → (b && c) ≡ true → (same xs ys ≡ true → xs ≡ ys) → (x ∷ xs) ≡ (y ∷ ys)
    go true e true f g ih = let h : x ≡ y = eqb-true x y e in let k : xs ≡ ys = ih f in cc
    go true e false f g ih = cc
    go false e c f g ih = cc

-- two names are equal, or are told apart
pub same-or-other : (p q : Name) → (p ≡ q) ⊎ (same p q ≡ false)
same-or-other p q = go (same p q) refl
  where
    go : (b : Bool) → same p q ≡ b → (p ≡ q) ⊎ (same p q ≡ false)
    go true e = inl (same-equal p q e)
    go false e = inr e

pub same-symmetric : (p q : Name) → same p q ≡ false → same q p ≡ false
same-symmetric p q e = go (same q p) refl
  where
    go : (b : Bool) → same q p ≡ b → same q p ≡ false
    go true f =
        let a : same p p ≡ false = subst (λ x. same p x ≡ false) (same-equal q p f) e in
        let b : same p p ≡ true = same-refl p in
        let c : false ≡ true = sym a ∙ b in
        absurd (cc)
    go false f = f

module _ {A : Type 0} where
  -- the value of a name that has just been given one
  pub find-with_at-same : (t : Table A) (p : Name) (a : A) → find (with_at t p a) p ≡ Some a
  find-with_at-same [] p a = ap (λ b. if b then Some a else None) (same-refl p)
  find-with_at-same (entry ∷ t) p a = go (same p entry.0) refl (find-with_at-same t p a)
    where
      go : (b : Bool) → same p entry.0 ≡ b → find (with_at t p a) p ≡ Some a → find (if b then (entry.0, a) ∷ t else entry ∷ with_at t p a) p ≡ Some a
      go true e h = ap (λ b. if b then Some a else find t p) e
      go false e h = ap (λ b. if b then Some entry.1 else find (with_at t p a) p) e ∙ h

  -- and of every other name
  pub find-with_at-other : (t : Table A) (p q : Name) (a : A) → same q p ≡ false → find (with_at t p a) q ≡ find t q
  find-with_at-other [] p q a n = ap (λ b. if b then Some a else None) n
  find-with_at-other (entry ∷ t) p q a n = go (same p entry.0) refl (find-with_at-other t p q a n)
    where
      go : (b : Bool) → same p entry.0 ≡ b → find (with_at t p a) q ≡ find t q → find (if b then (entry.0, a) ∷ t else entry ∷ with_at t p a) q ≡ find
          (entry ∷ t) q
      go true e h =
          let m : same q entry.0 ≡ false = subst (λ x. same q x ≡ false) (same-equal p entry.0 e) n in
          ap (λ b. if b then Some a else find t q) m ∙ sym (ap (λ b. if b then Some entry.1 else find t q) m)
      go false e h = ap (λ x. if same q entry.0 then Some entry.1 else x) h

  -- a name that was taken out has no value
  pub find-without-same : (t : Table A) (p : Name) → find (without t p) p ≡ None
  find-without-same [] p = refl
  find-without-same (entry ∷ t) p = go (same p entry.0) refl (find-without-same t p)
    where
      go : (b : Bool) → same p entry.0 ≡ b → find (without t p) p ≡ None → find (if b then without t p else entry ∷ without t p) p ≡ None
      go true e h = h
      go false e h = ap (λ b. if b then Some entry.1 else find (without t p) p) e ∙ h

  -- and every other keeps its own
  pub find-without-other : (t : Table A) (p q : Name) → same q p ≡ false → find (without t p) q ≡ find t q
  find-without-other [] p q n = refl
  find-without-other (entry ∷ t) p q n = go (same p entry.0) refl (find-without-other t p q n)
    where
      go : (b : Bool) → same p entry.0 ≡ b → find (without t p) q ≡ find t q → find (if b then without t p else entry ∷ without t p) q ≡ find (entry ∷ t) q
      go true e h =
          let m : same q entry.0 ≡ false = subst (λ x. same q x ≡ false) (same-equal p entry.0 e) n in
          h ∙ sym (ap (λ b. if b then Some entry.1 else find t q) m)
      go false e h = ap (λ x. if same q entry.0 then Some entry.1 else x) h

  -- a table in which a name is given the value that it has is the same table
  pub with_at-found : (t : Table A) (p : Name) (a : A) → find t p ≡ Some a → with_at t p a ≡ t
  with_at-found [] p a e = cc
  with_at-found (entry ∷ t) p a e = go (same p entry.0) refl e (with_at-found t p a)
    where
      go : (b : Bool) → same p entry.0 ≡ b → (if b then Some entry.1 else find t p) ≡ Some a → (find t p ≡ Some a → with_at t p a ≡ t)
          → (if b then (entry.0, a) ∷ t else entry ∷ with_at t p a) ≡ (entry ∷ t)
      go true e f ih = let h : entry.1 ≡ a = some f in ap (λ x. (entry.0, x) ∷ t) (sym h)
        where
          some : Some entry.1 ≡ Some a → entry.1 ≡ a
          some g = cc
      go false e f ih = ap (λ x. entry ∷ x) (ih f)
