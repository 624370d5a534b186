-- Names of processes: a child's name tells its parent, its fork and its number.
use Rattle.std.proofs.Common.{◌≡◌, ℕ, ◌<◌, ◌⊎◌, inl, inr, false, List, [], ◌∷◌, ◌++◌, length, ◌-◌, Option, Some, None, refl, sym, ap, ◌∙◌, arith, append_assoc}
use Rattle.std.proofs.Common.{length-append}
use Rattle.std.proofs.lemmas.List.{append-nil, take_at}
use Rattle.edi_calls.specs.Names.{Name}
use Rattle.edi_calls.specs.Ready.{child, parent_of, has}

-- ---- values that may be there

pub some_is : {A : Type 0} {a b : A} → Some a ≡ Some b → a ≡ b
some_is e = cc

pub no_some : {A : Type 0} {a : A} (x : Option A) → x ≡ None → x ≡ Some a → ⊥
no_some x e f = let g : None ≡ Some _ = sym e ∙ f in absurd (cc)

-- ---- names

-- numbers in pairs, one after another
abbrev pub flat : List (ℕ × ℕ) → List ℕ
flat [] = []
flat (x ∷ xs) = x.0 ∷ x.1 ∷ flat xs

-- the last pair
pub record IsLast (xs : List (ℕ × ℕ)) (before : List (ℕ × ℕ)) (x : ℕ × ℕ) : Type 0 where
  pub is : flat xs ≡ flat before ++ x.0 ∷ x.1 ∷ []

pub last_of : (y : ℕ × ℕ) (xs : List (ℕ × ℕ)) → (before : List (ℕ × ℕ)) × (x : ℕ × ℕ) × IsLast (y ∷ xs) before x
last_of y [] = ([], y, record { is = refl })
last_of y (z ∷ xs) =
    let r : (before : List (ℕ × ℕ)) × (x : ℕ × ℕ) × IsLast (z ∷ xs) before x = last_of z xs in
    (y ∷ r.0, r.1, record { is = ap (λ l. y.0 ∷ y.1 ∷ l) r.2.is })

-- two lists that end with two numbers
pub same_ends : (xs ys : List ℕ) (a b c d : ℕ) → xs ++ a ∷ b ∷ [] ≡ ys ++ c ∷ d ∷ [] → (xs ≡ ys) × (a ≡ c) × (b ≡ d)
same_ends [] [] a b c d e = (refl, (cc), (cc))
same_ends [] (y ∷ []) a b c d e = let h : length (a ∷ b ∷ []) ≡ length (y ∷ c ∷ d ∷ []) = ap length e in absurd (omega (arith, h))
same_ends [] (y ∷ z ∷ ys) a b c d e = let h : length (a ∷ b ∷ []) ≡ length (y ∷ z ∷ (ys ++ c ∷ d ∷ [])) = ap length e in
    absurd (omega (arith, h, length-append ys (c ∷ d ∷ [])))
same_ends (x ∷ []) [] a b c d e = let h : length (x ∷ a ∷ b ∷ []) ≡ length (c ∷ d ∷ []) = ap length e in absurd (omega (arith, h))
same_ends (x ∷ w ∷ xs) [] a b c d e = let h : length (x ∷ w ∷ (xs ++ a ∷ b ∷ [])) ≡ length (c ∷ d ∷ []) = ap length e in
    absurd (omega (arith, h, length-append xs (a ∷ b ∷ [])))
same_ends (x ∷ xs) (y ∷ ys) a b c d e =
    let head : x ≡ y = first e in
    let r : (xs ≡ ys) × (a ≡ c) × (b ≡ d) = same_ends xs ys a b c d (rest e) in
    (both head r.0, r.1, r.2)
  where
    first : (x ∷ (xs ++ a ∷ b ∷ [])) ≡ (y ∷ (ys ++ c ∷ d ∷ [])) → x ≡ y
    first e = cc

    rest : (x ∷ (xs ++ a ∷ b ∷ [])) ≡ (y ∷ (ys ++ c ∷ d ∷ [])) → xs ++ a ∷ b ∷ [] ≡ ys ++ c ∷ d ∷ []
    rest e = cc

    both : x ≡ y → xs ≡ ys → (x ∷ xs) ≡ (y ∷ ys)
    both h k = cc

-- whose child a child is
pub parent-child : (p : Name) (f i : ℕ) → parent_of (child p f i) ≡ p
parent-child p f i = take_at p (f ∷ i ∷ []) (length (child p f i) - 2) (omega (arith, length-append p (f ∷ i ∷ [])))

-- a child's name is not empty: no child is the first process
pub child_some : (p : Name) (f i : ℕ) → 0 < length (child p f i)
child_some p f i = omega (arith, length-append p (f ∷ i ∷ []))

pub child_not_first : (p : Name) (f i : ℕ) → child p f i ≡ [] → ⊥
child_not_first p f i e = let h : length (child p f i) ≡ 0 = ap length e in omega (arith, h, child_some p f i)

-- a name below a child of p is the child, or lies below a name that is
pub below_child : (p q : Name) (f i g j : ℕ) (rest : List (ℕ × ℕ)) → child p f i ++ flat rest ≡ child q g j →
    ((p ≡ q) × (f ≡ g) × (i ≡ j)) ⊎ ((before : List (ℕ × ℕ)) × (child p f i ++ flat before ≡ q))
below_child p q f i g j [] e = inl (same_ends p q f i g j (sym (append-nil (child p f i)) ∙ e))
below_child p q f i g j (x ∷ xs) e =
    let l : (before : List (ℕ × ℕ)) × (y : ℕ × ℕ) × IsLast (x ∷ xs) before y = last_of x xs in
    let long : (child p f i ++ flat l.0) ++ l.1.0 ∷ l.1.1 ∷ [] ≡ child q g j =
    append_assoc (child p f i) (flat l.0) (l.1.0 ∷ l.1.1 ∷ []) ∙ sym (ap (λ y. child p f i ++ y) l.2.is) ∙ e in
    inr (l.0, (same_ends (child p f i ++ flat l.0) q l.1.0 l.1.1 g j long).0)

-- no name is below itself
pub not_below : (p : Name) (f i : ℕ) (rest : List (ℕ × ℕ)) → child p f i ++ flat rest ≡ p → ⊥
not_below p f i rest e =
    let h : length (child p f i ++ flat rest) ≡ length p = ap length e in
    omega (arith, h, length-append (child p f i) (flat rest), length-append p (f ∷ i ∷ []))

-- what is below a child of c is below c's own parent
pub deeper : (p : Name) (f i g j : ℕ) (rest : List (ℕ × ℕ)) → child (child p f i) g j ++ flat rest ≡ child p f i ++ flat ((g, j) ∷ rest)
deeper p f i g j rest = append_assoc (child p f i) (g ∷ j ∷ []) (flat rest)

-- ---- lists of names

-- each name stands once
abbrev pub Once : List Name → Type 0
Once [] = Unit {0}
Once (p ∷ ps) = (has ps p ≡ false) × Once ps
