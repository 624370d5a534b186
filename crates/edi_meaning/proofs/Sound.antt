-- What joins the list of ready processes, and taking the next, keep the list sound.
use Rattle.std.proofs.Common.{◌≡◌, ℕ, zero, suc, ◌+◌, ◌<◌, ◌≤◌, ◌⊎◌, inl, inr, Bool, true, false, ◌||◌, List, [], ◌∷◌, ◌++◌, length, refl, sym, subst, ap}
use Rattle.std.proofs.Common.{◌∙◌, arith}
use Rattle.std.specs.Prelude.{◌%◌}
use Rattle.std.proofs.lemmas.Bool.{cases_lt}
use Rattle.edi_calls.specs.Choice.{Choices, choice}
use Rattle.edi_calls.specs.Names.{Name, same}
use Rattle.edi_calls.specs.Ready.{child, has, children, Taking, nobody, taking, name_at, without_index, take_next}
use Rattle.edi_calls.proofs.Tables.{same-refl, same-equal, same-or-other}
use Rattle.edi_calls.proofs.Names.{same_ends, Once}

-- ---- who is in a list

pub or_true : (a b : Bool) → (a || b) ≡ true → (a ≡ true) ⊎ (b ≡ true)
or_true true b e = inl refl
or_true false b e = inr e

or_false : (a b : Bool) → (a || b) ≡ false → (a ≡ false) × (b ≡ false)
or_false true b e = absurd (cc)
or_false false b e = (refl, e)

pub true_right : (b : Bool) → (b || true) ≡ true
true_right true = refl
true_right false = refl

pub right_false : (a : Bool) → (a || false) ≡ a
right_false true = refl
right_false false = refl

pub has-append : (xs ys : List Name) (p : Name) → has (xs ++ ys) p ≡ (has xs p || has ys p)
has-append [] ys p = refl
has-append (x ∷ xs) ys p = ap (λ b. same p x || b) (has-append xs ys p) ∙ assoc (same p x) (has xs p) (has ys p)
  where
    assoc : (a b c : Bool) → (a || (b || c)) ≡ ((a || b) || c)
    assoc true b c = refl
    assoc false b c = refl

pub once-append : (xs ys : List Name) → Once xs → Once ys → ((p : Name) → has xs p ≡ true → has ys p ≡ false) → Once (xs ++ ys)
once-append [] ys o u d = u
once-append (x ∷ xs) ys o u d =
    (has-append xs ys x ∙ ap (λ b. b || has ys x) o.0 ∙ d x (ap (λ b. b || has xs x) (same-refl x)), once-append xs ys o.1 u (λ p h. d p (later p h)))
  where
    later : (p : Name) → has xs p ≡ true → has (x ∷ xs) p ≡ true
    later p h = ap (λ b. same p x || b) h ∙ true_right (same p x)

-- ---- children

pub has-children : (p : Name) (f k n : ℕ) (x : Name) → has (children p f k n) x ≡ true → (j : ℕ) × (k ≤ j) × (j < k + n) × (x ≡ child p f j)
has-children p f k zero x e = absurd (cc)
has-children p f k (suc n) x e = go (or_true (same x (child p f k)) (has (children p f (suc k) n) x) e) (has-children p f (suc k) n x)
  where
    go : (same x (child p f k) ≡ true) ⊎ (has (children p f (suc k) n) x ≡ true)
        → (has (children p f (suc k) n) x ≡ true → (j : ℕ) × (suc k ≤ j) × (j < suc k + n) × (x ≡ child p f j)) → (j : ℕ) × (k ≤ j) × (j < k + suc n)
        × (x ≡ child p f j)
    go (inl h) ih = (k, omega arith, omega arith, same-equal x (child p f k) h)
    go (inr h) ih = let r : (j : ℕ) × (suc k ≤ j) × (j < suc k + n) × (x ≡ child p f j) = ih h in (r.0, omega arith, omega arith, r.3)

pub not_true : (b : Bool) → (b ≡ true → ⊥) → b ≡ false
not_true true h = absurd (h refl)
not_true false h = refl

pub has-child : (p : Name) (f k n j : ℕ) → k ≤ j → j < k + n → has (children p f k n) (child p f j) ≡ true
has-child p f k zero j h l = absurd (omega arith)
has-child p f k (suc n) j h l = elim (cases_lt k j) [
  | inl above ↦ ap (λ b. same (child p f j) (child p f k) || b) (has-child p f (suc k) n j (omega arith) (omega arith))
      ∙ true_right (same (child p f j) (child p f k))
  | inr below ↦ let here : j ≡ k = omega arith in
      ap (λ b. b || has (children p f (suc k) n) (child p f j)) (ap (λ i. same (child p f j) (child p f i)) (sym here) ∙ same-refl (child p f j))
]

pub once-children : (p : Name) (f k n : ℕ) → Once (children p f k n)
once-children p f k zero = tt
once-children p f k (suc n) = (not_true (has (children p f (suc k) n) (child p f k)) (apart p f k n), once-children p f (suc k) n)
  where
    apart : (p : Name) (f k n : ℕ) → has (children p f (suc k) n) (child p f k) ≡ true → ⊥
    apart p f k n h =
        let r : (j : ℕ) × (suc k ≤ j) × (j < suc k + n) × (child p f k ≡ child p f j) = has-children p f (suc k) n (child p f k) h in
        let s : (p ≡ p) × (f ≡ f) × (k ≡ r.0) = same_ends p p f k f r.0 r.3 in
        let e : k ≡ r.0 = s.2 in
        omega arith

-- ---- taking one out

pub has-at : (l : List Name) (i : ℕ) → i < length l → has l (name_at l i) ≡ true
has-at [] i h = absurd (omega arith)
has-at (x ∷ xs) zero h = ap (λ b. b || has xs x) (same-refl x)
has-at (x ∷ xs) (suc i) h = ap (λ b. same (name_at xs i) x || b) (has-at xs i (omega arith)) ∙ true_right (same (name_at xs i) x)

pub has-without_place : (l : List Name) (i : ℕ) (p : Name) → has (without_index l i) p ≡ true → has l p ≡ true
has-without_place [] i p h = h
has-without_place (x ∷ xs) zero p h = ap (λ b. same p x || b) h ∙ true_right (same p x)
has-without_place (x ∷ xs) (suc i) p h = elim (or_true (same p x) (has (without_index xs i) p) h) [
  | inl e ↦ ap (λ b. b || has xs p) e
  | inr e ↦ ap (λ b. same p x || b) (has-without_place xs i p e) ∙ true_right (same p x)
]

pub once-without_place : (l : List Name) (i : ℕ) → Once l → Once (without_index l i)
once-without_place [] i o = tt
once-without_place (x ∷ xs) zero o = o.1
once-without_place (x ∷ xs) (suc i) o = (
  not_true (has (without_index xs i) x) (λ h. let a : has xs x ≡ true = has-without_place xs i x h in let b : has xs x ≡ false = o.0 in
      let c : true ≡ false = sym a ∙ b in absurd (cc)),
  once-without_place xs i o.1,
)

-- the one that is taken out is not among the others
pub not-without_place : (l : List Name) (i : ℕ) → i < length l → Once l → has (without_index l i) (name_at l i) ≡ false
not-without_place [] i h o = absurd (omega arith)
not-without_place (x ∷ xs) zero h o = o.0
not-without_place (x ∷ xs) (suc i) h o = go (same-or-other (name_at xs i) x) (not-without_place xs i (omega arith) o.1) (has-at xs i (omega arith))
  where
    go : (name_at xs i ≡ x) ⊎ (same (name_at xs i) x ≡ false) → has (without_index xs i) (name_at xs i) ≡ false → has xs (name_at xs i) ≡ true
        → (same (name_at xs i) x || has (without_index xs i) (name_at xs i)) ≡ false
    go (inl e) ih there = let a : has xs x ≡ true = sym (ap (has xs) e) ∙ there in let c : true ≡ false = sym a ∙ o.0 in absurd (cc)
    go (inr n) ih there = ap (λ b. b || has (without_index xs i) (name_at xs i)) n ∙ ih

-- ---- the next is taken

-- the list has just the names of which something holds, each once
pub record Each (P : Name → Type 0) (l : List Name) : Type 0 where
  pub once : Once l
  pub holds : (p : Name) → has l p ≡ true → P p
  pub all : (p : Name) → P p → has l p ≡ true

abbrev pub EachTaken : (Name → Type 0) → Taking → Type 0
EachTaken P nobody = (p : Name) → P p → ⊥
EachTaken P (taking p others drawn) = Each P (p ∷ others)

-- who is in a list is the one at a place, or among the others
has-split : (l : List Name) (i : ℕ) (p : Name) → has l p ≡ true → (same p (name_at l i) || has (without_index l i) p) ≡ true
has-split [] i p h = absurd (cc)
has-split (x ∷ xs) zero p h = h
has-split (x ∷ xs) (suc i) p h = elim (or_true (same p x) (has xs p) h) [
  | inl e ↦ ap (λ b. same p (name_at xs i) || (b || has (without_index xs i) p)) e ∙ true_right (same p (name_at xs i))
  | inr e ↦ go (same p (name_at xs i)) (same p x) (has (without_index xs i) p) (has-split xs i p e)
]
  where
    go : (a b c : Bool) → (a || c) ≡ true → (a || (b || c)) ≡ true
    go true b c e = refl
    go false b c e = ap (λ c. b || c) e ∙ true_right b

each_at : (P : Name → Type 0) (l : List Name) (i : ℕ) → i < length l → Each P l → Each P (name_at l i ∷ without_index l i)
each_at P l i h e = record {
  once = (not-without_place l i h e.once, once-without_place l i e.once);
  holds = λ p t. elim (or_true (same p (name_at l i)) (has (without_index l i) p) t) [
    | inl s ↦ subst P (sym (same-equal p (name_at l i) s)) (e.holds (name_at l i) (has-at l i h))
    | inr r ↦ e.holds p (has-without_place l i p r)
  ];
  all = λ p t. has-split l i p (e.all p t);
}

pub each_next : (P : Name → Type 0) (choices : Choices) (drawn : ℕ) (l : List Name) → Each P l → EachTaken P (take_next choices drawn l)
each_next P choices drawn [] e = λ p t. let a : false ≡ true = e.all p t in absurd (cc)
each_next P choices drawn (p ∷ []) e = e
each_next P choices drawn (p ∷ q ∷ ready) e =
    each_at P (p ∷ q ∷ ready) (choice choices (drawn + 1) % length (p ∷ q ∷ ready)) (omega arith) e
