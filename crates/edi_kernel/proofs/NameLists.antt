-- Lists of names: who is in them, and what is left of them.
use Rattle.std.proofs.Common.{◌≡◌, ℕ, zero, suc, ◌+◌, ◌≤◌, ◌⊎◌, inl, inr, Bool, true, false, ◌||◌, if◌then◌else◌, List, [], ◌∷◌}
use Rattle.std.proofs.Common.{◌++◌, length, refl, sym, subst, ap, ◌∙◌, arith}
use Rattle.std.proofs.lemmas.Bool.{and_parts}
use Rattle.edi_calls.specs.Names.{Name, same}
use Rattle.edi_calls.specs.Ready.{has, all_marked, name_at, without_index}
use Rattle.edi_calls.proofs.Tables.{same-equal}
use Rattle.edi_target.proofs.segments.Queues.{Once}

or_cases : (b c : Bool) → (b || c) ≡ true → (b ≡ true) ⊎ (c ≡ true)
or_cases true c h = inl refl
or_cases false c h = inr h

pub or_right : (b c : Bool) → c ≡ true → (b || c) ≡ true
or_right true c h = refl
or_right false c h = h

pub never : {A : Type 0} (b : Bool) → b ≡ true → b ≡ false → A
never b h k = let no : true ≡ false = sym h ∙ k in absurd (cc)

false_where : (b : Bool) → (b ≡ true → ⊥) → b ≡ false
false_where true h = absurd (h refl)
false_where false h = refl

pub has-left : (xs ys : List Name) (q : Name) → has xs q ≡ true → has (xs ++ ys) q ≡ true
has-left [] ys q h = absurd (cc)
has-left (x ∷ xs) ys q h = elim (or_cases (same q x) (has xs q) h) [
  | inl e ↦ ap (λ b. b || has (xs ++ ys) q) e
  | inr e ↦ or_right (same q x) (has (xs ++ ys) q) (has-left xs ys q e)
]

pub has-right : (xs ys : List Name) (q : Name) → has ys q ≡ true → has (xs ++ ys) q ≡ true
has-right [] ys q h = h
has-right (x ∷ xs) ys q h = or_right (same q x) (has (xs ++ ys) q) (has-right xs ys q h)

-- who is in a list is at the index of it or beside it
pub at_index : (ps : List Name) (k : ℕ) (q : Name) → has ps q ≡ true → has (name_at ps k ∷ without_index ps k) q ≡ true
at_index [] k q h = absurd (cc)
at_index (p ∷ ps) zero q h = h
at_index (p ∷ ps) (suc k) q h = elim (or_cases (same q p) (has ps q) h) [
  | inl e ↦ or_right (same q (name_at ps k)) (same q p || has (without_index ps k) q) (ap (λ b. b || has (without_index ps k) q) e)
  | inr e ↦ elim (or_cases (same q (name_at ps k)) (has (without_index ps k) q) (at_index ps k q e)) [
    | inl i ↦ ap (λ b. b || (same q p || has (without_index ps k) q)) i
    | inr i ↦ or_right (same q (name_at ps k)) (same q p || has (without_index ps k) q) (or_right (same q p) (has (without_index ps k) q) i)
  ]
]

pub marked_in : (marks ps : List Name) (q : Name) → all_marked marks ps ≡ true → has ps q ≡ true → has marks q ≡ true
marked_in marks [] q all h = absurd (cc)
marked_in marks (p ∷ ps) q all h =
    let both : (has marks p ≡ true) × (all_marked marks ps ≡ true) = and_parts (has marks p) (all_marked marks ps) all in
    elim (or_cases (same q p) (has ps q) h) [
      | inl e ↦ subst (λ x. has marks x ≡ true) (sym (same-equal q p e)) both.0
      | inr e ↦ marked_in marks ps q both.1 e
    ]

-- a list without the first place of a name
pub dropped : Name → List Name → List Name
dropped p [] = []
dropped p (q ∷ qs) = if same p q then qs else q ∷ dropped p qs

pub dropped_has : (p r : Name) (qs : List Name) → has (dropped p qs) r ≡ true → has qs r ≡ true
unfolding dropped
dropped_has p r [] h = h
dropped_has p r (q ∷ qs) h = go (same p q) h (dropped_has p r qs)
  where
    go : (b : Bool) → has (if b then qs else q ∷ dropped p qs) r ≡ true → (has (dropped p qs) r ≡ true → has qs r ≡ true) → (same r q || has qs r) ≡ true
    go true h ih = or_right (same r q) (has qs r) h
    go false h ih = elim (or_cases (same r q) (has (dropped p qs) r) h) [
      | inl e ↦ ap (λ b. b || has qs r) e
      | inr e ↦ or_right (same r q) (has qs r) (ih e)
    ]

pub dropped_once : (p : Name) (qs : List Name) → Once qs → Once (dropped p qs)
unfolding dropped
dropped_once p [] o = o
dropped_once p (q ∷ qs) o = go (same p q) (dropped_once p qs o.1)
  where
    go : (b : Bool) → Once (dropped p qs) → Once (if b then qs else q ∷ dropped p qs)
    go true ih = o.1
    go false ih = (false_where (has (dropped p qs) q) (λ h. never (has qs q) (dropped_has p q qs h) o.0), ih)

pub dropped_apart : (p : Name) (qs : List Name) → Once qs → has (dropped p qs) p ≡ false
unfolding dropped
dropped_apart p [] o = refl
dropped_apart p (q ∷ qs) o = go (same p q) refl (dropped_apart p qs o.1)
  where
    go : (b : Bool) → same p q ≡ b → has (dropped p qs) p ≡ false → has (if b then qs else q ∷ dropped p qs) p ≡ false
    go true e ih = subst (λ x. has qs x ≡ false) (sym (same-equal p q e)) o.0
    go false e ih = ap (λ b. b || has (dropped p qs) p) e ∙ ih

pub dropped_size : (p : Name) (qs : List Name) → length qs ≤ length (dropped p qs) + 1
unfolding dropped
dropped_size p [] = omega arith
dropped_size p (q ∷ qs) = go (same p q) (dropped_size p qs)
  where
    go : (b : Bool) → length qs ≤ length (dropped p qs) + 1 → length (q ∷ qs) ≤ length (if b then qs else q ∷ dropped p qs) + 1
    go true ih = omega arith
    go false ih = omega (arith, ih)
