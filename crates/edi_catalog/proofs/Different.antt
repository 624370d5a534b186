-- Numbers of which none stands twice, and rules of which none is broken.
use Rattle.std.proofs.Common.{◌≡◌, inl, inr, ℕ, Bool, true, false, List, [], ◌∷◌, ◌++◌, Some, None, refl, ap, sym, subst, ◌∙◌, append_assoc, take, drop}
use Rattle.std.proofs.Common.{take-append-drop}
use Rattle.std.specs.Prelude.{not, ◌&&◌, ◌||◌, ◌==◌, if◌then◌else◌}
use Rattle.std.proofs.lemmas.Bool.{eqb-true, or_from, or_parts, or_cases, not-true, not_from_false, and_from, and_parts, false_from_ne_true, true≢false}
use Rattle.edi_image.specs.declared.faults.MountFault.TheVariants as fault
use Rattle.edi_image.specs.Rules.{Rule, needs, uses, first_broken, used_by, is_in}
use Rattle.edi_catalog.specs.Plan.{are_different}
use Rattle.edi_catalog.proofs.Unchanged.{in_append, in_left, in_right, in_first, in_later}

-- ---- none stands twice

-- no number stands in both lists
abbrev pub AreApart : List ℕ → List ℕ → Type 0
AreApart xs ys = (n : ℕ) → is_in n xs ≡ true → is_in n ys ≡ false

pub different_first : (n : ℕ) (xs : List ℕ) → is_in n xs ≡ false → are_different xs ≡ true → are_different (n ∷ xs) ≡ true
different_first n xs none d = and_from (not (is_in n xs)) (are_different xs) (not_from_false (is_in n xs) none) d

pub different_rest : (n : ℕ) (xs : List ℕ) → are_different (n ∷ xs) ≡ true → (is_in n xs ≡ false) × (are_different xs ≡ true)
different_rest n xs d = (let parts = and_parts (not (is_in n xs)) (are_different xs) d in (not-true (is_in n xs) parts.0, parts.1))

pub different_join : (xs ys : List ℕ) → are_different xs ≡ true → are_different ys ≡ true → AreApart xs ys → are_different (xs ++ ys) ≡ true
different_join [] ys dx dy apart = dy
different_join (x ∷ xs) ys dx dy apart =
    let parts = different_rest x xs dx in
    different_first x (xs ++ ys)
    (in_append x xs ys ∙ or_from (is_in x xs) (is_in x ys) parts.0 (apart x (in_first x xs)))
    (different_join xs ys parts.1 dy (λ n h. apart n (in_later n x xs h)))

pub different_left : (xs ys : List ℕ) → are_different (xs ++ ys) ≡ true → are_different xs ≡ true
different_left [] ys d = refl
different_left (x ∷ xs) ys d =
    let parts = different_rest x (xs ++ ys) d in
    different_first x xs (or_parts (is_in x xs) (is_in x ys) (sym (in_append x xs ys) ∙ parts.0)).0 (different_left xs ys parts.1)

pub different_right : (xs ys : List ℕ) → are_different (xs ++ ys) ≡ true → are_different ys ≡ true
different_right [] ys d = d
different_right (x ∷ xs) ys d = different_right xs ys (different_rest x (xs ++ ys) d).1

pub different_apart : (xs ys : List ℕ) → are_different (xs ++ ys) ≡ true → AreApart xs ys
different_apart [] ys d n h = absurd (true≢false (sym h))
different_apart (x ∷ xs) ys d n h =
    let parts = different_rest x (xs ++ ys) d in
    elim (or_cases (x == n) (is_in n xs) h) [
      | inl here ↦
          subst (λ m. is_in m ys ≡ false) (eqb-true x n here)
          (or_parts (is_in x xs) (is_in x ys) (sym (in_append x xs ys) ∙ parts.0)).1
      | inr later ↦ different_apart xs ys parts.1 n later
    ]

pub apart_turned : (xs ys : List ℕ) → AreApart xs ys → AreApart ys xs
apart_turned xs ys apart n h =
    false_from_ne_true (is_in n xs) (λ there. true≢false (sym h ∙ apart n there))

-- a number behind others is none of them
pub different_fresh : (xs : List ℕ) (n : ℕ) (ys : List ℕ) → are_different (xs ++ n ∷ ys) ≡ true → is_in n xs ≡ false
different_fresh xs n ys d = apart_turned xs (n ∷ ys) (different_apart xs (n ∷ ys) d) n (in_first n ys)

-- ---- no rule is broken

-- each rule with a test passes it
abbrev pub passes : List Rule → Bool
passes [] = true
passes (needs test broken ∷ rules) = test && passes rules
passes (uses block ∷ rules) = passes rules

pub passes_append : (xs ys : List Rule) → passes xs ≡ true → passes ys ≡ true → passes (xs ++ ys) ≡ true
passes_append [] ys px py = py
passes_append (needs test broken ∷ xs) ys px py =
    (let parts = and_parts test (passes xs) px in and_from test (passes (xs ++ ys)) parts.0 (passes_append xs ys parts.1 py))
passes_append (uses block ∷ xs) ys px py = passes_append xs ys px py

pub none_broken : (used : List ℕ) (rules : List Rule) → passes rules ≡ true → are_different (used ++ used_by rules) ≡ true
    → first_broken used rules ≡ None
none_broken used [] p d = refl
none_broken used (needs test broken ∷ rules) p d =
    let parts = and_parts test (passes rules) p in
    ap (λ t. if t then first_broken used rules else Some broken) parts.0 ∙ none_broken used rules parts.1 d
none_broken used (uses block ∷ rules) p d =
    ap (λ t. if t then Some (fault.Shared block) else first_broken (used ++ block ∷ []) rules)
    (different_fresh used block (used_by rules) d)
    ∙ none_broken (used ++ block ∷ []) rules p
    (ap are_different (append_assoc used (block ∷ []) (used_by rules)) ∙ d)

-- ---- maps, each with its page numbers behind it

abbrev pub woven : (maps pages : List ℕ) → List ℕ
woven [] pages = []
woven (m ∷ maps) pages = m ∷ (take 255 pages ++ woven maps (drop 255 pages))

in_parts : (n : ℕ) (pages : List ℕ) → (is_in n (take 255 pages) ≡ true → is_in n pages ≡ true) × (is_in n (drop 255 pages) ≡ true → is_in n pages ≡ true)
in_parts n pages =
    let whole : is_in n (take 255 pages ++ drop 255 pages) ≡ is_in n pages = ap (is_in n) (take-append-drop 255 pages) in (
      λ h. sym whole ∙ in_left n (take 255 pages) (drop 255 pages) h,
      λ h. sym whole ∙ in_right n (take 255 pages) (drop 255 pages) h,
    )

in_rest : (n : ℕ) (maps pages : List ℕ) → is_in n (maps ++ drop 255 pages) ≡ true → is_in n (maps ++ pages) ≡ true
in_rest n maps pages h =
    elim (or_cases (is_in n maps) (is_in n (drop 255 pages)) (sym (in_append n maps (drop 255 pages)) ∙ h)) [
      | inl a ↦ in_left n maps pages a
      | inr b ↦ in_right n maps pages ((in_parts n pages).1 b)
    ]

pub in_woven : (n : ℕ) (maps pages : List ℕ) → is_in n (woven maps pages) ≡ true → is_in n (maps ++ pages) ≡ true
in_woven n [] pages h = absurd (true≢false (sym h))
in_woven n (m ∷ maps) pages h =
    elim (or_cases (m == n) (is_in n (take 255 pages ++ woven maps (drop 255 pages))) h) [
      | inl here ↦ ap (λ b. b || is_in n (maps ++ pages)) here
      | inr later ↦
          in_later n m (maps ++ pages)
          (elim (or_cases (is_in n (take 255 pages)) (is_in n (woven maps (drop 255 pages)))
          (sym (in_append n (take 255 pages) (woven maps (drop 255 pages))) ∙ later)) [
            | inl a ↦ in_right n maps pages ((in_parts n pages).0 a)
            | inr b ↦ in_rest n maps pages (in_woven n maps (drop 255 pages) b)
          ])
    ]

pub woven_different : (maps pages : List ℕ) → are_different (maps ++ pages) ≡ true → are_different (woven maps pages) ≡ true
woven_different [] pages d = refl
woven_different (m ∷ maps) pages d =
    let rest = different_rest m (maps ++ pages) d in
    let back = different_right maps pages rest.1 in
    let cut : are_different (take 255 pages ++ drop 255 pages) ≡ true = ap are_different (take-append-drop 255 pages) ∙ back in
    let apart : AreApart maps pages = different_apart maps pages rest.1 in
    let later : are_different (woven maps (drop 255 pages)) ≡ true =
    woven_different maps (drop 255 pages)
    (different_join maps (drop 255 pages) (different_left maps pages rest.1) (different_right (take 255 pages) (drop 255 pages) cut)
    (λ n h. false_from_ne_true _ (λ there. true≢false (sym ((in_parts n pages).1 there) ∙ apart n h)))) in
    different_first m (take 255 pages ++ woven maps (drop 255 pages))
    (false_from_ne_true _
    (λ there. true≢false (sym (in_behind m maps pages there) ∙ rest.0)))
    (different_join (take 255 pages) (woven maps (drop 255 pages)) (different_left (take 255 pages) (drop 255 pages) cut) later
    (λ n h. false_from_ne_true _ (λ there. both_indices n maps pages apart cut h (in_woven n maps (drop 255 pages) there)))) where
      in_behind : (n : ℕ) (maps pages : List ℕ) → is_in n (take 255 pages ++ woven maps (drop 255 pages)) ≡ true → is_in n (maps ++ pages) ≡ true
      in_behind n maps pages h =
          elim (or_cases (is_in n (take 255 pages)) (is_in n (woven maps (drop 255 pages)))
          (sym (in_append n (take 255 pages) (woven maps (drop 255 pages))) ∙ h)) [
            | inl a ↦ in_right n maps pages ((in_parts n pages).0 a)
            | inr b ↦ in_rest n maps pages (in_woven n maps (drop 255 pages) b)
          ]

      both_indices : (n : ℕ) (maps pages : List ℕ) → AreApart maps pages → are_different (take 255 pages ++ drop 255 pages) ≡ true
          → is_in n (take 255 pages) ≡ true → is_in n (maps ++ drop 255 pages) ≡ true → ⊥
      both_indices n maps pages apart cut h there =
          elim (or_cases (is_in n maps) (is_in n (drop 255 pages)) (sym (in_append n maps (drop 255 pages)) ∙ there)) [
            | inl a ↦ true≢false (sym ((in_parts n pages).0 h) ∙ apart n a)
            | inr b ↦ true≢false (sym b ∙ different_apart (take 255 pages) (drop 255 pages) cut n h)
          ]
