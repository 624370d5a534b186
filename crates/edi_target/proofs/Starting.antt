-- The one pass of a check finds the instruction starts.
use Rattle.std.proofs.Common.{◌≡◌, ℕ, zero, suc, ◌+◌, ◌-◌, ◌<◌, ◌≤◌, ◌⊎◌, inl, inr, Bool, true, false, ◌||◌, List, [], ◌∷◌, length, drop, Option, Some, None}
use Rattle.std.proofs.Common.{refl, sym, subst, ap, ◌∙◌, arith, eq-eqb}
use Rattle.std.specs.Prelude.{◌==◌}
use Rattle.std.proofs.lemmas.Bool.{eqb-true}
use Rattle.edi_target.specs.Op.{Instruction}
use Rattle.edi_target.specs.Decode.{decode}
use Rattle.edi_target.specs.Check.{Start, starts_from, starts_of, is_start}
use Rattle.edi_target.specs.Fetch.{fetch}
use Rattle.edi_target.specs.Starts.{StartsAt, at_first, behind, StartsAreThese}
use Rattle.edi_target.proofs.Stands.{code_stands_below}

or_split : (a b : Bool) → (a || b) ≡ true → (a ≡ true) ⊎ (b ≡ true)
or_split true b e = inl refl
or_split false b e = inr e

or_left : (a b : Bool) → a ≡ true → (a || b) ≡ true
or_left true b e = refl
or_left false b e = absurd (cc)

or_right : (a b : Bool) → b ≡ true → (a || b) ≡ true
or_right true b e = refl
or_right false b e = e

-- what the pass finds where this is read
abbrev found_at : ℕ → ℕ → List ℕ → Option (Instruction × ℕ) → List Start
found_at at word words r = elim r [
  | None ↦ record { at = at; word = word; op = None } ∷ []
  | Some x ↦ record { at = at; word = word; op = Some x.0 }
      ∷ starts_from words (at + 1) (x.1 - 1)
]

-- the first start is behind the words that are passed over
first_start : (ws : List ℕ) (at k : ℕ) → k < length ws → is_start (starts_from ws at k) (at + k) ≡ true
first_start [] at k l = absurd (omega (arith, l))
first_start (w ∷ ws) at (suc k) l =
    let there : at + 1 + k ≡ at + suc k = omega arith in
    subst (λ n. is_start (starts_from ws (at + 1) k) n ≡ true) there (first_start ws (at + 1) k (omega (arith, l)))
first_start (w ∷ ws) at zero l = go (decode (w ∷ ws))
  where
    here : (at == at + 0) ≡ true
    here = eq-eqb at (at + 0) (omega arith)

    go : (r : Option (Instruction × ℕ)) → is_start (found_at at w ws r) (at + 0) ≡ true
    go None = or_left (at == at + 0) false here
    go (Some x) = or_left (at == at + 0) (is_start (starts_from ws (at + 1) (x.1 - 1)) (at + 0)) here

-- no start is before it
later_starts : (ws : List ℕ) (at k a : ℕ) → is_start (starts_from ws at k) a ≡ true → at + k ≤ a
later_starts [] at k a h = absurd (cc)
later_starts (w ∷ ws) at (suc k) a h = omega (arith, later_starts ws (at + 1) k a h)
later_starts (w ∷ ws) at zero a h = go (λ k e. later_starts ws (at + 1) k a e) (decode (w ∷ ws)) h
  where
    go : ((k : ℕ) → is_start (starts_from ws (at + 1) k) a ≡ true → at + 1 + k ≤ a) → (r : Option (Instruction × ℕ)) → is_start (found_at at w ws r) a ≡ true
        → at + zero ≤ a
    go rest None e = elim (or_split (at == a) false e) [
      | inl i ↦ let same : at ≡ a = eqb-true at a i in omega (arith, same)
      | inr i ↦ absurd (cc)
    ]
    go rest (Some x) e = elim (or_split (at == a) (is_start (starts_from ws (at + 1) (x.1 - 1)) a) e) [
      | inl i ↦ let same : at ≡ a = eqb-true at a i in omega (arith, same)
      | inr i ↦ omega (arith, rest (x.1 - 1) i)
    ]

some_same : {A : Type 0} {x y : A} → Some x ≡ Some y → x ≡ y
some_same e = cc

-- behind a start where an instruction is read the next one starts, if there are words left
next_start : (ws : List ℕ) (at k a : ℕ) (r : Instruction × ℕ) → is_start (starts_from ws at k) a ≡ true → decode (drop (a - at) ws) ≡ Some r → 0 < r.1
    → a - at + r.1 < length ws → is_start (starts_from ws at k) (a + r.1) ≡ true
next_start [] at k a r h d pos l = absurd (cc)
next_start (w ∷ ws) at (suc k) a r h d pos l =
    let low : at + 1 + k ≤ a = later_starts ws (at + 1) k a h in
    let less : a - at ≡ suc (a - (at + 1)) = omega (arith, low) in
    next_start ws (at + 1) k a r h (sym (ap (λ n. decode (drop n (w ∷ ws))) less) ∙ d) pos (omega (arith, l, less))
next_start (w ∷ ws) at zero a r h d pos l = go (λ k. next_start ws (at + 1) k a r) (decode (w ∷ ws)) refl h
  where
    Next : List Start → Type 0
    Next starts = is_start starts (a + r.1) ≡ true

    go : ((k : ℕ) → is_start (starts_from ws (at + 1) k) a ≡ true → decode (drop (a - (at + 1)) ws) ≡ Some r → 0 < r.1 → a - (at + 1) + r.1 < length ws
        → is_start (starts_from ws (at + 1) k) (a + r.1) ≡ true) →
        (x : Option (Instruction × ℕ)) → decode (w ∷ ws) ≡ x → is_start (found_at at w ws x) a ≡ true → is_start (found_at at w ws x) (a + r.1) ≡ true
    go rest None e i = elim (or_split (at == a) false i) [
      | inl j ↦
          let same : at ≡ a = eqb-true at a j in
          let none : a - at ≡ 0 = omega (arith, same) in
          let no : None ≡ Some r = sym e ∙ sym (ap (λ n. decode (drop n (w ∷ ws))) none) ∙ d in
          absurd (cc)
      | inr j ↦ absurd (cc)
    ]
    go rest (Some x) e i = elim (or_split (at == a) (is_start (starts_from ws (at + 1) (x.1 - 1)) a) i) [
      | inl j ↦
          let same : at ≡ a = eqb-true at a j in
          let none : a - at ≡ 0 = omega (arith, same) in
          let is : x ≡ r = some_same (sym e ∙ sym (ap (λ n. decode (drop n (w ∷ ws))) none) ∙ d) in
          let width : x.1 ≡ r.1 = ap (λ (y : Instruction × ℕ). y.1) is in
          let there : at + 1 + (x.1 - 1) ≡ a + r.1 = omega (arith, same, width, pos) in
          or_right (at == a + r.1) (is_start (starts_from ws (at + 1) (x.1 - 1)) (a + r.1))
          (subst (λ n. is_start (starts_from ws (at + 1) (x.1 - 1)) n ≡ true) there (first_start ws (at + 1) (x.1 - 1) (omega (arith, l, none, width, pos))))
      | inr j ↦
          let low : at + 1 + (x.1 - 1) ≤ a = later_starts ws (at + 1) (x.1 - 1) a j in
          let less : a - at ≡ suc (a - (at + 1)) = omega (arith, low) in
          or_right (at == a + r.1) (is_start (starts_from ws (at + 1) (x.1 - 1)) (a + r.1))
          (rest (x.1 - 1) j (sym (ap (λ n. decode (drop n (w ∷ ws))) less) ∙ d) pos (omega (arith, l, less)))
    ]

-- ---- of whole words

fetched : (words : List ℕ) (at next : ℕ) (op : Instruction) → fetch words at ≡ Some (op, next) → (r : Instruction × ℕ) × (decode (drop at words) ≡ Some r)
    × (next ≡ at + r.1)
fetched words at next op = go (decode (drop at words)) refl
  where
    go : (x : Option (Instruction × ℕ)) → decode (drop at words) ≡ x
        → (elim x as (λ _. Option (Instruction × ℕ)) [ None ↦ None | Some found ↦ Some (found.0, at + found.1) ]) ≡ Some (op, next) →
        (r : Instruction × ℕ) × (decode (drop at words) ≡ Some r) × (next ≡ at + r.1)
    go None d e = absurd (cc)
    go (Some r) d e = (r, d, sym (ap (λ (y : Instruction × ℕ). y.1) (some_same e)))

found_there : (words : List ℕ) (at : ℕ) → StartsAt words at → is_start (starts_of words) at ≡ true
found_there words _ (at_first some) = first_start words 0 0 some
found_there words _ (behind at next op s e l) =
    let f : (r : Instruction × ℕ) × (decode (drop at words) ≡ Some r) × (next ≡ at + r.1) = fetched words at next op e in
    let b : (at < length words) × (at < next) = code_stands_below words at (op, next) e in
    let front : at - 0 ≡ at = omega arith in
    subst (λ n. is_start (starts_of words) n ≡ true) (sym f.2)
    (next_start words 0 0 at f.0 (found_there words at s) (ap (λ n. decode (drop n words)) front ∙ f.1) (omega (arith, f.2, b.1))
    (omega (arith, f.2, l, front)))

-- one word less
dropped : (n : ℕ) (xs : List ℕ) (w : ℕ) (ws : List ℕ) → drop n xs ≡ w ∷ ws → drop (n + 1) xs ≡ ws
dropped zero [] w ws e = absurd (cc)
dropped zero (x ∷ xs) w ws e = cc
dropped (suc n) [] w ws e = absurd (cc)
dropped (suc n) (x ∷ xs) w ws e = let one : suc n + 1 ≡ suc (n + 1) = omega arith in ap (λ m. drop m (x ∷ xs)) one ∙ dropped n xs w ws e

module _ (words : List ℕ) where
  starts_there : (ws : List ℕ) (at k : ℕ) → drop at words ≡ ws → at + length ws ≡ length words → (k < length ws → StartsAt words (at + k)) → (a : ℕ)
      → is_start (starts_from ws at k) a ≡ true → StartsAt words a
  starts_there [] at k cut long h a e = absurd (cc)
  starts_there (w ∷ ws) at (suc k) cut long h a e =
      let there : at + suc k ≡ at + 1 + k = omega arith in
      starts_there ws (at + 1) k (dropped at words w ws cut) (omega (arith, long)) (λ l. subst (StartsAt words) there (h (omega (arith, l)))) a e
  starts_there (w ∷ ws) at zero cut long h a e =
      go (λ k. starts_there ws (at + 1) k) (decode (w ∷ ws)) refl e
    where
      here : StartsAt words at
      here = let none : at + 0 ≡ at = omega arith in subst (StartsAt words) none (h (omega arith))

      go : ((k : ℕ) → drop (at + 1) words ≡ ws → at + 1 + length ws ≡ length words → (k < length ws → StartsAt words (at + 1 + k)) → (a : ℕ)
          → is_start (starts_from ws (at + 1) k) a ≡ true → StartsAt words a) →
          (x : Option (Instruction × ℕ)) → decode (w ∷ ws) ≡ x → is_start (found_at at w ws x) a ≡ true → StartsAt words a
      go rest None d i = elim (or_split (at == a) false i) [ inl j ↦ subst (StartsAt words) (eqb-true at a j) here | inr j ↦ absurd (cc) ]
      go rest (Some x) d i = elim (or_split (at == a) (is_start (starts_from ws (at + 1) (x.1 - 1)) a) i) [
        | inl j ↦ subst (StartsAt words) (eqb-true at a j) here
        | inr j ↦ rest (x.1 - 1) (dropped at words w ws cut) (omega (arith, long)) behind_it a j
      ]
        where
          read : fetch words at ≡ Some (x.0, at + x.1)
          read = ap (λ r. elim r as (λ _. Option (Instruction × ℕ)) [ None ↦ None | Some found ↦ Some (found.0, at + found.1) ]) (ap decode cut ∙ d)

          behind_it : x.1 - 1 < length ws → StartsAt words (at + 1 + (x.1 - 1))
          behind_it l =
              let b : (at < length words) × (at < at + x.1) = code_stands_below words at (x.0, at + x.1) read in
              let there : at + x.1 ≡ at + 1 + (x.1 - 1) = omega (arith, b.1) in
              subst (StartsAt words) there (behind at (at + x.1) x.0 here read (omega (arith, l, long, b.1)))

pub starts_are_these : StartsAreThese
starts_are_these words at = (λ h. starts_there words words 0 0 refl (omega arith) (λ l. at_first l) at h, λ s. found_there words at s)
