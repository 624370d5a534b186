-- Files cut into lines.
use Rattle.std.proofs.Common.{◌≡◌, ℕ, suc, ◌+◌, ◌<◌, ◌≤◌, Bool, true, false, cond, List, [], ◌∷◌, length, take, drop, Some, None, refl, ap, ◌∙◌, arith}
use Rattle.std.proofs.Common.{ltb-true, ltb-false}
use Rattle.std.specs.Prelude.{not, nat_lt, position}
use Rattle.std.specs.List.{slice_split, onto_first, position_or_len}

module _ (p : ℕ → Bool) where
  -- cut at the first place that passes
  pub split_first : (bs : List ℕ) → position_or_len p bs < length bs
      → slice_split p bs ≡ take (position_or_len p bs) bs ∷ slice_split p (drop (suc (position_or_len p bs)) bs)
  split_first [] h = absurd (omega arith)
  split_first (b ∷ bs) h = go (p b) h (split_first bs)
    where
      n : ℕ
      n = position_or_len p bs

      go : (t : Bool) → cond (not t) (1 + position_or_len p bs) 0 < suc (length bs)
          → (position_or_len p bs < length bs → slice_split p bs ≡ take (position_or_len p bs) bs ∷ slice_split p (drop (suc (position_or_len p bs)) bs))
          → cond t ([] ∷ slice_split p bs) (onto_first b (slice_split p bs))
          ≡ take (cond (not t) (1 + position_or_len p bs) 0) (b ∷ bs)
          ∷ slice_split p (drop (suc (cond (not t) (1 + position_or_len p bs) 0)) (b ∷ bs))
      go true h rest = refl
      go false h rest =
          let e : 1 + position_or_len p bs ≡ suc (position_or_len p bs) = omega arith in
          rw e (ap (onto_first b) (rest (omega arith)))

  pub split_none : (bs : List ℕ) → length bs ≤ position_or_len p bs → slice_split p bs ≡ bs ∷ []
  split_none [] h = refl
  split_none (b ∷ bs) h = go (p b) h (split_none bs)
    where
      go : (t : Bool) → suc (length bs) ≤ cond (not t) (1 + position_or_len p bs) 0
          → (length bs ≤ position_or_len p bs → slice_split p bs ≡ bs ∷ [])
          → cond t ([] ∷ slice_split p bs) (onto_first b (slice_split p bs)) ≡ (b ∷ bs) ∷ []
      go true h rest = absurd (omega arith)
      go false h rest = ap (onto_first b) (rest (omega arith))

  -- as `position` tells
  pub cut_at : (bs : List ℕ) (end : ℕ) → position p bs ≡ Some end → slice_split p bs ≡ take end bs ∷ slice_split p (drop (end + 1) bs)
  cut_at bs end h = go (nat_lt (position_or_len p bs) (length bs)) refl h
    where
      go : (t : Bool) → nat_lt (position_or_len p bs) (length bs) ≡ t → cond t (Some (position_or_len p bs)) None ≡ Some end
          → slice_split p bs ≡ take end bs ∷ slice_split p (drop (end + 1) bs)
      go true e h =
          let same : position_or_len p bs ≡ end = cc in
          let next : suc (position_or_len p bs) ≡ end + 1 = omega arith in
          split_first bs (ltb-true _ _ e) ∙ ap (λ n. take n bs ∷ slice_split p (drop (suc (position_or_len p bs)) bs)) same
          ∙ ap (λ n. take end bs ∷ slice_split p (drop n bs)) next
      go false e h = absurd (cc)

  pub uncut : (bs : List ℕ) → position p bs ≡ None → slice_split p bs ≡ bs ∷ []
  uncut bs h = go (nat_lt (position_or_len p bs) (length bs)) refl h
    where
      go : (t : Bool) → nat_lt (position_or_len p bs) (length bs) ≡ t → cond t (Some (position_or_len p bs)) None ≡ None
          → slice_split p bs ≡ bs ∷ []
      go true e h = absurd (cc)
      go false e h = split_none bs (ltb-false _ _ e)
