-- The lines of a place, one call after another; the branches of a fork, one slot after another.
use Rattle.std.proofs.Common.{◌≡◌, ◌≤◌, ◌<◌, ℕ, zero, suc, ◌+◌, ◌-◌, List, [], ◌∷◌, ◌++◌, length, take, drop, Some, None}
use Rattle.std.proofs.Common.{refl, ap, sym, ◌∙◌, arith, slice_set, append_assoc, append-nil}
use Rattle.std.specs.Prelude.{slice_get}
use Rattle.edi_kernel.specs.declared.frames.Below.{Below}
use Rattle.edi_kernel.specs.Kept.{below_of}
use Rattle.edi_waits.specs.Places.{line_before, call_lines}
use Rattle.edi_waits.proofs.CallLines.{lines_none, lines_some}
use Rattle.edi_timed.specs.declared.seats.Seated.{Seated}
use Rattle.edi_timed.specs.Seats.{put_at, seated_at, with_born}

-- ---- calls

none_called : (words memory : List ℕ) (first base n : ℕ) → below_of memory first base ≡ None → call_lines words n memory first base ≡ []
none_called words memory first base zero e = refl
none_called words memory first base (suc n) e = lines_none words memory first base n e

taken_set : (xs : List ℕ) (n v : ℕ) → n < length xs → take (suc n) (slice_set xs n v) ≡ take n xs ++ v ∷ []
taken_set [] n v l = absurd (omega (arith, l))
taken_set (x ∷ xs) zero v l = refl_take v xs
  where
    refl_take : (v : ℕ) (xs : List ℕ) → take 1 (v ∷ xs) ≡ v ∷ []
    refl_take v [] = refl
    refl_take v (x ∷ xs) = refl
taken_set (x ∷ xs) (suc n) v l = ap (λ ys. x ∷ ys) (taken_set xs n v (omega (arith, l)))

module _ (words memory : List ℕ) (first base many : ℕ) (lines place : List ℕ)
    (so_far : take many lines ++ call_lines words (5 - many) memory first base ≡ place) where
  -- a call more
  pub one_line_more : (b : Below) (v : ℕ) (now : List ℕ) → many < 5 → length lines ≡ 5 → below_of memory first base ≡ Some b → v ≡ line_before words b.back →
      now ≡ slice_set lines many v → take (many + 1) now ++ call_lines words (5 - (many + 1)) memory first b.base ≡ place
  one_line_more b v now few wide is line set =
      let one : many + 1 ≡ suc many = omega arith in
      let left : 5 - many ≡ suc (5 - (many + 1)) = omega (arith, few) in
      let rest : List ℕ = call_lines words (5 - (many + 1)) memory first b.base in
      (λ i. take (one i) (set i) ++ rest)
      ∙ ap (λ xs. xs ++ rest) (taken_set lines many v (omega (arith, few, wide)))
      ∙ append_assoc (take many lines) (v ∷ []) rest
      ∙ ap (λ c. take many lines ++ c ∷ rest) line
      ∙ ap (λ xs. take many lines ++ xs) (sym (lines_some words memory first base (5 - (many + 1)) b is))
      ∙ ap (λ n. take many lines ++ call_lines words n memory first base) (sym left)
      ∙ so_far

  -- no call more
  pub no_line_more : below_of memory first base ≡ None → take many lines ≡ place
  no_line_more none =
      sym (append-nil (take many lines)) ∙ ap (λ xs. take many lines ++ xs) (sym (none_called words memory first base (5 - many) none)) ∙ so_far

  pub all_lines : 5 ≤ many → take many lines ≡ place
  all_lines full =
      let none : 5 - many ≡ 0 = omega (arith, full) in
      sym (append-nil (take many lines)) ∙ ap (λ n. take many lines ++ call_lines words n memory first base) (sym none) ∙ so_far

-- ---- branches

pub get_below : (xs : List ℕ) (i a : ℕ) → slice_get xs i ≡ Some a → i < length xs
get_below [] i a e = let w : None ≡ Some a = e in absurd (cc)
get_below (x ∷ xs) zero a e = omega arith
get_below (x ∷ xs) (suc i) a e = omega (arith, get_below xs i a e)

none_left : (xs : List ℕ) (i : ℕ) → slice_get xs i ≡ None → drop i xs ≡ []
none_left [] zero e = refl
none_left [] (suc i) e = refl
none_left (x ∷ xs) zero e = let w : Some x ≡ None = e in absurd (cc)
none_left (x ∷ xs) (suc i) e = none_left xs i e

next_left : (xs : List ℕ) (i a : ℕ) → slice_get xs i ≡ Some a → drop i xs ≡ a ∷ drop (suc i) xs
next_left [] i a e = let w : None ≡ Some a = e in absurd (cc)
next_left (x ∷ xs) zero a e = let same : x ≡ a = some e in ap (λ b. b ∷ xs) same ∙ ap (λ ys. a ∷ ys) (all xs)
  where
    some : {x z : ℕ} → Some x ≡ Some z → x ≡ z
    some e = cc

    all : (ys : List ℕ) → ys ≡ drop 0 ys
    all [] = refl
    all (y ∷ ys) = refl
next_left (x ∷ xs) (suc i) a e = next_left xs i a e

pub born_next : (born fork b i : ℕ) (xs : List ℕ) (seats now : List Seated) (slot : ℕ) (s : Seated) → slice_get xs i ≡ Some slot → s ≡ seated_at born fork b →
    now ≡ put_at seats slot s → with_born born fork (b + 1) (drop (i + 1) xs) now ≡ with_born born fork b (drop i xs) seats
born_next born fork b i xs seats now slot s e is put =
    let one : b + 1 ≡ suc b = omega arith in
    let next : i + 1 ≡ suc i = omega arith in
    (λ z. with_born born fork (one z) (drop (next z) xs) ((put ∙ ap (put_at seats slot) is) z))
    ∙ ap (λ ys. with_born born fork b ys seats) (sym (next_left xs i slot e))

pub born_all_of : (born fork b i : ℕ) (xs : List ℕ) (seats : List Seated) → slice_get xs i ≡ None → with_born born fork b (drop i xs) seats ≡ seats
born_all_of born fork b i xs seats e = ap (λ ys. with_born born fork b ys seats) (none_left xs i e)
