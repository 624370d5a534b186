-- Digits and the numbers that they spell.
use Rattle.std.proofs.Common.{◌≡◌, ℕ, zero, suc, ◌+◌, ◌-◌, ◌*◌, ◌<◌, ◌≤◌, Bool, true, false, List, [], ◌∷◌, ◌++◌, length, take, get_or, refl, ap, ◌∙◌, arith}
use Rattle.std.proofs.Common.{leb-true}
use Rattle.std.specs.Prelude.{◌&&◌, nat_le}
use Rattle.std.specs.List.{list_all, fold}
use Rattle.std.proofs.lemmas.List.{take_more}
use Rattle.edi_calls.proofs.Storing.{and_first, and_second}
use Rattle.edi_trace.specs.Lines.{is_digit, number_of}

-- each of the digits
each_digit : (line : List ℕ) (i : ℕ) → list_all is_digit line ≡ true → i < length line → is_digit (get_or line i 0) ≡ true
each_digit [] i h within = absurd (omega arith)
each_digit (c ∷ cs) zero h within = and_first (is_digit c) (list_all is_digit cs) h
each_digit (c ∷ cs) (suc i) h within = each_digit cs i (and_second (is_digit c) (list_all is_digit cs) h) (omega arith)

pub digit_low : (line : List ℕ) (i : ℕ) → list_all is_digit line ≡ true → i < length line → 48 ≤ get_or line i 0
digit_low line i h within =
    leb-true _ _ (and_first (nat_le 48 (get_or line i 0)) (nat_le (get_or line i 0) 57) (each_digit line i h within))

pub digit_high : (line : List ℕ) (i : ℕ) → list_all is_digit line ≡ true → i < length line → get_or line i 0 ≤ 57
digit_high line i h within =
    leb-true _ _ (and_second (nat_le 48 (get_or line i 0)) (nat_le (get_or line i 0) 57) (each_digit line i h within))

fold_push : (f : ℕ → ℕ → ℕ) (a : ℕ) (cs : List ℕ) (c : ℕ) → fold f a (cs ++ c ∷ []) ≡ f (fold f a cs) c
fold_push f a [] c = refl
fold_push f a (d ∷ cs) c = fold_push f (f a d) cs c

-- one more digit
pub number_more : (line : List ℕ) (i : ℕ) → i < length line
    → number_of (take (i + 1) line) ≡ number_of (take i line) * 10 + (get_or line i 0 - 48)
number_more line i within = ap number_of (take_more line i 0 within) ∙ fold_push _ 0 (take i line) (get_or line i 0)
