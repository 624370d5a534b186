-- Stints by their numbers and by their processes, with one more.
use Rattle.std.proofs.Common.{◌≡◌, ◌≤◌, ◌<◌, ℕ, zero, suc, ◌+◌, Bool, true, false, if◌then◌else◌, List, [], ◌∷◌, ◌++◌, length, Option}
use Rattle.std.proofs.Common.{Some, None, refl, ap, sym, ◌∙◌, arith, map, take, length-append}
use Rattle.std.specs.Prelude.{slice_get}
use Rattle.std.proofs.lemmas.List.{map-append}
use Rattle.edi_calls.specs.Names.{Name, same}
use Rattle.edi_calls.proofs.Tables.{same-refl}
use Rattle.edi_timeline.specs.Stints.{Stint, ending_by, ending_of}
use Rattle.edi_timeline.specs.Text.{most_lines, kept}
use Rattle.edi_timeline.specs.Timelines.{told_of}
use Rattle.edi_timeline.specs.Adding.{nth_stint, used_by}
use Rattle.edi_timeline.proofs.Counting.{taken_whole}
use Rattle.edi_timeline.proofs.Telling.{last_tells}
use Rattle.edi_timed.specs.Ran.{or_else, newest_of}

-- ---- by their numbers

get_earlier : (xs : List Stint) (x : Stint) (n : ℕ) → n < length xs → slice_get (xs ++ x ∷ []) n ≡ slice_get xs n
get_earlier [] x n l = absurd (omega (arith, l))
get_earlier (y ∷ xs) x zero l = refl
get_earlier (y ∷ xs) x (suc n) l = get_earlier xs x n (omega (arith, l))

pub nth_earlier : (xs : List Stint) (x : Stint) (n : ℕ) → n ≤ length xs → nth_stint (xs ++ x ∷ []) n ≡ nth_stint xs n
nth_earlier xs x zero l = refl
nth_earlier xs x (suc n) l = get_earlier xs x n (omega (arith, l))

pub nth_newest : (xs : List Stint) (x : Stint) → nth_stint (xs ++ x ∷ []) (suc (length xs)) ≡ Some x
nth_newest [] x = refl
nth_newest (y ∷ xs) x = nth_newest xs x

pub one_longer : (xs : List Stint) (x : Stint) → length (xs ++ x ∷ []) ≡ suc (length xs)
one_longer xs x = let l : length (xs ++ x ∷ []) ≡ length xs + 1 = length-append xs (x ∷ []) in omega (arith, l)

pub used_more : (used : ℕ) (xs : List Stint) (x : Stint) → used_by used (xs ++ x ∷ []) ≡ x.last
used_more used [] x = refl
used_more used (y ∷ xs) x = used_more y.last xs x

-- ---- by their processes

pub newest_more : (xs : List Stint) (x : Stint) (p : Name) → newest_of (xs ++ x ∷ []) p ≡ (if same x.process p then Some x else newest_of xs p)
newest_more [] x p = refl
newest_more (y ∷ xs) x p =
    ap (λ o. or_else o (if same y.process p then Some y else None)) (newest_more xs x p)
    ∙ push (same x.process p) (newest_of xs p) (if same y.process p then Some y else None)
  where
    push : (b : Bool) (old other : Option Stint) → or_else (if b then Some x else old) other ≡ (if b then Some x else or_else old other)
    push true old other = refl
    push false old other = refl

pub newest_same : (xs : List Stint) (x : Stint) (p : Name) → x.process ≡ p → newest_of (xs ++ x ∷ []) p ≡ Some x
newest_same xs x p is = newest_more xs x p ∙ ap (λ b. if b then Some x else newest_of xs p) (ap (λ q. same q p) is ∙ same-refl p)

pub newest_other : (xs : List Stint) (x : Stint) (p : Name) → same x.process p ≡ false → newest_of (xs ++ x ∷ []) p ≡ newest_of xs p
newest_other xs x p is = newest_more xs x p ∙ ap (λ b. if b then Some x else newest_of xs p) is

-- ---- what is told of them

-- what is told of a last stint is what is kept of it
pub told_last : (xs : List Stint) (x y : Stint) → length xs < 100000 → kept x ≡ kept y → told_of (xs ++ x ∷ []) ≡ told_of (xs ++ y ∷ [])
told_last xs x y l e = (λ i. record { stints = same i; count = count i; ending = how i })
  where
    whole : (z : Stint) → map kept (take most_lines (xs ++ z ∷ [])) ≡ map kept xs ++ kept z ∷ []
    whole z = ap (map kept) (taken_whole most_lines (xs ++ z ∷ []) (omega (arith, l, one_longer xs z))) ∙ map-append kept xs (z ∷ [])

    same : map kept (take most_lines (xs ++ x ∷ [])) ≡ map kept (take most_lines (xs ++ y ∷ []))
    same = whole x ∙ ap (λ k. map kept xs ++ k ∷ []) e ∙ sym (whole y)

    count : length (xs ++ x ∷ []) ≡ length (xs ++ y ∷ [])
    count = one_longer xs x ∙ sym (one_longer xs y)

    how : ending_of (xs ++ x ∷ []) ≡ ending_of (xs ++ y ∷ [])
    how = last_tells xs x ∙ ap (λ (z : Stint). ending_by z.end) e ∙ sym (last_tells xs y)
