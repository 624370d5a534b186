-- The numbers that digits spell.
use Rattle.std.proofs.Common.{◌≡◌, ℕ, ◌+◌, ◌-◌, ◌*◌, ◌<◌, ◌≤◌, true, false, List, [], ◌∷◌, length, get_or, drop, ℤ, None, Some, cond, pos, leb, arith}
use Rattle.std.proofs.Common.{drop-cons, add-one, refl, subst}
use Rattle.std.proofs.lemmas.Bool.Decides.{nat_tests}
use Rattle.edi_lex.specs.Spelling.{number_from, number_of}
use Rattle.edi_lex.specs.Spelled.{is_spelled}
use Rattle.edi_lex.specs.declared.symbol.Symbol.TheVariants.{Numeral}

-- more digits never make a number less
number_from-grows : (n : ℕ) (digits : List ℕ) → n ≤ number_from n digits
number_from-grows n [] = omega arith
number_from-grows n (d ∷ digits) = omega (arith, number_from-grows (n * 10 + (d - 48)) digits)

above : (n : ℕ) → 32767 < n → cond (leb n 32767) (Some (pos n)) None ≡ None
above n greater = grind (arith, nat_tests)

-- a number that is above the greatest one at some digit is above it at the end
pub number_of-above : (digits : List ℕ) (i n : ℕ) → i < length digits → number_from n (drop i digits) ≡ number_from 0 digits
    → 32767 < n * 10 + (get_or digits i 0 - 48) → number_of digits ≡ None
number_of-above digits i n within stated greater =
    let opened : number_from n (drop i digits) ≡ number_from (n * 10 + (get_or digits i 0 - 48)) (drop (i + 1) digits) = rw (add-one, drop-cons digits i 0)
    refl in
    above _ (omega (arith, opened, stated, number_from-grows (n * 10 + (get_or digits i 0 - 48)) (drop (i + 1) digits)))

spelled_below : (n : ℕ) (value : ℤ) → cond (leb n 32767) (Some (pos n)) None ≡ Some value → is_spelled (Numeral value) ≡ true
spelled_below n value stated =
    elim (leb n 32767) as (λ t. leb n 32767 ≡ t → cond t (Some (pos n)) None ≡ Some value → is_spelled (Numeral value) ≡ true) [
      | true ↦ λ h e. let same : pos n ≡ value = cc in subst (λ v. is_spelled (Numeral v) ≡ true) same h
      | false ↦ λ h e. absurd (cc)
    ] refl stated

-- a numeral is spelled
pub number_spelled : (digits : List ℕ) (value : ℤ) → number_of digits ≡ Some value → is_spelled (Numeral value) ≡ true
number_spelled digits value stated = spelled_below (number_from 0 digits) value stated
