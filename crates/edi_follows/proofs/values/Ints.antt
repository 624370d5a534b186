-- What the operations of `int` give is a value of `int`.
use Rattle.std.proofs.Common.{◌≡◌, zero, suc, ◌<◌, ◌^◌, ℤ, pos, negsuc, ◌+ℤ◌, ◌-ℤ◌, ◌*ℤ◌, Bool, true, false, cond, refl, w16, arith}
use Rattle.std.specs.Prelude.{Option, Some, None, IsTrue, IfSome, int_div, int_rem, unsigned_abs, FitsSigned}
use Rattle.std.specs.Option.{option_map}
use Rattle.std.proofs.lemmas.Int.{ints, quot-rem, rem_below, fits_signed_from_abs}
use Rattle.edi_word.specs.Integers.{is_int, within_int, int_sum, int_difference, int_product, int_quotient, int_remainder}
use Rattle.edi_word.proofs.IntLaws.{fits_from_is_int, is_int_from_fits}

-- an operation gives values of `int` only
abbrev pub GivesInts : (ℤ → ℤ → Option ℤ) → Type 0
GivesInts f = (x y : ℤ) → IsTrue (is_int y) → IfSome (f x y) (λ z. IsTrue (is_int z))

by_test : (b : Bool) (z : ℤ) → (b ≡ true → IsTrue (is_int z)) → IfSome (cond b (Some z) None) (λ z. IsTrue (is_int z))
by_test true z h = h refl
by_test false z h = tt

within_is : (z : ℤ) → IfSome (within_int z) (λ z. IsTrue (is_int z))
within_is z = by_test (is_int z) z (λ h. h)

pub sum_gives : GivesInts int_sum
sum_gives x y is = within_is (x +ℤ y)

pub difference_gives : GivesInts int_difference
difference_gives x y is = within_is (x -ℤ y)

pub product_gives : GivesInts int_product
product_gives x y is = within_is (x *ℤ y)

pub quotient_gives : GivesInts int_quotient
quotient_gives x (pos zero) is = tt
quotient_gives x (pos (suc y)) is = within_is (int_div x (pos (suc y)))
quotient_gives x (negsuc y) is = within_is (int_div x (negsuc y))

remainder_fits : (x y : ℤ) → 0 < unsigned_abs y → FitsSigned w16 y → FitsSigned w16 (x -ℤ int_div x y *ℤ y)
remainder_fits x y divides fits =
    let is : int_rem x y ≡ x -ℤ int_div x y *ℤ y = omega (arith, ints, quot-rem x y) in
    let small : unsigned_abs (int_rem x y) < 2 ^ 15 = omega (arith, ints, rem_below x y divides) in
    rw (← is) (fits_signed_from_abs w16 (int_rem x y) small)

remainder_of : (b : Bool) (x y : ℤ) → 0 < unsigned_abs y → IsTrue (is_int y) →
    IfSome (option_map (λ q. x -ℤ q *ℤ y) (cond b (Some (int_div x y)) None)) (λ z. IsTrue (is_int z))
remainder_of true x y divides is = is_int_from_fits (x -ℤ int_div x y *ℤ y) (remainder_fits x y divides (fits_from_is_int y is))
remainder_of false x y divides is = tt

pub remainder_gives : GivesInts int_remainder
remainder_gives x (pos zero) is = tt
remainder_gives x (pos (suc y)) is = remainder_of _ x (pos (suc y)) (omega arith) is
remainder_gives x (negsuc y) is = remainder_of _ x (negsuc y) (omega arith) is
