-- Laws of the arithmetic of `int`, and that words in two's complement follow it.
use Rattle.std.proofs.Common.{◌≡◌, ℕ, zero, suc, ◌^◌, ◌<◌, ℤ, pos, negsuc, ◌+ℤ◌, ◌-ℤ◌, ◌*ℤ◌, refl, ap, ◌∙◌, w16, to_z-of_z, arith}
use Rattle.std.specs.Prelude.{Option, Some, None, Bool, true, false, cond, FitsSigned, IsTrue, IfSome, int_div, int_rem, unsigned_abs}
use Rattle.std.specs.Option.{option_map, SomeIff}
use Rattle.std.specs.Int.{CanDivide}
use Rattle.std.proofs.lemmas.Int.{ints, quot-rem, rem_below, fits_signed_from_abs, of_z-to_z}
use Rattle.edi_word.specs.Integers.{is_int, within_int, int_sum, int_difference, int_product, int_quotient, int_remainder}
use Rattle.edi_word.specs.Words.{signed, unsigned, on_words, word_add, word_sub, word_mul, word_div, word_modulo, WordsStandForInt, WordsFollow}

-- ---- remainders

-- a remainder is what is left of x when y is taken from it as often as the quotient says
remainder_is : (x y : ℤ) → int_rem x y ≡ x -ℤ int_div x y *ℤ y
remainder_is x y = omega (arith, ints, quot-rem x y)

-- the quotient, where the machine's own division says whether there is one
pub quotient_from : (r : Option ℤ) (x y : ℤ) → FitsSigned w16 y → SomeIff r (CanDivide w16 x y) (int_div x y) → r ≡ int_quotient x y
quotient_from r x y fits is = grind (arith, ints)

pub remainder_from : (r : Option ℤ) (x y : ℤ) → FitsSigned w16 y → SomeIff r (CanDivide w16 x y) (int_rem x y) → r ≡ int_remainder x y
remainder_from None x y fits none = ap (option_map (λ q. x -ℤ q *ℤ y)) (quotient_from None x y fits none)
remainder_from (Some z) x y fits is =
    ap Some (is.1 ∙ remainder_is x y) ∙ ap (option_map (λ q. x -ℤ q *ℤ y)) (quotient_from (Some (int_div x y)) x y fits (is.0, refl))

-- ---- what the operations give is a value of `int`

pub fits_from_is_int : (z : ℤ) → IsTrue (is_int z) → FitsSigned w16 z
fits_from_is_int z is = grind (arith, ints)

pub is_int_from_fits : (z : ℤ) → FitsSigned w16 z → IsTrue (is_int z)
is_int_from_fits z fits = grind (arith, ints)

within_int-fits : (z : ℤ) → IfSome (within_int z) (FitsSigned w16)
within_int-fits z = grind (arith, ints)

int_quotient-fits : (x y : ℤ) → IfSome (int_quotient x y) (FitsSigned w16)
int_quotient-fits x (pos zero) = tt
int_quotient-fits x (pos (suc y)) = within_int-fits (int_div x (pos (suc y)))
int_quotient-fits x (negsuc y) = within_int-fits (int_div x (negsuc y))

-- ---- words

-- the word of the integer that a word stands for is that word
pub unsigned-signed : (word : ℕ) → word < 2 ^ 16 → unsigned (signed word) ≡ word
unsigned-signed word small = of_z-to_z w16 word small

-- a value of `int` is the integer that its word stands for
pub signed-unsigned : (z : ℤ) → FitsSigned w16 z → signed (unsigned z) ≡ z
signed-unsigned z fits = to_z-of_z fits

pub signed-fits : (word : ℕ) → word < 2 ^ 16 → FitsSigned w16 (signed word)
signed-fits word small = grind (arith, ints)

pub unsigned-lt : (z : ℤ) → FitsSigned w16 z → unsigned z < 2 ^ 16
unsigned-lt z fits = omega (arith, ints)

remainder_of : (b : Bool) (x y : ℤ) → 0 < unsigned_abs y → FitsSigned w16 y → IfSome (option_map (λ q. x -ℤ q *ℤ y) (cond b (Some (int_div x y)) None))
    (FitsSigned w16)
remainder_of true x y divides fits =
    let small : unsigned_abs (int_rem x y) < 2 ^ 15 = omega (arith, ints, rem_below x y divides) in
    rw (← remainder_is x y) (fits_signed_from_abs w16 (int_rem x y) small)
remainder_of false x y divides fits = tt

int_remainder-fits : (x y : ℤ) → FitsSigned w16 y → IfSome (int_remainder x y) (FitsSigned w16)
int_remainder-fits x (pos zero) fits = tt
int_remainder-fits x (pos (suc y)) fits = remainder_of _ x (pos (suc y)) (omega arith) fits
int_remainder-fits x (negsuc y) fits = remainder_of _ x (negsuc y) (omega arith) fits

as_words : (o : Option ℤ) → IfSome o (FitsSigned w16) → IfSome (option_map unsigned o) (λ word. word < 2 ^ 16)
as_words None small = tt
as_words (Some z) fits = unsigned-lt z fits

-- an operation that gives values of `int` gives words on words
pub words_follow : (f : ℤ → ℤ → Option ℤ) → ((x y : ℤ) → FitsSigned w16 y → IfSome (f x y) (FitsSigned w16)) → WordsFollow f (on_words f)
words_follow f gives x y is also =
    let same : on_words f (unsigned x) (unsigned y) ≡ option_map unsigned (f x y) =
    rw (signed-unsigned x (fits_from_is_int x is), signed-unsigned y (fits_from_is_int y also)) refl in
    (same, rw same (as_words (f x y) (gives x y (fits_from_is_int y also))))

pub word_add_follows : WordsFollow int_sum word_add
word_add_follows = words_follow int_sum (λ x y _. within_int-fits (x +ℤ y))

pub word_sub_follows : WordsFollow int_difference word_sub
word_sub_follows = words_follow int_difference (λ x y _. within_int-fits (x -ℤ y))

pub word_mul_follows : WordsFollow int_product word_mul
word_mul_follows = words_follow int_product (λ x y _. within_int-fits (x *ℤ y))

pub word_div_follows : WordsFollow int_quotient word_div
word_div_follows = words_follow int_quotient (λ x y _. int_quotient-fits x y)

pub word_modulo_follows : WordsFollow int_remainder word_modulo
word_modulo_follows = words_follow int_remainder int_remainder-fits

pub words_stand_for_int : WordsStandForInt
words_stand_for_int = (
  λ word small. (is_int_from_fits (signed word) (signed-fits word small), unsigned-signed word small),
  λ z is. (unsigned-lt z (fits_from_is_int z is), signed-unsigned z (fits_from_is_int z is)),
)
