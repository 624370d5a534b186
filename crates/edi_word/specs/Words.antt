-- Definition. Words of 16 bits, which are numbers below 65,536, as integers in two's complement.
use Rattle.std.specs.Prelude.{◌≡◌, ℕ, ◌^◌, ◌<◌, ℤ, Option, IsTrue, IfSome}
use Rattle.std.specs.Option.{option_map}
use Rattle.std.specs.Int.{w16, cast_signed, cast_unsigned}
use Rattle.edi_word.specs.Integers.{is_int, int_sum, int_difference, int_product, int_quotient, int_remainder}

-- the integer that a word stands for: a word from 32,768 on stands for itself less 65,536
abbrev pub signed : ℕ → ℤ
signed word = cast_signed w16 word

-- the word that stands for a value of `int`
abbrev pub unsigned : ℤ → ℕ
unsigned z = cast_unsigned w16 z

-- what an operation on integers gives on the integers that two words stand for, as a word
abbrev pub on_words : (ℤ → ℤ → Option ℤ) → ℕ → ℕ → Option ℕ
on_words f x y = option_map unsigned (f (signed x) (signed y))

abbrev pub word_add : ℕ → ℕ → Option ℕ
word_add x y = on_words int_sum x y

abbrev pub word_sub : ℕ → ℕ → Option ℕ
word_sub x y = on_words int_difference x y

abbrev pub word_mul : ℕ → ℕ → Option ℕ
word_mul x y = on_words int_product x y

abbrev pub word_div : ℕ → ℕ → Option ℕ
word_div x y = on_words int_quotient x y

abbrev pub word_modulo : ℕ → ℕ → Option ℕ
word_modulo x y = on_words int_remainder x y

-- words and the values of `int` stand for each other one to one
abbrev pub WordsStandForInt : Type 0
WordsStandForInt = ((word : ℕ) → word < 2 ^ 16 → IsTrue (is_int (signed word)) × (unsigned (signed word) ≡ word))
    × ((z : ℤ) → IsTrue (is_int z) → (unsigned z < 2 ^ 16) × (signed (unsigned z) ≡ z))

-- g does to the words of two values of `int` what f does to the values, and what it gives is a word
abbrev pub WordsFollow : (ℤ → ℤ → Option ℤ) → (ℕ → ℕ → Option ℕ) → Type 0
WordsFollow f g = (x y : ℤ) → IsTrue (is_int x) → IsTrue (is_int y) → (g (unsigned x) (unsigned y) ≡ option_map unsigned (f x y))
    × IfSome (g (unsigned x) (unsigned y)) (λ word. word < 2 ^ 16)
