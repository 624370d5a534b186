-- Helper. How one word holds a number or none.
use Rattle.std.specs.Prelude.{◌≡◌, refl, ℕ, zero, suc, Option, Some, None}

-- the number that a word stands for, if it does
abbrev pub number_in : ℕ → Option ℕ
number_in zero = None
number_in (suc n) = Some n

-- the word for a number or none
abbrev pub word_of : Option ℕ → ℕ
word_of None = zero
word_of (Some n) = suc n

-- the number that a word stands for gives the word back
pub word_of-number_in : (word : ℕ) → word_of (number_in word) ≡ word
word_of-number_in zero = refl
word_of-number_in (suc n) = refl
