-- Words and numbers as bytes.
use Rattle.std.proofs.Common.{◌≡◌, ℕ, ◌+◌, ◌*◌, ◌/◌, ◌%◌, ◌^◌, ◌<◌, ◌≤◌, zero, suc, List, [], ◌∷◌, None, length, take, drop, get_or, replicate, refl, ap}
use Rattle.std.proofs.Common.{◌∙◌, arith}
use Rattle.std.proofs.lemmas.List.{drop_more}
use Rattle.std.proofs.Common.{Result, Ok, Err, cond}
use Rattle.std.specs.Prelude.{is_ok, OnOk}
use Rattle.byteorder.specs.Endian.{big_number}
use Rattle.edi_target.specs.File.{bytes_of_words, words_of_bytes, zeros_fault}

-- the bytes of the words from one on
pub bytes_more : (words : List ℕ) (i : ℕ) → i < length words → bytes_of_words (drop i words) ≡ get_or words i 0 / 2 ^ 8 ∷ get_or words i 0 % 2 ^ 8
    ∷ bytes_of_words (drop (i + 1) words)
bytes_more words i l = ap bytes_of_words (drop_more words i 0 l)

-- the words of at least two bytes
pub words_more : (bytes : List ℕ) → 2 ≤ length bytes → words_of_bytes bytes ≡ big_number 2 (take 2 bytes) ∷ words_of_bytes (drop 2 bytes)
words_more [] l = absurd (omega arith)
words_more (a ∷ []) l = absurd (omega arith)
words_more (a ∷ b ∷ bytes) l =
    let number : 2 ^ 8 * a + b ≡ big_number 2 (a ∷ b ∷ []) = omega arith in ap (λ (n : ℕ). n ∷ words_of_bytes bytes) number

-- and of fewer
pub words_none : (bytes : List ℕ) → length bytes < 2 → words_of_bytes bytes ≡ []
words_none [] l = refl
words_none (a ∷ []) l = refl
words_none (a ∷ b ∷ bytes) l = absurd (omega arith)

-- half as many
pub length-words_of_bytes : (n : ℕ) (bytes : List ℕ) → length bytes ≡ 2 * n → length (words_of_bytes bytes) ≡ n
length-words_of_bytes zero bytes e = ap length (words_none bytes (omega arith))
length-words_of_bytes (suc n) [] e = absurd (omega arith)
length-words_of_bytes (suc n) (a ∷ []) e = absurd (omega arith)
length-words_of_bytes (suc n) (a ∷ b ∷ bytes) e = ap suc (length-words_of_bytes n bytes (omega arith))

-- the words of words' bytes
pub words_of_bytes-bytes_of_words : (words : List ℕ) → words_of_bytes (bytes_of_words words) ≡ words
words_of_bytes-bytes_of_words [] = refl
words_of_bytes-bytes_of_words (w ∷ words) =
    let number : 2 ^ 8 * (w / 2 ^ 8) + w % 2 ^ 8 ≡ w = omega arith in
    ap (λ (n : ℕ). n ∷ words_of_bytes (bytes_of_words words)) number ∙ ap (λ (l : List ℕ). w ∷ l) (words_of_bytes-bytes_of_words words)

pub length-bytes_of_words : (words : List ℕ) → length (bytes_of_words words) ≡ 2 * length words
length-bytes_of_words [] = refl
length-bytes_of_words (w ∷ words) = omega (arith, length-bytes_of_words words)

-- the number of a number's bytes
pub number-number_bytes : (n : ℕ) → n < 2 ^ 32 → 2 ^ 16 * (2 ^ 8 * (n / 2 ^ 24) + n / 2 ^ 16 % 2 ^ 8) + (2 ^ 8 * (n / 2 ^ 8 % 2 ^ 8) + n % 2 ^ 8) ≡ n
number-number_bytes n l = omega arith

-- zeros are no fault
pub zeros_fault-replicate : (n at : ℕ) → zeros_fault at (replicate n 0) ≡ None
zeros_fault-replicate zero at = refl
zeros_fault-replicate (suc n) at = zeros_fault-replicate n (at + 1)

-- what a call that appends says where it did
pub appended : {E : Type 0} (r : Result (Unit {0}) E) (new on off expected : List ℕ) → new ≡ cond (is_ok r) on off → on ≡ expected → OnOk r (new ≡ expected)
appended (Ok x) new on off expected e f = e ∙ f
appended (Err x) new on off expected e f = tt
