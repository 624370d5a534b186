-- Helper. A set's members and its eight words tell the same: lemmas on `members_where` and `words_where`.
use Rattle.std.proofs.Common.{◌≡◌, ℕ, zero, suc, ◌+◌, ◌-◌, ◌*◌, ◌/◌, ◌%◌, ◌^◌, ◌<◌, ◌≤◌, Bool, true, false, cond, ◌||◌, List, ◌∷◌, length, get_or, refl, sym}
use Rattle.std.proofs.Common.{ap, ◌∙◌, inl, inr, arith, eq-eqb, ne_eqb}
use Rattle.std.specs.Prelude.{◌==◌}
use Rattle.std.specs.List.{filter, range_with_len}
use Rattle.std.specs.Int.{bit_at}
use Rattle.std.proofs.lemmas.Bool.{cases_eq}
use Rattle.std.proofs.lemmas.Grind.{same_number_lists}
use Rattle.std.proofs.lemmas.List.Elements.{All-from_get_or}
use Rattle.std.proofs.lemmas.List.FromFn.{get_or-map-range_with_len, length-map-range_with_len}
use Rattle.std.proofs.lemmas.Nat.{div-mul-add, mod-mul-add, div-add-mod'}
use Rattle.std.proofs.lemmas.Nat.Bits.{bit_at-lt, bit_at_cat_low, bit_at_cat_high, same_from_bits_below}
use Rattle.std.proofs.Math.Nat.{pow-suc}
use Rattle.edi_word.specs.Sets.{set_has, members_where, word_has}
use Rattle.edi_word.specs.SetWords.{members_of, bits_where, words_where, words_of_members, AreSetWords}

-- ---- the members of which a test holds

has_other : (b : Bool) (x n : ℕ) (xs : List ℕ) → (x == n) ≡ false → set_has (cond b (x ∷ xs) xs) n ≡ set_has xs n
has_other true x n xs differs = ap (λ t. t || set_has xs n) differs
has_other false x n xs differs = refl

has_this : (b : Bool) (x n : ℕ) (xs : List ℕ) → (x == n) ≡ true → set_has xs n ≡ false → set_has (cond b (x ∷ xs) xs) n ≡ b
has_this true x n xs same none = ap (λ t. t || set_has xs n) same
has_this false x n xs same none = none

none_before : (test : ℕ → Bool) (a count n : ℕ) → n < a → set_has (filter test (range_with_len a count)) n ≡ false
none_before test a zero n before = refl
none_before test a (suc count) n before =
    has_other (test a) a n _ (ne_eqb a n (λ same. omega arith)) ∙ none_before test (a + 1) count n (omega arith)

none_after : (test : ℕ → Bool) (a count n : ℕ) → a + count ≤ n → set_has (filter test (range_with_len a count)) n ≡ false
none_after test a zero n after = refl
none_after test a (suc count) n after =
    has_other (test a) a n _ (ne_eqb a n (λ same. omega arith)) ∙ none_after test (a + 1) count n (omega arith)

has_within : (test : ℕ → Bool) (a count n : ℕ) → a ≤ n → n < a + count → set_has (filter test (range_with_len a count)) n ≡ test n
has_within test a zero n from to = absurd (omega arith)
has_within test a (suc count) n from to =
    elim (cases_eq a n) [
      | inl same ↦ has_this (test a) a n _ (eq-eqb a n same) (none_before test (a + 1) count n (omega arith)) ∙ ap test same
      | inr differs ↦ has_other (test a) a n _ (ne_eqb a n differs) ∙ has_within test (a + 1) count n (omega arith) (omega arith)
    ]

-- an ordinal is a member exactly where the test holds of it
pub set_has-members_where : (test : ℕ → Bool) (n : ℕ) → n < 128 → set_has (members_where test) n ≡ test n
unfolding members_where
set_has-members_where test n ordinal = has_within test 0 128 n (omega arith) (omega arith)

pub set_has-members_where_past : (test : ℕ → Bool) (n : ℕ) → 128 ≤ n → set_has (members_where test) n ≡ false
unfolding members_where
set_has-members_where_past test n past = none_after test 0 128 n (omega arith)

-- ---- the words of which a test holds

flag_below : (b : Bool) (m r : ℕ) → r < m → cond b 1 0 * m + r < 2 * m
flag_below true m r small = omega arith
flag_below false m r small = omega arith

flag_bit : (b : Bool) → (bit_at (cond b 1 0) 0 == 1) ≡ b
flag_bit true = refl
flag_bit false = refl

pub bits_where-lt : (test : ℕ → Bool) (count : ℕ) → bits_where test count < 2 ^ count
bits_where-lt test zero = omega arith
bits_where-lt test (suc count) =
    rw (pow-suc 2 count) (omega (arith, flag_below (test count) (2 ^ count) (bits_where test count) (bits_where-lt test count)))

pub bit_at-bits_where : (test : ℕ → Bool) (count k : ℕ) → k < count → (bit_at (bits_where test count) k == 1) ≡ test k
bit_at-bits_where test zero k below = absurd (omega arith)
bit_at-bits_where test (suc count) k below =
    elim (cases_eq k count) [
      | inl same ↦
          let high : bit_at (bits_where test (suc count)) k ≡ bit_at (cond (test count) 1 0) (k - count) = bit_at_cat_high (cond (test count) 1 0) count
          (bits_where test count) k (bits_where-lt test count) (omega arith) in
          let first : k - count ≡ 0 = omega arith in
          ap (λ b. b == 1) (high ∙ ap (bit_at (cond (test count) 1 0)) first) ∙ flag_bit (test count) ∙ ap test (sym same)
      | inr differs ↦
          ap (λ b. b == 1) (bit_at_cat_low (cond (test count) 1 0) count (bits_where test count) k (omega arith)) ∙ bit_at-bits_where test count k (omega arith)
    ]

pub get_or-words_where : (test : ℕ → Bool) (i : ℕ) → i < 8 → get_or (words_where test) i 0 ≡ bits_where (λ k. test (i * 16 + k)) 16
unfolding words_where
get_or-words_where test i within = get_or-map-range_with_len (λ i. bits_where (λ k. test (i * 16 + k)) 16) 0 8 i i 0 within (omega arith)

length-words_where : (test : ℕ → Bool) → length (words_where test) ≡ 8
unfolding words_where
length-words_where test = length-map-range_with_len (λ i. bits_where (λ k. test (i * 16 + k)) 16) 0 8

pub AreSetWords-words_where : (test : ℕ → Bool) → AreSetWords (words_where test)
AreSetWords-words_where test = record {
  eight = length-words_where test;
  small = All-from_get_or (λ word. word < 2 ^ 16) (words_where test) 0
      (λ i within. let small : bits_where (λ k. test (i * 16 + k)) 16 < 2 ^ 16 = bits_where-lt (λ k. test (i * 16 + k)) 16 in
      let here : i < 8 = omega (arith, length-words_where test) in rw (get_or-words_where test i here) small);
}

-- an ordinal is a member exactly where the test holds of it
pub word_has-words_where : (test : ℕ → Bool) (n : ℕ) → n < 128 → word_has (words_where test) n ≡ test n
word_has-words_where test n ordinal =
    let word : n / 16 < 8 = omega arith in
    let bit : n % 16 < 16 = omega arith in
    ap (λ w. bit_at w (n % 16) == 1) (get_or-words_where test (n / 16) word)
    ∙ bit_at-bits_where (λ k. test (n / 16 * 16 + k)) 16 (n % 16) bit
    ∙ ap test (div-add-mod' n 16)

-- ---- a set is known by its members

same_bit : (a b : ℕ) → a < 2 → b < 2 → (a == 1) ≡ (b == 1) → a ≡ b
same_bit zero zero small other same = refl
same_bit zero (suc zero) small other same = cc
same_bit (suc zero) zero small other same = cc
same_bit (suc zero) (suc zero) small other same = refl
same_bit (suc (suc a)) b small other same = absurd (omega arith)
same_bit a (suc (suc b)) small other same = absurd (omega arith)

-- bit k of word i is member i * 16 + k
bit_of_word : (words : List ℕ) (i k : ℕ) → k < 16 → (bit_at (get_or words i 0) k == 1) ≡ word_has words (i * 16 + k)
bit_of_word words i k small = rw (div-mul-add i 16 k small, mod-mul-add i 16 k small) refl

pub same_words : (words others : List ℕ) → AreSetWords words → AreSetWords others → ((n : ℕ) → n < 128 → word_has words n ≡ word_has others n) → words ≡ others
same_words words others set other same =
    same_number_lists words others (set.eight ∙ sym other.eight) (λ i within.
    let here : i < length others = omega (arith, set.eight, other.eight) in
    same_from_bits_below 16 (get_or words i 0) (get_or others i 0) (set.small i 0 within) (other.small i 0 here) (λ k small.
    same_bit _ _ (bit_at-lt (get_or words i 0) k) (bit_at-lt (get_or others i 0) k)
    (bit_of_word words i k small ∙ same (i * 16 + k) (omega (arith, set.eight)) ∙ sym (bit_of_word others i k small))))

-- a set's words are found again from the list of its members
pub words_of_members-members_of : (words : List ℕ) → AreSetWords words → words_of_members (members_of words) ≡ words
words_of_members-members_of words set =
    same_words (words_of_members (members_of words)) words (AreSetWords-words_where _) set (λ n ordinal.
    word_has-words_where (set_has (members_of words)) n ordinal ∙ set_has-members_where (word_has words) n ordinal)
