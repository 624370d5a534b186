-- Laws of sets, as lists of members and as words.
use Rattle.std.proofs.Common.{◌≡◌, ℕ, zero, suc, ◌+◌, ◌-◌, ◌/◌, ◌%◌, ◌^◌, ◌<◌, ◌≤◌, min, max, Bool, true, false, not, cond, ◌&&◌, ◌||◌, List, [], ◌∷◌}
use Rattle.std.proofs.Common.{length, get_or, set, refl, sym, ap, ap₂, ◌∙◌, inl, inr, arith, eqb, eq-eqb, ne_eqb, ltb, lt-ltb, le-ltb, w16, bit_and, bit_or}
use Rattle.std.specs.Prelude.{◌==◌, nat_lt, ℤ, pos, negsuc}
use Rattle.std.specs.Cmp.Lexicographic.{pointwise}
use Rattle.std.specs.List.{filter, range_with_len}
use Rattle.std.specs.Int.{bit_at, bit_not}
use Rattle.std.proofs.lemmas.Bool.{cases_eq, cases_lt, cases_Bool}
use Rattle.std.proofs.lemmas.Grind.{same_number_lists}
use Rattle.std.proofs.lemmas.List.Elements.{All-from_get_or, All-set}
use Rattle.std.proofs.lemmas.List.{get_or-set_same, get_or-set_other, length-set}
use Rattle.std.proofs.lemmas.Nat.{or_lt, and_le_l, pow_below}
use Rattle.std.proofs.lemmas.Nat.Bits.{bit_at-lt, bit_at_and, bit_at_or, bit_at_not, bit_at-pow_same, bit_at-pow_other, shr_and_one}
use Rattle.edi_word.specs.Sets.{set_has, set_has_int, members_where, with_member, set_union, set_minus, set_meet, word_has}
use Rattle.edi_word.specs.SetWords.{IsIncreasingFrom, IsOrdinalSet}
use Rattle.edi_word.specs.Sets.{each_word, words_with, words_union, words_minus, words_meet}
use Rattle.edi_word.specs.SetWords.{members_of, words_of_members, AreSetWords, words_have}
use Rattle.edi_word.specs.SetWords.{ViewsAreOne, ViewsAgree, ViewsAgreeOnWith, ViewsAgreeOnHas}
use Rattle.edi_word.specs.SetViews.{AreSetWords-words_where, set_has-members_where, word_has-words_where, words_of_members-members_of}

-- ---- lists of members

agree_within : (p q : ℕ → Bool) (a count : ℕ) → ((n : ℕ) → a ≤ n → n < a + count → p n ≡ q n) → filter p (range_with_len a count) ≡ filter q
    (range_with_len a count)
agree_within p q a zero same = refl
agree_within p q a (suc count) same =
    ap₂ (λ b xs. cond b (a ∷ xs) xs) (same a (omega arith) (omega arith)) (agree_within p q (a + 1) count (λ n from to. same n (omega arith) (omega arith)))

-- tests that agree on the ordinals hold of the same members
pub members_where-agree : (p q : ℕ → Bool) → ((n : ℕ) → n < 128 → p n ≡ q n) → members_where p ≡ members_where q
unfolding members_where
members_where-agree p q same = agree_within p q 0 128 (λ n from to. same n (omega arith))

less_bound : (low high : ℕ) (xs : List ℕ) → low ≤ high → IsIncreasingFrom high xs → IsIncreasingFrom low xs
less_bound low high [] le set = set
less_bound low high (x ∷ xs) le set = (omega arith, set.1, set.2)

chosen : (b : Bool) (a low : ℕ) (xs : List ℕ) → low ≤ a → a < 128 → IsIncreasingFrom (a + 1) xs → IsIncreasingFrom low (cond b (a ∷ xs) xs)
chosen true a low xs le small set = (le, small, set)
chosen false a low xs le small set = less_bound low (a + 1) xs (omega arith) set

increasing_within : (test : ℕ → Bool) (a count : ℕ) → a + count ≤ 128 → IsIncreasingFrom a (filter test (range_with_len a count))
increasing_within test a zero within = tt
increasing_within test a (suc count) within =
    chosen (test a) a a _ (omega arith) (omega arith) (increasing_within test (a + 1) count (omega arith))

-- what a test chooses is a set, and so is what each operation gives
pub IsOrdinalSet-members_where : (test : ℕ → Bool) → IsOrdinalSet (members_where test)
unfolding members_where
IsOrdinalSet-members_where test = increasing_within test 0 128 (omega arith)

none_below : (low n : ℕ) (xs : List ℕ) → IsIncreasingFrom low xs → n < low → set_has xs n ≡ false
none_below low n [] set below = refl
none_below low n (x ∷ xs) set below =
    ap (λ b. b || set_has xs n) (ne_eqb x n (λ same. omega arith)) ∙ none_below (x + 1) n xs set.2 (omega arith)

without_first : (x a count : ℕ) (xs : List ℕ) → x < a → filter (set_has (x ∷ xs)) (range_with_len a count) ≡ filter (set_has xs) (range_with_len a count)
without_first x a count xs before =
    agree_within (set_has (x ∷ xs)) (set_has xs) a count (λ n from to. ap (λ b. b || set_has xs n) (ne_eqb x n (λ same. omega arith)))

found_again : (a count : ℕ) (xs : List ℕ) → a + count ≡ 128 → IsIncreasingFrom a xs → filter (set_has xs) (range_with_len a count) ≡ xs
found_again a zero [] whole set = refl
found_again a zero (x ∷ xs) whole set = absurd (omega arith)
found_again a (suc count) [] whole set = found_again (a + 1) count [] (omega arith) tt
found_again a (suc count) (x ∷ xs) whole set =
    elim (cases_eq x a) [
      | inl same ↦
          ap (λ b. cond (b || set_has xs a) (a ∷ filter (set_has (x ∷ xs)) (range_with_len (a + 1) count))
          (filter (set_has (x ∷ xs)) (range_with_len (a + 1) count))) (eq-eqb x a same)
          ∙ ap₂ (λ y ys. y ∷ ys) (sym same) (without_first x (a + 1) count xs (omega arith) ∙ found_again (a + 1) count xs (omega arith)
          (less_bound (a + 1) (x + 1) xs (omega arith) set.2))
      | inr differs ↦
          ap (λ b. cond b (a ∷ filter (set_has (x ∷ xs)) (range_with_len (a + 1) count)) (filter (set_has (x ∷ xs)) (range_with_len (a + 1) count)))
          (ap (λ b. b || set_has xs a) (ne_eqb x a differs) ∙ none_below (x + 1) a xs set.2 (omega arith))
          ∙ found_again (a + 1) count (x ∷ xs) (omega arith) (omega arith, set.1, set.2)
    ]

-- a set is what the test whether an ordinal is a member of it chooses
pub members_where-set_has : (xs : List ℕ) → IsOrdinalSet xs → members_where (set_has xs) ≡ xs
unfolding members_where
members_where-set_has xs set = found_again 0 128 xs refl set

-- ---- both views

-- an ordinal is a member of the words exactly where it is a member of the list
pub word_has-members_of : (words : List ℕ) (n : ℕ) → n < 128 → word_has words n ≡ set_has (members_of words) n
word_has-members_of words n ordinal = sym (set_has-members_where (word_has words) n ordinal)

-- a set is found again from its words
pub members_of-words_of_members : (xs : List ℕ) → IsOrdinalSet xs → members_of (words_of_members xs) ≡ xs
members_of-words_of_members xs set =
    members_where-agree (word_has (words_of_members xs)) (set_has xs) (λ n ordinal. word_has-words_where (set_has xs) n ordinal)
    ∙ members_where-set_has xs set

-- sets with the same words have the same members
pub same_set_from_words : (xs ys : List ℕ) → IsOrdinalSet xs → IsOrdinalSet ys → words_of_members xs ≡ words_of_members ys → xs ≡ ys
same_set_from_words xs ys set other same =
    sym (members_of-words_of_members xs set) ∙ ap members_of same ∙ members_of-words_of_members ys other

pub length-each_word : (f : ℕ → ℕ → ℕ) (xs ys : List ℕ) → length xs ≡ length ys → length (each_word f xs ys) ≡ length xs
length-each_word f [] ys same = refl
length-each_word f (x ∷ xs) [] same = absurd (omega arith)
length-each_word f (x ∷ xs) (y ∷ ys) same = ap suc (length-each_word f xs ys (omega arith))

pub get_or-each_word : (f : ℕ → ℕ → ℕ) (xs ys : List ℕ) (i : ℕ) → i < length xs → i < length ys → get_or (each_word f xs ys) i 0 ≡ f (get_or xs i 0)
    (get_or ys i 0)
get_or-each_word f [] ys i within other = absurd (omega arith)
get_or-each_word f (x ∷ xs) [] i within other = absurd (omega arith)
get_or-each_word f (x ∷ xs) (y ∷ ys) zero within other = refl
get_or-each_word f (x ∷ xs) (y ∷ ys) (suc i) within other = get_or-each_word f xs ys i (omega arith) (omega arith)

-- an operation f on words that does to each bit what g does to tests
module _ (f : ℕ → ℕ → ℕ) (g : Bool → Bool → Bool)
    (at_each_bit : (x y k : ℕ) → x < 2 ^ 16 → y < 2 ^ 16 → k < 16 → (bit_at (f x y) k == 1) ≡ g (bit_at x k == 1) (bit_at y k == 1)) where
  word_has-each_word : (one other : List ℕ) → AreSetWords one → AreSetWords other → (n : ℕ) → n < 128 → word_has (each_word f one other) n ≡ g
      (word_has one n) (word_has other n)
  word_has-each_word one other are both n ordinal =
      let here : n / 16 < length one = omega (arith, are.eight) in
      let there : n / 16 < length other = omega (arith, both.eight) in
      let bit : n % 16 < 16 = omega arith in
      ap (λ w. bit_at w (n % 16) == 1) (get_or-each_word f one other (n / 16) here there)
      ∙ at_each_bit _ _ (n % 16) (are.small (n / 16) 0 here) (both.small (n / 16) 0 there) bit

  members_of-each_word : (one other : List ℕ) → AreSetWords one → AreSetWords other → members_of (each_word f one other) ≡ members_where
      (λ n. g (set_has (members_of one) n) (set_has (members_of other) n))
  members_of-each_word one other are both =
      members_where-agree _ _ (λ n ordinal. word_has-each_word one other are both n ordinal ∙ ap₂ g (word_has-members_of one n ordinal)
      (word_has-members_of other n ordinal))

AreSetWords-each_word : (f : ℕ → ℕ → ℕ) → ((x y : ℕ) → x < 2 ^ 16 → y < 2 ^ 16 → f x y < 2 ^ 16) → (one other : List ℕ) → AreSetWords one → AreSetWords other
    → AreSetWords (each_word f one other)
AreSetWords-each_word f keeps one other are both =
    let long : length (each_word f one other) ≡ length one = length-each_word f one other (are.eight ∙ sym both.eight) in
    record {
      eight = long ∙ are.eight;
      small = All-from_get_or (λ word. word < 2 ^ 16) (each_word f one other) 0 (λ i within.
          let here : i < length one = omega (arith, long) in
          let there : i < length other = omega (arith, are.eight, both.eight) in
          rw (get_or-each_word f one other i here there) (keeps _ _ (are.small i 0 here) (both.small i 0 there)));
    }

-- what is so of each two bits is so of all numbers below two
by_bits : (f : ℕ → ℕ → ℕ) (g : Bool → Bool → Bool) → (f 0 0 == 1) ≡ g false false → (f 0 1 == 1) ≡ g false true → (f 1 0 == 1) ≡ g true false
    → (f 1 1 == 1) ≡ g true true → (a b : ℕ) → a < 2 → b < 2 → (f a b == 1) ≡ g (a == 1) (b == 1)
by_bits f g none right left both zero zero small other = none
by_bits f g none right left both zero (suc zero) small other = right
by_bits f g none right left both (suc zero) zero small other = left
by_bits f g none right left both (suc zero) (suc zero) small other = both
by_bits f g none right left both (suc (suc a)) b small other = absurd (omega arith)
by_bits f g none right left both a (suc (suc b)) small other = absurd (omega arith)

either_bit : (a b : ℕ) → a < 2 → b < 2 → (max a b == 1) ≡ ((a == 1) || (b == 1))
either_bit = by_bits (λ a b. max a b) (λ a b. a || b) refl refl refl refl

both_bits : (a b : ℕ) → a < 2 → b < 2 → (min a b == 1) ≡ ((a == 1) && (b == 1))
both_bits = by_bits (λ a b. min a b) (λ a b. a && b) refl refl refl refl

first_bit : (a b : ℕ) → a < 2 → b < 2 → (min a (1 - b) == 1) ≡ ((a == 1) && not (b == 1))
first_bit = by_bits (λ a b. min a (1 - b)) (λ a b. a && not b) refl refl refl refl

-- the members of the union of two sets of words are the union of their members
pub members_of-words_union : (one other : List ℕ) → AreSetWords one → AreSetWords other → members_of (words_union one other) ≡ set_union (members_of one)
    (members_of other)
members_of-words_union =
    members_of-each_word bit_or (λ a b. a || b) (λ x y k _ _ _. ap (λ b. b == 1) (bit_at_or x y k) ∙ either_bit _ _ (bit_at-lt x k) (bit_at-lt y k))

pub members_of-words_meet : (one other : List ℕ) → AreSetWords one → AreSetWords other → members_of (words_meet one other) ≡ set_meet (members_of one)
    (members_of other)
members_of-words_meet =
    members_of-each_word bit_and (λ a b. a && b) (λ x y k _ _ _. ap (λ b. b == 1) (bit_at_and x y k) ∙ both_bits _ _ (bit_at-lt x k) (bit_at-lt y k))

pub members_of-words_minus : (one other : List ℕ) → AreSetWords one → AreSetWords other → members_of (words_minus one other) ≡ set_minus (members_of one)
    (members_of other)
members_of-words_minus =
    members_of-each_word (λ x y. bit_and x (bit_not w16 y)) (λ a b. a && not b) (λ x y k _ small bit.
    ap (λ b. b == 1) (bit_at_and x (bit_not w16 y) k ∙ ap (min (bit_at x k)) (bit_at_not w16 y k small bit))
    ∙ first_bit _ _ (bit_at-lt x k) (bit_at-lt y k))

pub AreSetWords-words_union : (one other : List ℕ) → AreSetWords one → AreSetWords other → AreSetWords (words_union one other)
AreSetWords-words_union = AreSetWords-each_word bit_or (λ x y small both. or_lt 16 x y small both)

pub AreSetWords-words_meet : (one other : List ℕ) → AreSetWords one → AreSetWords other → AreSetWords (words_meet one other)
AreSetWords-words_meet = AreSetWords-each_word bit_and (λ x y small both. omega (arith, and_le_l x y))

pub AreSetWords-words_minus : (one other : List ℕ) → AreSetWords one → AreSetWords other → AreSetWords (words_minus one other)
AreSetWords-words_minus =
    AreSetWords-each_word (λ x y. bit_and x (bit_not w16 y)) (λ x y small both. omega (arith, and_le_l x (bit_not w16 y)))

-- ---- one more member

bit_set : (a : ℕ) → a < 2 → (max a 1 == 1) ≡ true
bit_set zero small = refl
bit_set (suc zero) small = refl
bit_set (suc (suc a)) small = absurd (omega arith)

bit_kept : (a : ℕ) → max a 0 ≡ a
bit_kept a = omega arith

word_has-words_with : (words : List ℕ) (n m : ℕ) → AreSetWords words → n < 128 → m < 128 → word_has (words_with words n) m ≡ ((m == n) || word_has words m)
word_has-words_with words n m are ordinal other =
    let within : n / 16 < length words = omega (arith, are.eight) in
    elim (cases_eq (m / 16) (n / 16)) [
      | inl word ↦
          let old : ℕ = get_or words (n / 16) 0 in
          let now : get_or (words_with words n) (m / 16) 0 ≡ bit_or (get_or words (n / 16) 0) (2 ^ (n % 16)) = ap (λ i. get_or (words_with words n) i 0) word
          ∙ get_or-set_same words (n / 16) _ 0 within in
          elim (cases_eq (m % 16) (n % 16)) [
            | inl bit ↦
                let same : m ≡ n = omega arith in
                ap₂ (λ w k. bit_at w k == 1) now bit
                ∙ ap (λ b. b == 1) (bit_at_or (get_or words (n / 16) 0) (2 ^ (n % 16)) (n % 16) ∙ ap (max (bit_at (get_or words (n / 16) 0) (n % 16)))
                (bit_at-pow_same (n % 16)))
                ∙ bit_set _ (bit_at-lt (get_or words (n / 16) 0) (n % 16))
                ∙ sym (ap (λ b. b || word_has words m) (eq-eqb m n same))
            | inr differs ↦
                ap (λ w. bit_at w (m % 16) == 1) now
                ∙ ap (λ b. b == 1) (bit_at_or (get_or words (n / 16) 0) (2 ^ (n % 16)) (m % 16) ∙ ap (max (bit_at (get_or words (n / 16) 0) (m % 16)))
                (bit_at-pow_other (n % 16) (m % 16) differs) ∙ bit_kept _)
                ∙ ap (λ i. bit_at (get_or words i 0) (m % 16) == 1) (sym word)
                ∙ sym (ap (λ b. b || word_has words m) (ne_eqb m n (λ same. differs (ap (λ i. i % 16) same))))
          ]
      | inr differs ↦
          ap (λ w. bit_at w (m % 16) == 1) (get_or-set_other words (n / 16) (m / 16) _ 0 differs)
          ∙ sym (ap (λ b. b || word_has words m) (ne_eqb m n (λ same. differs (ap (λ i. i / 16) same))))
    ]

-- the members of the words with a bit set are the members with that ordinal
pub members_of-words_with : (words : List ℕ) (n : ℕ) → AreSetWords words → n < 128 → members_of (words_with words n) ≡ with_member (members_of words) n
members_of-words_with words n are ordinal =
    members_where-agree _ _ (λ m other. word_has-words_with words n m are ordinal other ∙ ap (λ b. (m == n) || b) (word_has-members_of words m other))

pub AreSetWords-words_with : (words : List ℕ) (n : ℕ) → AreSetWords words → n < 128 → AreSetWords (words_with words n)
AreSetWords-words_with words n are ordinal =
    let within : n / 16 < length words = omega (arith, are.eight) in
    record {
      eight = length-set words (n / 16) _ ∙ are.eight;
      small = All-set (λ word. word < 2 ^ 16) words (n / 16) _ (or_lt 16 _ _ (are.small (n / 16) 0 within) (pow_below (n % 16) 16 (omega arith))) are.small;
    }

-- eight words that a program made, each by the operation at its place
each_word_from : (f : ℕ → ℕ → ℕ) (one other made : List ℕ) → AreSetWords one → AreSetWords other → length made ≡ 8
    → ((i : ℕ) → i < 8 → get_or made i 0 ≡ f (get_or one i 0) (get_or other i 0)) → made ≡ each_word f one other
each_word_from f one other made are both long at =
    let same : length (each_word f one other) ≡ length one = length-each_word f one other (are.eight ∙ sym both.eight) in
    same_number_lists made (each_word f one other) (long ∙ sym (same ∙ are.eight)) (λ i within.
    at i (omega (arith, long)) ∙ sym (get_or-each_word f one other i (omega (arith, long, are.eight)) (omega (arith, long, both.eight))))

-- Such words are the words of a set, and their members are those of the operation on sets.
pub made : (f : ℕ → ℕ → ℕ) (g : (one other : List ℕ) → List ℕ) → ViewsAgree (each_word f) g → (one other words : List ℕ) → AreSetWords one
    → AreSetWords other → length words ≡ 8 → ((i : ℕ) → i < 8 → get_or words i 0 ≡ f (get_or one i 0) (get_or other i 0))
    → AreSetWords words × (members_of words ≡ g (members_of one) (members_of other))
made f g agrees one other words are both long at = rw (each_word_from f one other words are both long at) (agrees one other are both)

-- the test of one bit that a program makes
pub has_from_bit : (words : List ℕ) (z : ℤ) (n : ℕ) → z ≡ pos n → n < 128 → (bit_and (get_or words (n / 16) 0 / 2 ^ (n % 16)) 1 == 1) ≡ set_has_int
    (members_of words) z
has_from_bit words z n is ordinal =
    ap (λ b. b == 1) (shr_and_one (get_or words (n / 16) 0) (n % 16))
    ∙ word_has-members_of words n ordinal
    ∙ sym (ap (set_has_int (members_of words)) is ∙ ap (λ b. b && set_has (members_of words) n) (lt-ltb n 128 ordinal))

words_found : (words xs : List ℕ) → AreSetWords words → members_of words ≡ xs → words_of_members xs ≡ words
words_found words xs are is = ap words_of_members (sym is) ∙ words_of_members-members_of words are

-- the test whether two sets' words are the same, said of their members
pub same_words_test : (r : Bool) (one other xs ys : List ℕ) → r ≡ pointwise eqb one other → AreSetWords one → AreSetWords other → members_of one ≡ xs
    → members_of other ≡ ys → r ≡ pointwise eqb (words_of_members xs) (words_of_members ys)
same_words_test r one other xs ys test are both is also = rw (words_found one xs are is, words_found other ys both also) test

-- ---- the two views agree

pub views_are_one : ViewsAreOne
views_are_one = (
  λ words are. (IsOrdinalSet-members_where (word_has words), words_of_members-members_of words are),
  λ xs set. (AreSetWords-words_where (set_has xs), members_of-words_of_members xs set),
)

pub union_agrees : ViewsAgree words_union set_union
union_agrees one other are both = (AreSetWords-words_union one other are both, members_of-words_union one other are both)

pub minus_agrees : ViewsAgree words_minus set_minus
minus_agrees one other are both = (AreSetWords-words_minus one other are both, members_of-words_minus one other are both)

pub meet_agrees : ViewsAgree words_meet set_meet
meet_agrees one other are both = (AreSetWords-words_meet one other are both, members_of-words_meet one other are both)

pub with_agrees : ViewsAgreeOnWith
with_agrees words n are ordinal = (AreSetWords-words_with words n are ordinal, members_of-words_with words n are ordinal)

has_of_sign : (words : List ℕ) (word : ℕ) (z : ℤ) → z ≡ cond (ltb word (2 ^ 15)) (pos word) (negsuc (2 ^ 16 - suc word)) → words_have words word ≡ set_has_int
    (members_of words) z
has_of_sign words word z is =
    elim (cases_lt word 128) [
      | inl ordinal ↦
          let itself : z ≡ pos word = is ∙ ap (λ b. cond b (pos word) (negsuc (2 ^ 16 - suc word))) (lt-ltb word (2 ^ 15) (omega arith)) in
          ap (λ b. nat_lt word 128 && b) (word_has-members_of words word ordinal) ∙ ap (set_has_int (members_of words)) (sym itself)
      | inr past ↦
          ap (λ b. b && word_has words word) (le-ltb word 128 past)
          ∙ elim (cases_Bool (ltb word (2 ^ 15))) [
            | inl above ↦ sym (ap (set_has_int (members_of words)) (is ∙ ap (λ b. cond b (pos word) (negsuc (2 ^ 16 - suc word))) above)
                ∙ ap (λ b. b && set_has (members_of words) word) (le-ltb word 128 past))
            | inr below ↦ sym (ap (set_has_int (members_of words)) (is ∙ ap (λ b. cond b (pos word) (negsuc (2 ^ 16 - suc word))) below))
          ]
    ]

pub has_agrees : ViewsAgreeOnHas
has_agrees words word are small = has_of_sign words word _ refl
