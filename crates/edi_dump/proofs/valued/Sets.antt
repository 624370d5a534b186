-- Members that are found one after another, and the first of a list.
use Rattle.std.proofs.Common.{◌≡◌, ℕ, zero, suc, ◌+◌, ◌*◌, ◌/◌, ◌%◌, ◌<◌, ◌≤◌, Bool, false, if◌then◌else◌, List, [], ◌∷◌, ◌++◌, codes}
use Rattle.std.proofs.Common.{length, take, drop, min, refl, sym, ap, ◌∙◌, arith, append_assoc}
use Rattle.std.specs.Prelude.{◌==◌, filter, slice_index}
use Rattle.std.specs.Int.{bit_at}
use Rattle.std.specs.List.{range_with_len}
use Rattle.std.proofs.lemmas.Nat.Bits.{bit_at-zero}
use Rattle.std.proofs.lemmas.List.{take_min}
use Rattle.std.proofs.lemmas.List.Elements.{filter-append}
use Rattle.edi_word.specs.Sets.{members_where, word_has}
use Rattle.edi_word.specs.SetWords.{members_of}
use Rattle.edi_unit.specs.Types.{Shape}
use Rattle.edi_dump.specs.values.Texts.{gap, members_piece}

range_joined : (a n m : ℕ) → range_with_len a (n + m) ≡ range_with_len a n ++ range_with_len (a + n) m
range_joined a zero m =
    let none : zero + m ≡ m = omega arith in
    let here : a + zero ≡ a = omega arith in
    ap (range_with_len a) none ∙ ap (λ k. range_with_len k m) (sym here)
range_joined a (suc n) m =
    let more : suc n + m ≡ suc (n + m) = omega arith in
    let next : a + 1 + n ≡ a + suc n = omega arith in
    ap (range_with_len a) more ∙ ap (λ l. a ∷ l) (range_joined (a + 1) n m ∙ ap (λ k. range_with_len (a + 1) n ++ range_with_len k m) next)

filter_joined : (test : ℕ → Bool) (a n m : ℕ)
    → filter test (range_with_len a (n + m)) ≡ filter test (range_with_len a n) ++ filter test (range_with_len (a + n) m)
filter_joined test a n m = ap (filter test) (range_joined a n m) ∙ filter-append test (range_with_len a n) (range_with_len (a + n) m)

-- the next bit of a word
pub next_bit : (test : ℕ → Bool) (old found more : List ℕ) (a k : ℕ) (b : Bool) → b ≡ test (a + k)
    → found ≡ old ++ filter test (range_with_len a k) → more ≡ found ++ (if b then (a + k) ∷ [] else [])
    → more ≡ old ++ filter test (range_with_len a (k + 1))
next_bit test old found more a k b is so_far step =
    step
    ∙ (ap (λ x. found ++ (if x then (a + k) ∷ [] else [])) is
    ∙ (ap (λ x. x ++ filter test ((a + k) ∷ [])) so_far
    ∙ (append_assoc old (filter test (range_with_len a k)) (filter test ((a + k) ∷ [])) ∙ ap (λ x. old ++ x) (sym (filter_joined test a k 1)))))

-- all that a loop over the bits of a word found
pub all_bits : (test : ℕ → Bool) (old found : List ℕ) (a k width : ℕ) → k ≡ width → found ≡ old ++ filter test (range_with_len a k)
    → found ≡ old ++ filter test (range_with_len a width)
all_bits test old found a k width e h = h ∙ ap (λ n. old ++ filter test (range_with_len a n)) e

-- the next word
pub next_word : (test : ℕ → Bool) (found more : List ℕ) (at : ℕ) → found ≡ filter test (range_with_len 0 (at * 16))
    → more ≡ found ++ filter test (range_with_len (at * 16) 16) → more ≡ filter test (range_with_len 0 ((at + 1) * 16))
next_word test found more at so_far step =
    let past : at * 16 + 16 ≡ (at + 1) * 16 = omega arith in
    let here : at * 16 ≡ 0 + at * 16 = omega arith in
    step
    ∙ (ap (λ x. x ++ filter test (range_with_len (at * 16) 16)) so_far
    ∙ (ap (λ k. filter test (range_with_len 0 (at * 16)) ++ filter test (range_with_len k 16)) here
    ∙ (sym (filter_joined test 0 (at * 16) 16) ∙ ap (λ k. filter test (range_with_len 0 k)) past)))

none_holds : (test : ℕ → Bool) (a count : ℕ) → ((n : ℕ) → a ≤ n → n < a + count → test n ≡ false) → filter test (range_with_len a count) ≡ []
none_holds test a zero none = refl
none_holds test a (suc count) none =
    ap (λ b. if b then a ∷ filter test (range_with_len (a + 1) count) else filter test (range_with_len (a + 1) count)) (none a (omega arith) (omega arith))
    ∙ none_holds test (a + 1) count (λ n from below. none n (omega arith) (omega arith))

-- a word 0 tells no members
pub none_found : (words : List ℕ) (at : ℕ) → slice_index words at ≡ 0 → filter (word_has words) (range_with_len (at * 16) 16) ≡ []
none_found words at zeros =
    none_holds (word_has words) (at * 16) 16 (λ n from below.
    let here : n / 16 ≡ at = omega arith in
    ap (λ k. bit_at (slice_index words k) (n % 16) == 1) here
    ∙ (ap (λ word. bit_at word (n % 16) == 1) zeros ∙ ap (λ bit. bit == 1) (bit_at-zero (n % 16))))

-- all that a loop over eight words found
pub all_found : (words found : List ℕ) (at : ℕ) → at ≡ 8 → found ≡ filter (word_has words) (range_with_len 0 (at * 16)) → found ≡ members_of words
unfolding members_where
all_found words found at e h = h ∙ ap (λ k. filter (word_has words) (range_with_len 0 (k * 16))) e

-- where no more parts may be told, of members that are left
pub none_told : (types : List Shape) (constants : List (List (List ℕ))) (first : Bool) (more base : ℕ) (set : List ℕ) (i : ℕ) → more ≡ 0 → i < length set
    → members_piece types constants first more base (drop i set) ≡ record { text = gap first ++ codes ".."; left = 0 }
none_told types constants first more base [] i none there = absurd (omega (arith, there))
none_told types constants first more base (n ∷ ns) zero none there = ap (λ k. members_piece types constants first k base (n ∷ ns)) none
none_told types constants first more base (n ∷ ns) (suc i) none there = none_told types constants first more base ns i none (omega (arith, there))

-- ---- the first of many

pub first_of : {A : Type 0} (most : ℕ) (xs front : List A) (n : ℕ) → n ≡ min (length xs) most → front ≡ take n xs → front ≡ take most xs
first_of most xs front n least e =
    let turned : min (length xs) most ≡ min most (length xs) = omega arith in
    e ∙ (ap (λ k. take k xs) (least ∙ turned) ∙ take_min most xs)
