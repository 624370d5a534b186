-- What stands at each place of a memory after words are written, copied or cleared.
use Rattle.std.proofs.Common.{◌≡◌, ℕ, ◌+◌, ◌-◌, ◌^◌, ◌<◌, ◌≤◌, ◌⊎◌, List, [], ◌∷◌, ◌++◌, length, get_or, set, take, drop, refl, sym, ap, ◌∙◌, inl, inr}
use Rattle.std.proofs.Common.{arith, length-append, length-take, length-drop, get_or-drop, get_or-take, add-one}
use Rattle.std.specs.Prelude.{replicate}
use Rattle.std.specs.List.{All}
use Rattle.std.proofs.lemmas.Grind.{same_number_lists}
use Rattle.std.proofs.lemmas.List.{length-replicate, get_or-replicate, get_or_append_left, get_or-append_right, set_split, length-set}
use Rattle.std.proofs.lemmas.List.Elements.{All-append, All-take, All-drop, All-set, All-replicate}
use Rattle.edi_store.specs.Memory.{zero_words, zero_memory, words_at, written}
use Rattle.edi_store.specs.Copied.{IsWord, IsMemory, copied, cleared}

-- ---- zeros

pub length-zero_words : (n : ℕ) → length (zero_words n) ≡ n
unfolding zero_words
length-zero_words n = length-replicate n 0

pub get_or-zero_words : (n i : ℕ) → i < n → get_or (zero_words n) i 0 ≡ 0
unfolding zero_words
get_or-zero_words n i within = get_or-replicate n i 0 0 within

zeros_small : (n : ℕ) → All IsWord (zero_words n)
unfolding zero_words
zeros_small n = All-replicate IsWord n 0 (omega arith)

pub IsMemory-zero_memory : IsMemory zero_memory
IsMemory-zero_memory = record { long = length-zero_words (2 ^ 16); small = zeros_small (2 ^ 16) }

-- ---- n words

pub length-words_at : (words : List ℕ) (at n : ℕ) → at + n ≤ length words → length (words_at words at n) ≡ n
length-words_at words at n within = omega (arith, length-take n (drop at words), length-drop at words)

pub get_or-words_at : (words : List ℕ) (at n k : ℕ) → k < n → get_or (words_at words at n) k 0 ≡ get_or words (at + k) 0
get_or-words_at words at n k within = get_or-take n (drop at words) k 0 within ∙ get_or-drop at words k 0

-- ---- words written over others

pub length-written : (words : List ℕ) (at : ℕ) (values : List ℕ) → at + length values ≤ length words → length (written words at values) ≡ length words
length-written words at values within =
    omega (
      arith,
      length-append (take at words) (values ++ drop (at + length values) words),
      length-append values (drop (at + length values) words),
      length-take at words,
      length-drop (at + length values) words,
    )

pub get_or-written_before : (words : List ℕ) (at : ℕ) (values : List ℕ) (i : ℕ) → at + length values ≤ length words → i < at
    → get_or (written words at values) i 0 ≡ get_or words i 0
get_or-written_before words at values i within before =
    get_or_append_left (take at words) (values ++ drop (at + length values) words) 0 i (omega (arith, length-take at words))
    ∙ get_or-take at words i 0 before

pub get_or-written_here : (words : List ℕ) (at : ℕ) (values : List ℕ) (k : ℕ) → at + length values ≤ length words → k < length values
    → get_or (written words at values) (at + k) 0 ≡ get_or values k 0
get_or-written_here words at values k within here =
    get_or-append_right (take at words) (values ++ drop (at + length values) words) at (at + k) 0 (omega (arith, length-take at words)) (omega arith)
    ∙ ap (λ i. get_or (values ++ drop (at + length values) words) i 0) (omega arith)
    ∙ get_or_append_left values (drop (at + length values) words) 0 k here

pub get_or-written_after : (words : List ℕ) (at : ℕ) (values : List ℕ) (i : ℕ) → at + length values ≤ length words → at + length values ≤ i
    → get_or (written words at values) i 0 ≡ get_or words i 0
get_or-written_after words at values i within after =
    get_or-append_right (take at words) (values ++ drop (at + length values) words) at i 0 (omega (arith, length-take at words)) (omega arith)
    ∙ get_or-append_right values (drop (at + length values) words) (length values) (i - at) 0 refl (omega arith)
    ∙ get_or-drop (at + length values) words (i - at - length values) 0
    ∙ ap (λ i. get_or words i 0) (omega arith)

-- one word written is a word put
pub written-one : (words : List ℕ) (at word : ℕ) → at < length words → written words at (word ∷ []) ≡ set words at word
written-one words at word within = rw (set_split words at word within, add-one at) refl

-- what was written is read again
pub words_at-written : (words : List ℕ) (at : ℕ) (values : List ℕ) → at + length values ≤ length words → words_at (written words at values) at (length values)
    ≡ values
words_at-written words at values within =
    let long : length (written words at values) ≡ length words = length-written words at values within in
    let count : length (words_at (written words at values) at (length values)) ≡ length values = length-words_at (written words at values) at (length values)
    (omega (arith, long)) in
    same_number_lists (words_at (written words at values) at (length values)) values count (λ k below.
    get_or-words_at (written words at values) at (length values) k (omega (arith, count)) ∙ get_or-written_here words at values k within (omega (arith, count)))

-- and the words beside it are as they were
pub words_at-written_apart : (words : List ℕ) (at : ℕ) (values : List ℕ) (other n : ℕ) → at + length values ≤ length words → other + n ≤ length words
    → (other + n ≤ at) ⊎ (at + length values ≤ other) → words_at (written words at values) other n ≡ words_at words other n
words_at-written_apart words at values other n within also apart =
    let long : length (written words at values) ≡ length words = length-written words at values within in
    let count : length (words_at (written words at values) other n) ≡ n = length-words_at (written words at values) other n (omega (arith, long)) in
    same_number_lists (words_at (written words at values) other n) (words_at words other n) (count ∙ sym (length-words_at words other n also)) (λ k below.
    get_or-words_at (written words at values) other n k (omega (arith, count))
    ∙ elim apart [
      | inl before ↦ get_or-written_before words at values (other + k) within (omega (arith, count))
      | inr after ↦ get_or-written_after words at values (other + k) within (omega arith)
    ]
    ∙ sym (get_or-words_at words other n k (omega (arith, count))))

-- ---- memories stay memories

pub IsMemory-set : (words : List ℕ) (at word : ℕ) → IsMemory words → word < 2 ^ 16 → IsMemory (set words at word)
IsMemory-set words at word is small = record {
  long = length-set words at word ∙ is.long;
  small = All-set IsWord words at word small is.small;
}

pub words_at-small : (words : List ℕ) (at n : ℕ) → IsMemory words → All IsWord (words_at words at n)
words_at-small words at n is = All-take IsWord n (drop at words) (All-drop IsWord at words is.small)

pub IsMemory-written : (words : List ℕ) (at : ℕ) (values : List ℕ) → IsMemory words → All IsWord values → at + length values ≤ 2 ^ 16
    → IsMemory (written words at values)
IsMemory-written words at values is small within = record {
  long = length-written words at values (omega (arith, is.long)) ∙ is.long;
  small = All-append IsWord (take at words) (values ++ drop (at + length values) words) (All-take IsWord at words is.small)
      (All-append IsWord values (drop (at + length values) words) small (All-drop IsWord (at + length values) words is.small));
}

-- ---- words copied

pub length-copied : (words : List ℕ) (from to n : ℕ) → from + n ≤ length words → to + n ≤ length words → length (copied words from to n) ≡ length words
length-copied words from to n read write =
    length-written words to (words_at words from n) (omega (arith, length-words_at words from n read))

pub get_or-copied_before : (words : List ℕ) (from to n i : ℕ) → from + n ≤ length words → to + n ≤ length words → i < to → get_or (copied words from to n) i 0
    ≡ get_or words i 0
get_or-copied_before words from to n i read write before =
    get_or-written_before words to (words_at words from n) i (omega (arith, length-words_at words from n read)) before

pub get_or-copied_here : (words : List ℕ) (from to n k : ℕ) → from + n ≤ length words → to + n ≤ length words → k < n → get_or (copied words from to n)
    (to + k) 0 ≡ get_or words (from + k) 0
get_or-copied_here words from to n k read write here =
    let count : length (words_at words from n) ≡ n = length-words_at words from n read in
    get_or-written_here words to (words_at words from n) k (omega (arith, count)) (omega (arith, count)) ∙ get_or-words_at words from n k here

pub get_or-copied_after : (words : List ℕ) (from to n i : ℕ) → from + n ≤ length words → to + n ≤ length words → to + n ≤ i → get_or (copied words from to n)
    i 0 ≡ get_or words i 0
get_or-copied_after words from to n i read write after =
    let count : length (words_at words from n) ≡ n = length-words_at words from n read in
    get_or-written_after words to (words_at words from n) i (omega (arith, count)) (omega (arith, count))

-- what was copied is read again
pub words_at-copied : (words : List ℕ) (from to n : ℕ) → from + n ≤ length words → to + n ≤ length words → words_at (copied words from to n) to n ≡ words_at
    words from n
words_at-copied words from to n read write =
    let count : length (words_at words from n) ≡ n = length-words_at words from n read in
    ap (words_at (copied words from to n) to) (sym count) ∙ words_at-written words to (words_at words from n) (omega (arith, count))

-- ---- words cleared

pub length-cleared : (words : List ℕ) (at n : ℕ) → at + n ≤ length words → length (cleared words at n) ≡ length words
length-cleared words at n within = length-written words at (replicate n 0) (omega (arith, length-replicate {A = ℕ} n 0))

pub get_or-cleared_before : (words : List ℕ) (at n i : ℕ) → at + n ≤ length words → i < at → get_or (cleared words at n) i 0 ≡ get_or words i 0
get_or-cleared_before words at n i within before =
    get_or-written_before words at (replicate n 0) i (omega (arith, length-replicate {A = ℕ} n 0)) before

pub get_or-cleared_here : (words : List ℕ) (at n i : ℕ) → at + n ≤ length words → at ≤ i → i < at + n → get_or (cleared words at n) i 0 ≡ 0
get_or-cleared_here words at n i within from to =
    let place : at + (i - at) ≡ i = omega arith in
    ap (λ i. get_or (cleared words at n) i 0) (sym place)
    ∙ get_or-written_here words at (replicate n 0) (i - at) (omega (arith, length-replicate {A = ℕ} n 0)) (omega (arith, length-replicate {A = ℕ} n 0))
    ∙ get_or-replicate n (i - at) 0 0 (omega arith)

pub get_or-cleared_after : (words : List ℕ) (at n i : ℕ) → at + n ≤ length words → at + n ≤ i → get_or (cleared words at n) i 0 ≡ get_or words i 0
get_or-cleared_after words at n i within after =
    get_or-written_after words at (replicate n 0) i (omega (arith, length-replicate {A = ℕ} n 0)) (omega (arith, length-replicate {A = ℕ} n 0))
