-- Copies between two parts of a memory that are apart.
use Rattle.std.proofs.Common.{◌≡◌, ℕ, ◌+◌, ◌-◌, ◌^◌, ◌≤◌, List, ◌++◌, length, take, drop, sym, ap, ap₂, ◌∙◌, arith, append_assoc}
use Rattle.std.proofs.Math.Seq.{take-take, drop-drop}
use Rattle.std.proofs.lemmas.List.{drop-take, take-append-drop}
use Rattle.edi_store.specs.Memory.{words_at}
use Rattle.edi_store.specs.Copied.{IsMemory, copied}
use Rattle.edi_store.proofs.MemoryLaws.{IsMemory-written, length-words_at, words_at-small}

-- words from after those that are written
pub copied_up : (words : List ℕ) (from to n : ℕ) → from + n ≤ to → to + n ≤ length words
    → take to words ++ (take n (drop from (take to words)) ++ drop n (drop to words)) ≡ copied words from to n
copied_up words from to n apart within =
    let m : from + (to - from) ≡ to = omega arith in
    let taken : take n (drop from (take to words)) ≡ words_at words from n =
    ap (λ (i : ℕ). take n (drop from (take i words))) (sym m) ∙ ap (take n) (drop-take from (to - from) words)
    ∙ take-take n (to - from) (drop from words) (omega arith) in
    let rest : drop n (drop to words) ≡ drop (to + length (words_at words from n)) words =
    drop-drop n to words ∙ ap (λ (i : ℕ). drop (to + i) words) (sym (length-words_at words from n (omega arith))) in
    ap₂ (λ (a b : List ℕ). take to words ++ (a ++ b)) taken rest

-- words from before those that are written
pub copied_down : (words : List ℕ) (from to n : ℕ) → to + n ≤ from → from + n ≤ length words
    → (take to (take from words) ++ (take n (drop from words) ++ drop (to + n) (take from words))) ++ drop from words ≡ copied words from to n
copied_down words from to n apart within =
    let m : to + n + (from - (to + n)) ≡ from = omega arith in
    let front : take to (take from words) ≡ take to words = take-take to from words (omega arith) in
    let between : drop (to + n) (take from words) ++ drop from words ≡ drop (to + length (words_at words from n)) words =
    ap₂ (λ (a b : List ℕ). a ++ b)
    (ap (λ (i : ℕ). drop (to + n) (take i words)) (sym m) ∙ drop-take (to + n) (from - (to + n)) words)
    (ap (λ (i : ℕ). drop i words) (sym m) ∙ sym (drop-drop (from - (to + n)) (to + n) words))
    ∙ take-append-drop (from - (to + n)) (drop (to + n) words)
    ∙ ap (λ (i : ℕ). drop (to + i) words) (sym (length-words_at words from n (omega arith))) in
    let parts : (take to (take from words) ++ (take n (drop from words) ++ drop (to + n) (take from words))) ++ drop from words
    ≡ take to (take from words) ++ (take n (drop from words) ++ (drop (to + n) (take from words) ++ drop from words)) = simp append_assoc in
    parts ∙ ap₂ (λ (a b : List ℕ). a ++ (take n (drop from words) ++ b)) front between

-- no words
pub copied_none : (words : List ℕ) (from to : ℕ) → words ≡ copied words from to 0
copied_none words from to =
    sym (take-append-drop to words) ∙ ap (λ (i : ℕ). take to words ++ drop i words) (omega arith)

-- a memory stays one
pub copied_memory : (words : List ℕ) (from to n : ℕ) → from + n ≤ 2 ^ 16 → to + n ≤ 2 ^ 16 → IsMemory words → IsMemory (copied words from to n)
copied_memory words from to n read write is =
    IsMemory-written words to (words_at words from n) is (words_at-small words from n is)
    (omega (arith, length-words_at words from n (omega (arith, is.long, read))))
