-- Definition. Memory as the list of its words, which are numbers below 65,536.
use Rattle.std.specs.Prelude.{ℕ, ◌+◌, ◌^◌, List, ◌++◌, length, take, drop, replicate}

-- n words, each of which is 0
unfoldable pub zero_words : ℕ → List ℕ
zero_words n = replicate n 0

-- the memory in which every word is 0
abbrev pub zero_memory : List ℕ
zero_memory = zero_words (2 ^ 16)

-- the n words from `at` on
abbrev pub words_at : List ℕ → ℕ → ℕ → List ℕ
words_at words at n = take n (drop at words)

-- the words with these values in place of those from `at` on
abbrev pub written : List ℕ → ℕ → List ℕ → List ℕ
written words at values = take at words ++ (values ++ drop (at + length values) words)
