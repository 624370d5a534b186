-- Words of contracts. What is a memory, and what copying and clearing leave of it.
use Rattle.std.specs.Prelude.{◌≡◌, ℕ, ◌^◌, ◌<◌, List, length, replicate}
use Rattle.std.specs.List.{All}
use Rattle.edi_store.specs.Memory.{words_at, written}

-- a word has 16 bits
abbrev pub IsWord : ℕ → Type 0
IsWord word = word < 2 ^ 16

-- a memory has 65,536 words
pub record IsMemory (words : List ℕ) : Type 0 where
  pub long : length words ≡ 2 ^ 16
  pub small : All IsWord words

-- the words with the n words from `from` on, as they were, also from `to` on
abbrev pub copied : List ℕ → ℕ → ℕ → ℕ → List ℕ
copied words from to n = written words to (words_at words from n)

-- the words with n zeros from `at` on
abbrev pub cleared : List ℕ → ℕ → ℕ → List ℕ
cleared words at n = written words at (replicate n 0)
