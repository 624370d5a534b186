-- Words of contracts. The decoding of an instruction as a relation, and that words are read again.
use Rattle.std.specs.Prelude.{◌≡◌, ℕ, ◌+◌, ◌^◌, ◌<◌, All, ◌↔◌, true, List, ◌++◌, drop, length}
use Rattle.std.specs.Prelude.{Some}
use Rattle.edi_target.specs.Op.{Instruction, words_of, is_allowed, has_integers}
use Rattle.edi_target.specs.Decode.{decode}

-- The words at an address are those of an instruction with operands that are allowed, and the next address is behind them.
pub record Reads (words : List ℕ) (at : ℕ) (op : Instruction) (next : ℕ) : Type 0 where
  pub allowed : is_allowed op ≡ true
  pub integers : has_integers op ≡ true
  pub stands : drop at words ≡ words_of op ++ drop next words
  pub follows : next ≡ at + length (words_of op)

-- each number of a list is a word
abbrev pub AreWords : List ℕ → Type 0
AreWords words = All (λ word. word < 2 ^ 16) words

-- The relation and the function are one, and what an instruction's words give is that instruction, whatever follows.
abbrev pub ReadingIsDecoding : Type 0
ReadingIsDecoding =
    (words : List ℕ) (at : ℕ) (op : Instruction) (n : ℕ) → AreWords words → (decode (drop at words) ≡ Some (op, n)) ↔ Reads words at op (at + n)

abbrev pub WordsAreReadAgain : Type 0
WordsAreReadAgain =
    (op : Instruction) (rest : List ℕ) → is_allowed op ≡ true → has_integers op ≡ true → decode (words_of op ++ rest) ≡ Some (op, length (words_of op))
