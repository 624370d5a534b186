-- Definition. The one memory: a list of words, each below 65,536.
use Rattle.std.specs.Prelude.{ℕ, zero, suc, List, slice_index}

-- the word at an address
abbrev pub word : List ℕ → ℕ → ℕ
word memory a = slice_index memory a

-- the base of the frame that so many static links lead to, from the frame at this base
abbrev pub level : List ℕ → ℕ → ℕ → ℕ
level memory zero base = base
level memory (suc k) base = level memory k (word memory base)
