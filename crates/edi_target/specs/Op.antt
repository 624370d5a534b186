-- Definition. The instructions of the abstract machine, the operands that they may have, and their words.
use Rattle.std.specs.Prelude.{ℕ, ◌+◌, ◌*◌, ◌^◌, ◌/◌, ◌%◌, ℤ, pos, negsuc, Bool, true, ◌&&◌, nat_le, nat_lt, int_le, List, [], ◌∷◌, length}
use Rattle.std.specs.List.{list_all}
use Rattle.edi_word.specs.Words.{signed, unsigned}

-- a branch of a COBEGIN: the words that its process needs, and the code address where it begins
pub record Branch : Type 0 where
  pub need : ℕ
  pub address : ℕ

-- An instruction. Code addresses are numbers below 2 ^ 32. The bounds of INDEX and CHECK are integers, every other
-- operand is a word.
pub data Instruction : Type 0 where
  const : (value : ℕ) → Instruction
  text : (words : List ℕ) → Instruction
  zeros : (count : ℕ) → Instruction
  address : (level offset : ℕ) → Instruction
  field : (offset : ℕ) → Instruction
  index : (low high : ℤ) (size line : ℕ) → Instruction
  load : (count : ℕ) → Instruction
  store : (count : ℕ) → Instruction
  add : (line : ℕ) → Instruction
  sub : (line : ℕ) → Instruction
  mul : (line : ℕ) → Instruction
  div : (line : ℕ) → Instruction
  mod_ : (line : ℕ) → Instruction
  neg : (line : ℕ) → Instruction
  not_ : Instruction
  eq : (count : ℕ) → Instruction
  ne : (count : ℕ) → Instruction
  lt : Instruction
  le : Instruction
  gt : Instruction
  ge : Instruction
  union : Instruction
  minus : Instruction
  meet : Instruction
  in_ : Instruction
  member : (line : ℕ) → Instruction
  check : (low high : ℤ) (line : ℕ) → Instruction
  jump : (target : ℕ) → Instruction
  false_ : (target : ℕ) → Instruction
  and : (target : ℕ) → Instruction
  or : (target : ℕ) → Instruction
  loop : (target : ℕ) → Instruction
  entry : (need results parameters variables function : ℕ) → Instruction
  call : (level target line : ℕ) → Instruction
  call_p : (level offset line : ℕ) → Instruction
  proc : (level target : ℕ) → Instruction
  return : (results function : ℕ) → Instruction
  halt : (line : ℕ) → Instruction
  when : (line : ℕ) → Instruction
  retry : (target : ℕ) → Instruction
  done : Instruction
  cobegin : (line : ℕ) (branches : List Branch) → Instruction
  exit : Instruction
  quiet : (target : ℕ) → Instruction

-- ---- words

-- the word of an integer, and the integer of a word, in two's complement
abbrev pub word_of_integer : ℤ → ℕ
word_of_integer z = unsigned z

abbrev pub integer_of_word : ℕ → ℤ
integer_of_word word = signed word

-- the two words of a code address, and the address of two words
abbrev pub high_word : ℕ → ℕ
high_word target = target / 2 ^ 16

abbrev pub low_word : ℕ → ℕ
low_word target = target % 2 ^ 16

abbrev pub address_of_words : ℕ → ℕ → ℕ
address_of_words high low = 2 ^ 16 * high + low

-- the words of branches, three of each
abbrev pub branch_words : List Branch → List ℕ
branch_words [] = []
branch_words (b ∷ branches) = b.need ∷ high_word b.address ∷ low_word b.address ∷ branch_words branches

-- the words of an instruction: its number, and its operands
abbrev pub words_of : Instruction → List ℕ
words_of (const value) = 1 ∷ value ∷ []
words_of (text words) = 2 ∷ length words ∷ words
words_of (zeros count) = 3 ∷ count ∷ []
words_of (address level offset) = 4 ∷ level ∷ offset ∷ []
words_of (field offset) = 5 ∷ offset ∷ []
words_of (index low high size line) = 6 ∷ word_of_integer low ∷ word_of_integer high ∷ size ∷ line ∷ []
words_of (load count) = 7 ∷ count ∷ []
words_of (store count) = 8 ∷ count ∷ []
words_of (add line) = 9 ∷ line ∷ []
words_of (sub line) = 10 ∷ line ∷ []
words_of (mul line) = 11 ∷ line ∷ []
words_of (div line) = 12 ∷ line ∷ []
words_of (mod_ line) = 13 ∷ line ∷ []
words_of (neg line) = 14 ∷ line ∷ []
words_of not_ = 15 ∷ []
words_of (eq count) = 16 ∷ count ∷ []
words_of (ne count) = 17 ∷ count ∷ []
words_of lt = 18 ∷ []
words_of le = 19 ∷ []
words_of gt = 20 ∷ []
words_of ge = 21 ∷ []
words_of union = 22 ∷ []
words_of minus = 23 ∷ []
words_of meet = 24 ∷ []
words_of in_ = 25 ∷ []
words_of (member line) = 26 ∷ line ∷ []
words_of (check low high line) = 27 ∷ word_of_integer low ∷ word_of_integer high ∷ line ∷ []
words_of (jump target) = 28 ∷ high_word target ∷ low_word target ∷ []
words_of (false_ target) = 29 ∷ high_word target ∷ low_word target ∷ []
words_of (and target) = 30 ∷ high_word target ∷ low_word target ∷ []
words_of (or target) = 31 ∷ high_word target ∷ low_word target ∷ []
words_of (loop target) = 32 ∷ high_word target ∷ low_word target ∷ []
words_of (entry need results parameters variables function) = 33 ∷ need ∷ results ∷ parameters ∷ variables ∷ function ∷ []
words_of (call level target line) = 34 ∷ level ∷ high_word target ∷ low_word target ∷ line ∷ []
words_of (call_p level offset line) = 35 ∷ level ∷ offset ∷ line ∷ []
words_of (proc level target) = 36 ∷ level ∷ high_word target ∷ low_word target ∷ []
words_of (return results function) = 37 ∷ results ∷ function ∷ []
words_of (halt line) = 38 ∷ line ∷ []
words_of (when line) = 39 ∷ line ∷ []
words_of (retry target) = 40 ∷ high_word target ∷ low_word target ∷ []
words_of done = 41 ∷ []
words_of (cobegin line branches) = 42 ∷ length branches ∷ line ∷ branch_words branches
words_of exit = 43 ∷ []
words_of (quiet target) = 44 ∷ high_word target ∷ low_word target ∷ []

-- ---- the operands that an instruction may have

-- a number of things, at least one, that a word can hold
abbrev pub is_count : ℕ → Bool
is_count n = nat_le 1 n && nat_lt n (2 ^ 16)

-- a number of static links to follow
abbrev pub is_level : ℕ → Bool
is_level level = nat_le level 64

-- 0 for a procedure, 1 for a function
abbrev pub is_flag : ℕ → Bool
is_flag function = nat_le function 1

-- a process needs the five words that every frame has
abbrev pub has_frame : Branch → Bool
has_frame b = nat_le 5 b.need

-- A text, a block of words and a COBEGIN are not empty. An index has a range. The need of an ENTRY is that of its frame: five
-- words, its result, its parameters and its variables.
abbrev pub is_allowed : Instruction → Bool
is_allowed (text words) = is_count (length words)
is_allowed (zeros count) = nat_le 1 count
is_allowed (address level offset) = is_level level
is_allowed (index low high size line) = int_le low high
is_allowed (load count) = nat_le 1 count
is_allowed (store count) = nat_le 1 count
is_allowed (eq count) = nat_le 1 count
is_allowed (ne count) = nat_le 1 count
is_allowed (entry need results parameters variables function) = nat_le (5 + results + parameters + variables) need && is_flag function
is_allowed (call level target line) = is_level level
is_allowed (call_p level offset line) = is_level level
is_allowed (proc level target) = is_level level
is_allowed (return results function) = is_flag function
is_allowed (cobegin line branches) = is_count (length branches) && list_all has_frame branches
is_allowed _ = true

-- an integer that a word can hold
abbrev pub is_integer : ℤ → Bool
is_integer (pos n) = nat_lt n (2 ^ 15)
is_integer (negsuc n) = nat_lt n (2 ^ 15)

-- the bounds of an INDEX or a CHECK are such integers
abbrev pub has_integers : Instruction → Bool
has_integers (index low high size line) = is_integer low && is_integer high
has_integers (check low high line) = is_integer low && is_integer high
has_integers _ = true
