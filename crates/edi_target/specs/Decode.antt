-- Definition. The instruction that stands at an address: as a function of the words there, and as a relation.
use Rattle.std.specs.Prelude.{ℕ, ◌+◌, ◌*◌, nat_lt, if◌then◌else◌, List, [], ◌∷◌, take, length, slice_get, Option}
use Rattle.std.specs.Prelude.{Some, None}
use Rattle.edi_target.specs.Op.{Instruction, Branch, is_allowed, integer_of_word, address_of_words, const, text, zeros, address}
use Rattle.edi_target.specs.Op.{field, index, load, store, add, sub, mul, div, mod_, neg, not_, eq, ne, lt, le, gt, ge, union, minus, meet, in_, member}
use Rattle.edi_target.specs.Op.{check, jump, false_, and, or, loop, entry, call, call_p, proc, return, halt, when, retry, done, cobegin, exit, quiet}

-- how operands are read from the words behind the number: the instruction, and the number of words of both together; none
-- where the words end before the operands do
abbrev pub Row : Type 0
Row = List ℕ → Option (Instruction × ℕ)

abbrev pub no_operands : Instruction → Row
no_operands op words = Some (op, 1)

abbrev pub one_word : (ℕ → Instruction) → Row
one_word op (a ∷ words) = Some (op a, 2)
one_word op _ = None

abbrev pub two_words : (ℕ → ℕ → Instruction) → Row
two_words op (a ∷ b ∷ words) = Some (op a b, 3)
two_words op _ = None

abbrev pub three_words : (ℕ → ℕ → ℕ → Instruction) → Row
three_words op (a ∷ b ∷ c ∷ words) = Some (op a b c, 4)
three_words op _ = None

abbrev pub four_words : (ℕ → ℕ → ℕ → ℕ → Instruction) → Row
four_words op (a ∷ b ∷ c ∷ d ∷ words) = Some (op a b c d, 5)
four_words op _ = None

abbrev pub five_words : (ℕ → ℕ → ℕ → ℕ → ℕ → Instruction) → Row
five_words op (a ∷ b ∷ c ∷ d ∷ e ∷ words) = Some (op a b c d e, 6)
five_words op _ = None

abbrev pub one_target : (ℕ → Instruction) → Row
one_target op = two_words (λ high low. op (address_of_words high low))

-- the branches that words give, three words to each
abbrev pub branches_of : List ℕ → List Branch
branches_of (need ∷ high ∷ low ∷ words) = record { need = need; address = address_of_words high low } ∷ branches_of words
branches_of _ = []

-- a count, and that many words
abbrev pub counted_text : Row
counted_text (n ∷ words) = if nat_lt (length words) n then None else Some (text (take n words), n + 2)
counted_text _ = None

-- a count, a line, and that many branches
abbrev pub counted_branches : Row
counted_branches (n ∷ line ∷ words) =
    if nat_lt (length words) (3 * n) then None else Some (cobegin line (branches_of (take (3 * n) words)), 3 * n + 3)
counted_branches _ = None

-- the rows by the numbers of the instructions; the number 0 is none
abbrev pub rows : List Row
rows =
    (λ _. None)
    ∷ one_word const
    ∷ counted_text
    ∷ one_word zeros
    ∷ two_words address
    ∷ one_word field
    ∷ four_words (λ low high. index (integer_of_word low) (integer_of_word high))
    ∷ one_word load
    ∷ one_word store
    ∷ one_word add
    ∷ one_word sub
    ∷ one_word mul
    ∷ one_word div
    ∷ one_word mod_
    ∷ one_word neg
    ∷ no_operands not_
    ∷ one_word eq
    ∷ one_word ne
    ∷ no_operands lt
    ∷ no_operands le
    ∷ no_operands gt
    ∷ no_operands ge
    ∷ no_operands union
    ∷ no_operands minus
    ∷ no_operands meet
    ∷ no_operands in_
    ∷ one_word member
    ∷ three_words (λ low high. check (integer_of_word low) (integer_of_word high))
    ∷ one_target jump
    ∷ one_target false_
    ∷ one_target and
    ∷ one_target or
    ∷ one_target loop
    ∷ five_words entry
    ∷ four_words (λ level high low. call level (address_of_words high low))
    ∷ three_words call_p
    ∷ three_words (λ level high low. proc level (address_of_words high low))
    ∷ two_words return
    ∷ one_word halt
    ∷ one_word when
    ∷ one_target retry
    ∷ no_operands done
    ∷ counted_branches
    ∷ no_operands exit
    ∷ one_target quiet
    ∷ []

-- an instruction of any operands at the front of the words, and its length
abbrev pub shaped : List ℕ → Option (Instruction × ℕ)
shaped [] = None
shaped (number ∷ words) = elim (slice_get rows number) [ None ↦ None | Some row ↦ row words ]

-- what was read, if its operands are allowed
abbrev pub if_allowed : Option (Instruction × ℕ) → Option (Instruction × ℕ)
if_allowed None = None
if_allowed (Some x) = if is_allowed x.0 then Some x else None

-- the instruction at the front of the words, and its length; none where no instruction of allowed operands stands there whole
unfoldable pub decode : List ℕ → Option (Instruction × ℕ)
decode words = if_allowed (shaped words)
