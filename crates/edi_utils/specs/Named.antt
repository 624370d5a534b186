-- Words of contracts. The law that each instruction has a name of its own in the listing.
use Rattle.std.specs.Prelude.{◌≡◌, ℕ, Bool, true, false, ◌&&◌, nat_le, List, [], ◌∷◌, ◌++◌, drop, slice_index_or}
use Rattle.edi_target.specs.Op.{Instruction, words_of}
use Rattle.edi_utils.specs.Listing.{instruction_names, operand_texts, words_text}

-- the number of an instruction is its first word; the others are its operands
abbrev pub number_of : Instruction → ℕ
number_of op = slice_index_or (words_of op) 0 0

abbrev pub operands_of : Instruction → List ℕ
operands_of op = drop 1 (words_of op)

abbrev pub name_of_instruction : Instruction → List ℕ
name_of_instruction op = slice_index_or instruction_names (number_of op) []

-- a capital letter of ASCII is in front
abbrev pub has_capital : (text : List ℕ) → Bool
has_capital [] = false
has_capital (byte ∷ bytes) = nat_le 65 byte && nat_le byte 90

-- The name of the instruction begins with a capital letter, so it is no blank. The listing shows it, and then the operands. No instruction of another
-- number has it.
pub record IsNamed (op : Instruction) : Type 0 where
  pub capital : has_capital (name_of_instruction op) ≡ true
  pub shows : words_text (words_of op) ≡ name_of_instruction op ++ operand_texts (operands_of op)
  pub alone : (other : Instruction) → name_of_instruction other ≡ name_of_instruction op → number_of other ≡ number_of op

-- THE LAW: so it is with each instruction.
abbrev pub EachInstructionIsNamed : Type 0
EachInstructionIsNamed = (op : Instruction) → IsNamed op
