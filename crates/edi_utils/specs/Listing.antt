-- Definition. The listing of a code.
use Rattle.std.specs.Prelude.{ℕ, ◌-◌, List, [], ◌∷◌, ◌++◌, length, replicate, slice_index_or, flat_map, Option, Some, None, codes}
use Rattle.std.specs.Fmt.{decimal}
use Rattle.edi_target.specs.Op.{Instruction, words_of}
use Rattle.edi_target.specs.Check.{Start, starts_of}

-- the names of the instructions by their numbers; the number 0 is none
abbrev pub instruction_names : List (List ℕ)
instruction_names =
    [] ∷ codes "CONST" ∷ codes "TEXT" ∷ codes "ZEROS" ∷ codes "ADDRESS" ∷ codes "FIELD" ∷ codes "INDEX" ∷ codes "LOAD"
    ∷ codes "STORE" ∷ codes "ADD" ∷ codes "SUB" ∷ codes "MUL" ∷ codes "DIV" ∷ codes "MOD" ∷ codes "NEG" ∷ codes "NOT"
    ∷ codes "EQ" ∷ codes "NE" ∷ codes "LT" ∷ codes "LE" ∷ codes "GT" ∷ codes "GE" ∷ codes "UNION" ∷ codes "MINUS"
    ∷ codes "MEET" ∷ codes "IN" ∷ codes "MEMBER" ∷ codes "CHECK" ∷ codes "JUMP" ∷ codes "FALSE" ∷ codes "AND" ∷ codes "OR"
    ∷ codes "LOOP" ∷ codes "ENTRY" ∷ codes "CALL" ∷ codes "CALLP" ∷ codes "PROC" ∷ codes "RETURN" ∷ codes "HALT"
    ∷ codes "WHEN" ∷ codes "RETRY" ∷ codes "DONE" ∷ codes "COBEGIN" ∷ codes "EXIT" ∷ codes "QUIET" ∷ []

-- a text at the right end of so many places; a longer one takes its own
abbrev pub right_in : (places : ℕ) → List ℕ → List ℕ
right_in places text = replicate (places - length text) 32 ++ text

-- operand words, each after a blank
abbrev pub operand_texts : List ℕ → List ℕ
operand_texts [] = []
operand_texts (word ∷ words) = codes " " ++ (decimal word ++ operand_texts words)

-- the name and the operand words of the instruction that these words are
abbrev pub words_text : List ℕ → List ℕ
words_text [] = []
words_text (number ∷ operands) = slice_index_or instruction_names number [] ++ operand_texts operands

-- the line of the words of an instruction that starts at an address
abbrev pub line_at : (at : ℕ) → List ℕ → List ℕ
line_at at words = right_in 7 (decimal at) ++ (codes " " ++ (words_text words ++ codes "\n"))

-- the line of an instruction start
abbrev pub start_line : (at : ℕ) → Option Instruction → List ℕ
start_line at None = []
start_line at (Some op) = line_at at (words_of op)

abbrev pub start_lines : List Start → List ℕ
start_lines starts = flat_map (λ (s : Start). start_line s.at s.op) starts

-- THE LISTING of the words of a code: a line for each instruction
abbrev pub listing_of : (words : List ℕ) → List ℕ
listing_of words = start_lines (starts_of words)
