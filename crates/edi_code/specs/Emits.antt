-- Words of contracts. What appends the code of a construct.
use Rattle.std.specs.Prelude.{◌≡◌, ℕ, ◌&&◌, IsTrue, List, [], ◌∷◌, ◌++◌, Option, Some, None}
use Rattle.std.specs.Global.{Vec}
use Rattle.edi_target.specs.declared.op.Op.{Op}
use Rattle.edi_target.specs.Op.{is_allowed}
use Rattle.edi_target.specs.View.{instruction_of, is_whole}
use Rattle.edi_scheme.specs.Pieces.{Code, words_of_code}

-- the words of a code were appended
pub record Emits (before after : List ℕ) (code : Code) : Type 0 where
  pub appended : after ≡ before ++ words_of_code code

-- the code of one instruction, and of none
abbrev pub code_of_op : Op → Code
code_of_op op = instruction_of op ∷ []

abbrev pub code_of_option : Option Op → Code
code_of_option None = []
code_of_option (Some op) = code_of_op op

-- an instruction that can be written
abbrev pub IsWhole : Op → Type 0
IsWhole op = IsTrue (is_whole op && is_allowed (instruction_of op))

-- the words that a row keeps
abbrev pub kept_words : Option (Vec ℕ) → Option (List ℕ)
kept_words None = None
kept_words (Some words) = Some words.items
