-- Each instruction has a name of its own in the listing: where the name stands in the table is the number of the instruction.
use Rattle.std.proofs.Common.{◌≡◌, ◌∙◌, sym, ap, refl}
use Rattle.std.specs.Prelude.{ℕ, suc, Bool, true, false, ◌&&◌, ◌==◌, if◌then◌else◌, List, [], ◌∷◌, ◌++◌}
use Rattle.edi_target.specs.Op as target
use Rattle.edi_target.specs.Op.{Instruction, words_of}
use Rattle.edi_utils.specs.Listing.{instruction_names, operand_texts, words_text}
use Rattle.edi_utils.specs.Named.{EachInstructionIsNamed, has_capital, name_of_instruction, number_of, operands_of}

same_text : List ℕ → List ℕ → Bool
same_text [] [] = true
same_text [] (b ∷ bytes) = false
same_text (a ∷ text) [] = false
same_text (a ∷ text) (b ∷ bytes) = a == b && same_text text bytes

-- how many names are before this one
place_of : List ℕ → List (List ℕ) → ℕ
place_of text [] = 0
place_of text (name ∷ names) = if same_text text name then 0 else suc (place_of text names)

found : (op : Instruction) → place_of (name_of_instruction op) instruction_names ≡ number_of op
unfolding place_of same_text
found (target.const value) = refl
found op = refl

capital : (op : Instruction) → has_capital (name_of_instruction op) ≡ true
capital (target.const value) = refl
capital op = refl

shows : (op : Instruction) → words_text (words_of op) ≡ name_of_instruction op ++ operand_texts (operands_of op)
shows (target.const value) = refl
shows op = refl

pub each_instruction_is_named : EachInstructionIsNamed
each_instruction_is_named op = record {
  capital = capital op;
  shows = shows op;
  alone = λ other same. sym (found other) ∙ ap (λ name. place_of name instruction_names) same ∙ found op;
}
