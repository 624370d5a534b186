-- Definition. THE FRAMES of a process, as text. Where its program is known, that of each is the name of its block, and its variables with their values;
-- else it is the words of the frame.
use Rattle.std.specs.Prelude.{ℕ, ◌+◌, ◌-◌, nat_lt, Bool, true, false, if◌then◌else◌, List, [], ◌∷◌, ◌++◌, length, filter, flat_map, map, take, drop, codes}
use Rattle.std.specs.Prelude.{Option, Some}
use Rattle.std.specs.Fmt.{decimal}
use Rattle.edi_store.specs.Memory.{words_at}
use Rattle.edi_unit.specs.declared.units.Parameter.{Parameter}
use Rattle.edi_unit.specs.declared.units.Parameter.TheVariants as slot
use Rattle.edi_unit.specs.Tree.{ProgramUnit}
use Rattle.edi_unit.specs.Need.{block_at, link_words, slots, slot_words}
use Rattle.edi_target.specs.Check.{Start, starts_of}
use Rattle.edi_target.specs.Memory.{word}
use Rattle.edi_target.specs.Op.{Instruction, exit, return}
use Rattle.edi_kernel.specs.declared.frames.Below.{Below}
use Rattle.edi_sights.specs.named.Naming.{Named, Names, named_at}
use Rattle.edi_dump.specs.values.Texts.{most_shown, short}
use Rattle.edi_dump.specs.values.Words.{words_text}

-- what is known of a program
pub record Program : Type 0 where
  pub unit : ProgramUnit
  pub names : Names

-- ---- the block of an address

-- a block ends with its only RETURN or EXIT
abbrev pub ends_block : Option Instruction → Bool
ends_block (Some (return results function)) = true
ends_block (Some exit) = true
ends_block _ = false

-- the addresses of these in the code
abbrev pub block_ends : (words : List ℕ) → List ℕ
block_ends words = map (λ (s : Start). s.at) (filter (λ (s : Start). ends_block s.op) (starts_of words))

-- as many blocks end before an address as come before its own
abbrev pub block_of : (words : List ℕ) → (at : ℕ) → ℕ
block_of words at = length (filter (λ end. nat_lt end at) (block_ends words))

-- ---- a frame

-- its first 64 words
abbrev pub raw_text : List ℕ → List ℕ
raw_text ws = flat_map (λ w. codes " " ++ decimal w) (take most_shown ws) ++ (if nat_lt most_shown (length ws) then codes " ..\n" else codes "\n")

-- `  frame at 40 goes on at 117: 12 0 3`
abbrev pub raw_frame : (memory : List ℕ) → Below → List ℕ
raw_frame memory frame =
    codes "  frame at " ++ (decimal frame.base ++ (codes " goes on at " ++ (decimal frame.back ++ (codes ":"
    ++ raw_text (words_at memory frame.base (frame.top - frame.base))))))

-- a text with a name in it; a branch of a `cobegin` has no name
abbrev pub where_named : (name text : List ℕ) → List ℕ
where_named [] text = []
where_named (c ∷ name) text = text

-- `  dine`
abbrev pub name_line : (name : List ℕ) → List ℕ
name_line name = where_named name (codes "  " ++ (short name ++ codes "\n"))

-- `    forks = (true, false)`
abbrev pub value_line : (name text : List ℕ) → List ℕ
value_line name text = codes "    " ++ (short name ++ (codes " = " ++ (text ++ codes "\n")))

module _ (program : Program) (memory : List ℕ) where
  -- a variable at the front of these words; for a `var` parameter, the one that it means
  abbrev pub variable_text : Parameter → (words : List ℕ) → List ℕ
  variable_text (slot.Value t) words = words_text program.unit.types program.names.constants t words
  variable_text (slot.Var t) words = words_text program.unit.types program.names.constants t (drop (word words 0) memory)
  variable_text (slot.Formal r) words = codes "proc"

  abbrev pub variable_line : (name : List ℕ) → Parameter → (words : List ℕ) → List ℕ
  variable_line name v words = value_line name (variable_text v words)

  -- of variables with these names, which stand one behind another at the front of the words
  abbrev pub variables_text : (names : List (List ℕ)) → List Parameter → (words : List ℕ) → List ℕ
  variables_text [] vs words = []
  variables_text (name ∷ names) [] words = []
  variables_text (name ∷ names) (v ∷ vs) words =
      variable_line name v words ++ variables_text names vs (drop (slot_words program.unit.types v) words)

  -- of block n, whose variables stand behind the links
  abbrev pub block_frame : (n base : ℕ) → Named → List ℕ
  block_frame n base named =
      name_line named.name
      ++ variables_text named.variables (slots (block_at program.unit.blocks n)) (drop (base + link_words) memory)

  abbrev pub named_frame : (words : List ℕ) → Below → List ℕ
  named_frame words frame =
      let n : ℕ = block_of words frame.back in block_frame n frame.base (named_at program.names.blocks n)
