-- Words of contracts. What the code of a construct is put together from: places in frames and records, and the instructions that depend on
-- types, operators and kinds alone.
use Rattle.std.specs.Prelude.{ℕ, ◌+◌, ◌-◌, pos, Bool, true, false, if◌then◌else◌, List, [], ◌∷◌, ◌++◌, length, take, sum_by, Option, Some, None}
use Rattle.std.specs.Option.{option_map, option_map_or}
use Rattle.edi_unit.specs.declared.expressions.Operator.{Operator}
use Rattle.edi_unit.specs.declared.expressions.Operator.TheVariants as op
use Rattle.edi_unit.specs.declared.units.Parameter.{Parameter}
use Rattle.edi_unit.specs.declared.units.Parameter.TheVariants as slot
use Rattle.edi_unit.specs.declared.units.BlockKind.{BlockKind}
use Rattle.edi_unit.specs.declared.units.BlockKind.TheVariants as kind
use Rattle.edi_unit.specs.Types.{Shape, char, bool, enumeration, array_of, shape_at, fields_of, is_set_shape, size}
use Rattle.edi_unit.specs.Tree.{constant, Expressions, no_expression, expression_then, Clauses, no_clause, clause_then, Block}
use Rattle.edi_unit.specs.Need.{slots, slot_words, link_words}
use Rattle.edi_target.specs.Op as instruction
use Rattle.edi_target.specs.Op.{Instruction, words_of, word_of_integer}

-- a code: instructions that stand one behind another
abbrev pub Code : Type 0
Code = List Instruction

-- the words of a code
abbrev pub words_of_code : Code → List ℕ
words_of_code [] = []
words_of_code (i ∷ code) = words_of i ++ words_of_code code

-- the number of its words
abbrev pub code_length : Code → ℕ
code_length code = length (words_of_code code)

-- ---- frames and records

-- where a variable of a block stands in its frame: behind the links and the variables before it
abbrev pub offset : List Shape → Block → ℕ → ℕ
offset types block v = link_words + sum_by (slot_words types) (take v (slots block))

-- where a field stands in a record of this type: behind the fields before it
abbrev pub field_offset : List Shape → ℕ → ℕ → ℕ
field_offset types t n = sum_by (size types) (take n (fields_of (shape_at types t)))

-- a `var` parameter keeps the address of the variable that it means
abbrev pub is_address : Option Parameter → Bool
is_address None = false
is_address (Some (slot.Value t)) = false
is_address (Some (slot.Var t)) = true
is_address (Some (slot.Formal r)) = false

-- the words of a result: none where there is no result
abbrev pub result_words : List Shape → Option ℕ → ℕ
result_words types result = option_map_or (size types) result 0

-- 1 for a function, and 0 for what has no result
abbrev pub function_flag : Option ℕ → ℕ
function_flag None = 0
function_flag (Some t) = 1

abbrev pub is_branch : BlockKind → Bool
is_branch kind.Program = false
is_branch kind.Procedure = false
is_branch kind.Function = false
is_branch kind.Branch = true

-- the instruction with which a procedure, a function or the program begins: what an instance needs, the words of its
-- result, its parameters and its declared variables, and whether it is a function
abbrev pub entry_of : List Shape → Block → Instruction
entry_of types block =
    instruction.entry block.need (result_words types block.result) (sum_by (slot_words types) block.parameters)
    (sum_by (size types) block.variables) (function_flag block.result)

-- the one with which it ends
abbrev pub return_of : List Shape → Block → Instruction
return_of types block = instruction.return (result_words types block.result) (function_flag block.result)

-- ---- variables

-- the address of a variable, so many levels out and so far in the frame: that of its words, or for a `var` parameter the one
-- that it keeps
abbrev pub variable_code : (levels offset : ℕ) → Option Parameter → Code
variable_code levels offset v =
    instruction.address levels offset ∷ (if is_address v then instruction.load 1 ∷ [] else [])

-- from the address of an array and an index to the address of the element
abbrev pub element_code : List Shape → Shape → (line : ℕ) → Code
element_code types (array_of i lo hi e) line = instruction.index lo hi (size types e) line ∷ []
element_code types _ line = []

-- ---- operators and checks

-- on two sets, or on two integers
abbrev pub on_sets : List Shape → ℕ → Instruction → Instruction → Code
on_sets types t sets integers = if is_set_shape (shape_at types t) then sets ∷ [] else integers ∷ []

-- what an operator does with its two operands, the left one of this type; `and` and `or` decide before the right one
abbrev pub operation : List Shape → ℕ → Operator → (line : ℕ) → Code
operation types t op.Equal line = instruction.eq (size types t) ∷ []
operation types t op.NotEqual line = instruction.ne (size types t) ∷ []
operation types t op.Less line = instruction.lt ∷ []
operation types t op.LessOrEqual line = instruction.le ∷ []
operation types t op.Greater line = instruction.gt ∷ []
operation types t op.GreaterOrEqual line = instruction.ge ∷ []
operation types t op.In line = instruction.in_ ∷ []
operation types t op.Plus line = on_sets types t instruction.union (instruction.add line)
operation types t op.Minus line = on_sets types t instruction.minus (instruction.sub line)
operation types t op.Times line = on_sets types t instruction.meet (instruction.mul line)
operation types t op.Div line = instruction.div line ∷ []
operation types t op.Mod line = instruction.mod_ line ∷ []
operation types t op.And line = []
operation types t op.Or line = []

-- `and` and `or` go on behind the right operand where the left one decides
abbrev pub decision : Operator → (behind : ℕ) → Code
decision op.And behind = instruction.and behind ∷ []
decision op.Or behind = instruction.or behind ∷ []
decision _ behind = []

-- the ordinal of a value has to be one of this type; each value has one of `int`
abbrev pub check_code : Shape → (line : ℕ) → Code
check_code char line = instruction.check (pos 0) (pos 127) line ∷ []
check_code bool line = instruction.check (pos 0) (pos 1) line ∷ []
check_code (enumeration n) line = instruction.check (pos 0) (pos (n - 1)) line ∷ []
check_code _ line = []

-- ---- constants in a row

-- the words of expressions that are all constants
abbrev pub constant_words : Expressions → Option (List ℕ)
constant_words no_expression = Some []
constant_words (expression_then (constant t n) es) = option_map (λ ws. word_of_integer n ∷ ws) (constant_words es)
constant_words (expression_then _ es) = None

-- constants in a row, as those of a string, are one text; other parts stand one after another
abbrev pub row_code : Option (List ℕ) → Code → Code
row_code (Some ws) parts = instruction.text ws ∷ []
row_code None parts = parts

abbrev pub row_length : Option (List ℕ) → ℕ → ℕ
row_length (Some ws) long = 2 + length ws
row_length None long = long

-- ---- the ends of lists

-- what the clauses belong to
pub data ClauseKind : Type 0 where
  -- an `if`
  once : ClauseKind
  -- a `while`
  repeated : ClauseKind
  -- a `when`
  released : ClauseKind

-- what stands behind the list of a clause, before the clauses that follow. After a list of an `if` the program goes on at
-- the target behind the statement, where it is already after the last one; after one of a `while` it goes back to the
-- target, the first condition; one of a `when` ends the critical phase, and the program goes on at the target behind it.
abbrev pub close_code : ClauseKind → (target : ℕ) → Clauses → Code
close_code once target no_clause = []
close_code once target (clause_then c cs) = instruction.jump target ∷ []
close_code repeated target cs = instruction.loop target ∷ []
close_code released target cs = instruction.done ∷ instruction.jump target ∷ []

-- where no condition of a `when` is true it waits, to begin at the target again; the test says whether no condition calls a
-- function, so that the attempt marks its process
abbrev pub again_code : (quiet : Bool) → (target : ℕ) → Code
again_code true target = instruction.quiet target ∷ []
again_code false target = instruction.retry target ∷ []
