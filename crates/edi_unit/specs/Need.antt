-- Definition. The words of memory that the evaluation of a construct takes above its frame, and the words that a block needs.
use Rattle.std.specs.Prelude.{ℕ, zero, suc, ◌+◌, max, min, if◌then◌else◌, List, [], ◌++◌, map, sum_by, slice_get, slice_index_or, Option, Some, None}
use Rattle.std.specs.Prelude.{option_to_list, unwrap_or}
use Rattle.std.specs.Option.{option_map_or}
use Rattle.edi_unit.specs.declared.expressions.Operator.{Operator}
use Rattle.edi_unit.specs.declared.expressions.Operator.TheVariants as op
use Rattle.edi_unit.specs.declared.expressions.Callee.{Callee}
use Rattle.edi_unit.specs.declared.expressions.Callee.TheVariants as callee
use Rattle.edi_unit.specs.declared.units.Parameter.{Parameter}
use Rattle.edi_unit.specs.declared.units.Parameter.TheVariants as slot
use Rattle.edi_unit.specs.declared.units.BlockKind.TheVariants as kind
use Rattle.edi_unit.specs.Types.{Shape, array_of, shape_at, int_type, bool_type, field_type, is_set_shape, size}
use Rattle.edi_unit.specs.Tree.{Expression, constant, load, not_of, sign_of, chain, make, convert, apply_of, Expressions, no_expression, expression_then}
use Rattle.edi_unit.specs.Tree.{link, Links, no_link, link_then, Place, place, Part, field, index, Parts, no_part, part_then, Argument, by_value}
use Rattle.edi_unit.specs.Tree.{by_variable, by_procedure, Arguments, no_argument, argument_then, Act, skip, assign, call, halt, if_act, while_act, when_act}
use Rattle.edi_unit.specs.Tree.{cobegin, Acts, no_act, act_then, Clause, clause, Clauses, no_clause, clause_then, Block}

-- ---- blocks and their variables

-- what stands for a block whose number is not in use
abbrev pub no_block : Block
no_block = record { kind = kind.Branch; up = 0; result = None; parameters = []; variables = []; need = 0; body = no_act }

abbrev pub block_at : List Block → ℕ → Block
block_at blocks n = slice_index_or blocks n no_block

-- the block that is so many steps out of a block
abbrev pub outer : List Block → ℕ → ℕ → ℕ
outer blocks b zero = b
outer blocks b (suc levels) = outer blocks (block_at blocks b).up levels

-- the variables of a block by number: the function variable where there is a result, the parameters, and the declared
-- ones, which like the function variable hold a value of their type
abbrev pub slots : Block → List Parameter
slots b = map slot.Value (option_to_list b.result) ++ (b.parameters ++ map slot.Value b.variables)

-- a variable of the block that is so many steps out
abbrev pub slot_at : List Block → ℕ → ℕ → ℕ → Option Parameter
slot_at blocks b levels variable = slice_get (slots (block_at blocks (outer blocks b levels))) variable

-- the type of a variable; one that is not there, or is a procedure parameter, counts as an `int`
abbrev pub slot_type : Option Parameter → ℕ
slot_type None = int_type
slot_type (Some (slot.Value t)) = t
slot_type (Some (slot.Var t)) = t
slot_type (Some (slot.Formal r)) = int_type

-- the type of the result of a procedure parameter, if it is a function
abbrev pub slot_result : Option Parameter → Option ℕ
slot_result None = None
slot_result (Some (slot.Value t)) = None
slot_result (Some (slot.Var t)) = None
slot_result (Some (slot.Formal r)) = r

-- the words of a variable: a value takes the size of its type, a `var` parameter one word, a procedure parameter three
abbrev pub slot_words : List Shape → Parameter → ℕ
slot_words types (slot.Value t) = size types t
slot_words types (slot.Var t) = 1
slot_words types (slot.Formal r) = 3

-- ---- types of constructs

-- the type of an array's elements; another type counts as one of `int`
abbrev pub element_type : Shape → ℕ
element_type (array_of i lo hi e) = e
element_type _ = int_type

-- the type of a part of a variable; a field that is not there counts as an `int`
abbrev pub part_type : List Shape → ℕ → Part → ℕ
part_type types t (field n) = unwrap_or (field_type types t n) int_type
part_type types t (index e line) = element_type (shape_at types t)

abbrev pub parts_type : List Shape → ℕ → Parts → ℕ
parts_type types t no_part = t
parts_type types t (part_then p ps) = parts_type types (part_type types t p) ps

-- the type that an operator gives on a left operand of this type: relations give `bool`, the others the type itself
abbrev pub operator_type : Operator → ℕ → ℕ
operator_type op.Plus t = t
operator_type op.Minus t = t
operator_type op.Or t = t
operator_type op.Times t = t
operator_type op.Div t = t
operator_type op.Mod t = t
operator_type op.And t = t
operator_type _ t = bool_type

abbrev pub links_type : ℕ → Links → ℕ
links_type t no_link = t
links_type t (link_then (link o e line) ls) = links_type (operator_type o t) ls

-- the words that the left operand keeps while the right one is evaluated: `and` and `or` keep none
abbrev pub left_words : List Shape → Operator → ℕ → ℕ
left_words types op.And t = 0
left_words types op.Or t = 0
left_words types _ t = size types t

-- the type of the result of what is called in a block, if it is a function
abbrev pub callee_result : List Block → ℕ → Callee → Option ℕ
callee_result blocks b (callee.Block levels n) = (block_at blocks n).result
callee_result blocks b (callee.Formal levels v) = slot_result (slot_at blocks b levels v)

-- in the block of this number, with these types and blocks
module _ (types : List Shape) (blocks : List Block) (b : ℕ) where
  abbrev pub place_type : Place → ℕ
  place_type (place levels v ps) = parts_type types (slot_type (slot_at blocks b levels v)) ps

  -- the type of an expression
  abbrev pub expression_type : Expression → ℕ
  expression_type (constant t n) = t
  expression_type (load p) = place_type p
  expression_type (not_of e) = bool_type
  expression_type (sign_of e line) = int_type
  expression_type (chain e ls) = links_type (expression_type e) ls
  expression_type (make t es line) = t
  expression_type (convert t e line) = t
  expression_type (apply_of c xs line) = unwrap_or (callee_result blocks b c) int_type

  -- the words of the result of what is called: a procedure has none
  abbrev pub result_words : Callee → ℕ
  result_words c = option_map_or (size types) (callee_result blocks b c) 0

  -- the words that an argument leaves: a value those of its type, a variable its address, a procedure three
  abbrev pub argument_words : Argument → ℕ
  argument_words (by_value e) = size types (expression_type e)
  argument_words (by_variable p) = 1
  argument_words (by_procedure c) = 3

  -- ---- heights: the greatest number of words that stand above the frame at once while a construct is evaluated.
  -- A place leaves its address, an expression its value.
  abbrev mutual
    pub expression_height : Expression → ℕ
    expression_height (constant t n) = 1
    expression_height (load p) = max (place_height p) (size types (place_type p))
    expression_height (not_of e) = expression_height e
    expression_height (sign_of e line) = expression_height e
    expression_height (chain e ls) = max (expression_height e) (links_height (expression_type e) ls)
    expression_height (make t es line) = if is_set_shape (shape_at types t) then members_height es else compound_height 0 es
    expression_height (convert t e line) = expression_height e
    expression_height (apply_of c xs line) = max (arguments_height 0 xs) (result_words c)

    -- the greatest over the members of a set: its 8 words stand below each, and stand alone where there is none
    pub members_height : Expressions → ℕ
    members_height no_expression = 8
    members_height (expression_then e es) = max (8 + expression_height e) (members_height es)

    -- the greatest over the fields or elements of so many words before them
    pub compound_height : ℕ → Expressions → ℕ
    compound_height before no_expression = 0
    compound_height before (expression_then e es) =
        max (before + expression_height e) (compound_height (before + size types (expression_type e)) es)

    -- the greatest over the right operands, each above the left operand's value, which is of this type at first
    pub links_height : ℕ → Links → ℕ
    links_height t no_link = 0
    links_height t (link_then (link o e line) ls) =
        max (left_words types o t + expression_height e) (links_height (operator_type o t) ls)

    -- one word for the address, and each index above it
    pub place_height : Place → ℕ
    place_height (place levels v ps) = max 1 (parts_height ps)

    pub part_height : Part → ℕ
    part_height (field n) = 0
    part_height (index e line) = 1 + expression_height e

    pub parts_height : Parts → ℕ
    parts_height no_part = 0
    parts_height (part_then p ps) = max (part_height p) (parts_height ps)

    pub argument_height : Argument → ℕ
    argument_height (by_value e) = expression_height e
    argument_height (by_variable p) = place_height p
    argument_height (by_procedure c) = 3

    -- the greatest over the arguments of so many words before them
    pub arguments_height : ℕ → Arguments → ℕ
    arguments_height before no_argument = 0
    arguments_height before (argument_then x xs) =
        max (before + argument_height x) (arguments_height (before + argument_words x) xs)

  abbrev mutual
    pub act_height : Act → ℕ
    act_height skip = 0
    act_height (assign p e) = max (place_height p) (1 + expression_height e)
    act_height (call c xs line) = arguments_height 0 xs
    act_height (halt line) = 0
    act_height (if_act cs) = clauses_height cs
    act_height (while_act cs) = clauses_height cs
    act_height (when_act cs line) = clauses_height cs
    act_height (cobegin bs line) = 0

    pub acts_height : Acts → ℕ
    acts_height no_act = 0
    acts_height (act_then a s) = max (act_height a) (acts_height s)

    pub clause_height : Clause → ℕ
    clause_height (clause e s) = max (expression_height e) (acts_height s)

    pub clauses_height : Clauses → ℕ
    clauses_height no_clause = 0
    clauses_height (clause_then c cs) = max (clause_height c) (clauses_height cs)

-- the words that each instance keeps besides its variables
abbrev pub link_words : ℕ
link_words = 5

-- the words of a block's variables, its result and parameters among them
abbrev pub variable_words : List Shape → Block → ℕ
variable_words types block = sum_by (slot_words types) (slots block)

-- the words that an instance of the block of this number needs: 5, its variables, and the height of its statements
abbrev pub need : List Shape → List Block → ℕ → ℕ
need types blocks n =
    link_words + variable_words types (block_at blocks n) + acts_height types blocks n (block_at blocks n).body

-- the least number that is too large for a size or a need
abbrev pub too_large : ℕ
too_large = 65536

-- a number up to 65,535, and 65,536 in place of any larger one
abbrev pub limited : ℕ → ℕ
limited n = min n too_large
