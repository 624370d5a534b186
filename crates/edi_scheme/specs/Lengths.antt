-- Words of contracts. The number of words of the code of each construct. It does not depend on the address where the code stands.
use Rattle.std.specs.Prelude.{ℕ, ◌+◌, ◌*◌, if◌then◌else◌, List, length}
use Rattle.edi_unit.specs.declared.expressions.Callee.{Callee}
use Rattle.edi_unit.specs.declared.expressions.Callee.TheVariants as callee
use Rattle.edi_unit.specs.Types.{Shape, shape_at, is_set_shape}
use Rattle.edi_unit.specs.Tree.{Expression, constant, load, not_of, sign_of, chain, make, convert, apply_of, Expressions, no_expression, expression_then}
use Rattle.edi_unit.specs.Tree.{link, Links, no_link, link_then, Place, place, Part, field, index, Parts, no_part, part_then, Argument, by_value}
use Rattle.edi_unit.specs.Tree.{by_variable, by_procedure, Arguments, no_argument, argument_then, Act, skip, assign, call, halt, if_act, while_act, when_act}
use Rattle.edi_unit.specs.Tree.{cobegin, Acts, no_act, act_then, Clause, clause, Clauses, no_clause, clause_then, Block}
use Rattle.edi_unit.specs.Need.{block_at, slot_at, slot_type, part_type, operator_type, expression_type}
use Rattle.edi_scheme.specs.Pieces.{code_length, is_branch, variable_code, element_code, operation, decision, check_code, constant_words, row_length}
use Rattle.edi_scheme.specs.Pieces.{ClauseKind, once, repeated, released, close_code}

-- a call, and a procedure that is passed on: by its name, or by a procedure parameter
abbrev pub call_length : Callee → ℕ
call_length (callee.Block levels n) = 5
call_length (callee.Formal levels v) = 4

abbrev pub procedure_length : Callee → ℕ
procedure_length (callee.Block levels n) = 4
procedure_length (callee.Formal levels v) = 5

-- in the block of this number, with these types and blocks
module _ (types : List Shape) (blocks : List Block) (b : ℕ) where
  abbrev mutual
    pub expression_length : Expression → ℕ
    expression_length (constant t n) = 2
    expression_length (load p) = place_length p + 2
    expression_length (not_of e) = expression_length e + 1
    expression_length (sign_of e line) = expression_length e + 2
    expression_length (chain e ls) = expression_length e + links_length (expression_type types blocks b e) ls
    expression_length (make t es line) =
        if is_set_shape (shape_at types t) then 2 + members_length es else row_length (constant_words es) (expressions_length es)
    expression_length (convert t e line) = expression_length e + code_length (check_code (shape_at types t) line)
    expression_length (apply_of c xs line) = arguments_length xs + call_length c

    -- one expression after another
    pub expressions_length : Expressions → ℕ
    expressions_length no_expression = 0
    expressions_length (expression_then e es) = expression_length e + expressions_length es

    -- the members of a set, each joined to it
    pub members_length : Expressions → ℕ
    members_length no_expression = 0
    members_length (expression_then e es) = expression_length e + 2 + members_length es

    -- operators with their right operands, behind a left operand of this type
    pub links_length : ℕ → Links → ℕ
    links_length t no_link = 0
    links_length t (link_then (link o e line) ls) =
        code_length (decision o 0) + expression_length e + code_length (operation types t o line) + links_length (operator_type o t) ls

    pub place_length : Place → ℕ
    place_length (place levels v ps) =
        code_length (variable_code levels 0 (slot_at blocks b levels v)) + parts_length (slot_type (slot_at blocks b levels v)) ps

    -- the steps to a part of a variable of this type
    pub parts_length : ℕ → Parts → ℕ
    parts_length t no_part = 0
    parts_length t (part_then p ps) = part_length t p + parts_length (part_type types t p) ps

    pub part_length : ℕ → Part → ℕ
    part_length t (field n) = 2
    part_length t (index e line) = expression_length e + code_length (element_code types (shape_at types t) line)

    pub argument_length : Argument → ℕ
    argument_length (by_value e) = expression_length e
    argument_length (by_variable p) = place_length p
    argument_length (by_procedure c) = procedure_length c

    pub arguments_length : Arguments → ℕ
    arguments_length no_argument = 0
    arguments_length (argument_then x xs) = argument_length x + arguments_length xs

  abbrev mutual
    pub act_length : Act → ℕ
    act_length skip = 0
    act_length (assign p e) = place_length p + expression_length e + 2
    act_length (call c xs line) = arguments_length xs + call_length c
    act_length (halt line) = 2
    act_length (if_act cs) = clauses_length once cs
    act_length (while_act cs) = clauses_length repeated cs
    act_length (when_act cs line) = 2 + clauses_length released cs + 3
    act_length (cobegin bs line) = 3 + 3 * length bs

    pub acts_length : Acts → ℕ
    acts_length no_act = 0
    acts_length (act_then a s) = act_length a + acts_length s

    -- a condition with its jump, the list, and what closes it
    pub clause_length : Clause → ℕ
    clause_length (clause e s) = expression_length e + 3 + acts_length s

    pub clauses_length : ClauseKind → Clauses → ℕ
    clauses_length kind no_clause = 0
    clauses_length kind (clause_then c cs) = clause_length c + code_length (close_code kind 0 cs) + clauses_length kind cs

-- a branch has its list and one word; every other block begins with 6 words and ends with 3
abbrev pub block_length : List Shape → List Block → ℕ → ℕ
block_length types blocks n =
    let list : ℕ = acts_length types blocks n (block_at blocks n).body in
    if is_branch (block_at blocks n).kind then list + 1 else 6 + list + 3
