-- Words of contracts. THE CODE SCHEME: the instructions of each construct. The code of an expression leaves its value above the operands that
-- were there, that of a place the address of the variable or of its part, that of arguments the words of the parameters,
-- and that of a statement nothing. A code depends on the address where it stands only by the addresses to which it jumps.
use Rattle.std.specs.Prelude.{ℕ, zero, suc, ◌+◌, if◌then◌else◌, List, [], ◌∷◌, ◌++◌, length, map}
use Rattle.edi_unit.specs.declared.expressions.Callee.{Callee}
use Rattle.edi_unit.specs.declared.expressions.Callee.TheVariants as callee
use Rattle.edi_unit.specs.Types.{Shape, shape_at, is_set_shape, size}
use Rattle.edi_unit.specs.Tree.{Expression, constant, load, not_of, sign_of, chain, make, convert, apply_of, Expressions, no_expression, expression_then}
use Rattle.edi_unit.specs.Tree.{link, Links, no_link, link_then, Place, place, Part, field, index, Parts, no_part, part_then, Argument, by_value}
use Rattle.edi_unit.specs.Tree.{by_variable, by_procedure, Arguments, no_argument, argument_then, Act, skip, assign, call, halt, if_act, while_act, when_act}
use Rattle.edi_unit.specs.Tree.{cobegin, Acts, no_act, act_then, Clause, clause, Clauses, no_clause, clause_then, Block, ProgramUnit}
use Rattle.edi_unit.specs.Need.{block_at, outer, slot_at, slot_type, part_type, operator_type, place_type, expression_type}
use Rattle.edi_meaning.specs.Step.{is_quiet}
use Rattle.edi_target.specs.Op as instruction
use Rattle.edi_target.specs.Op.{Branch, word_of_integer}
use Rattle.edi_scheme.specs.Pieces.{Code, words_of_code, code_length, offset, field_offset, is_branch, entry_of, return_of, variable_code, element_code}
use Rattle.edi_scheme.specs.Pieces.{operation, decision, check_code, constant_words, row_code, ClauseKind, once, repeated, released, close_code, again_code}
use Rattle.edi_scheme.specs.Lengths.{expression_length, place_length, part_length, argument_length, act_length, clause_length, clauses_length, block_length}

-- in the block of this number, with these types and blocks; each block stands at the address that `entry` gives
module _ (types : List Shape) (blocks : List Block) (entry : ℕ → ℕ) (b : ℕ) where
  -- where a variable stands in the frame of the block so many levels out
  abbrev pub slot_offset : (levels v : ℕ) → ℕ
  slot_offset levels v = offset types (block_at blocks (outer blocks b levels)) v

  -- a call: of a block, or of what a procedure parameter means
  abbrev pub call_code : Callee → (line : ℕ) → Code
  call_code (callee.Block levels n) line = instruction.call levels (entry n) line ∷ []
  call_code (callee.Formal levels v) line = instruction.call_p levels (slot_offset levels v) line ∷ []

  -- a procedure that is passed on: its three words, or the three of a procedure parameter
  abbrev pub procedure_code : Callee → Code
  procedure_code (callee.Block levels n) = instruction.proc levels (entry n) ∷ []
  procedure_code (callee.Formal levels v) = instruction.address levels (slot_offset levels v) ∷ instruction.load 3 ∷ []

  abbrev mutual
    pub expression_code : ℕ → Expression → Code
    expression_code at (constant t n) = instruction.const (word_of_integer n) ∷ []
    expression_code at (load p) = place_code at p ++ instruction.load (size types (place_type types blocks b p)) ∷ []
    expression_code at (not_of e) = expression_code at e ++ instruction.not_ ∷ []
    expression_code at (sign_of e line) = expression_code at e ++ instruction.neg line ∷ []
    expression_code at (chain e ls) =
        expression_code at e
        ++ links_code (at + expression_length types blocks b e) (expression_type types blocks b e) ls
    expression_code at (make t es line) =
        if is_set_shape (shape_at types t)
        then instruction.zeros 8 ∷ members_code (at + 2) line es
        else row_code (constant_words es) (expressions_code at es)
    expression_code at (convert t e line) = expression_code at e ++ check_code (shape_at types t) line
    expression_code at (apply_of c xs line) = arguments_code at xs ++ call_code c line

    -- one expression after another
    pub expressions_code : ℕ → Expressions → Code
    expressions_code at no_expression = []
    expressions_code at (expression_then e es) =
        expression_code at e ++ expressions_code (at + expression_length types blocks b e) es

    -- the members of a set, each joined to it
    pub members_code : ℕ → (line : ℕ) → Expressions → Code
    members_code at line no_expression = []
    members_code at line (expression_then e es) =
        expression_code at e
        ++ instruction.member line
        ∷ members_code (at + expression_length types blocks b e + 2) line es

    -- operators with their right operands, behind a left operand of this type
    pub links_code : ℕ → ℕ → Links → Code
    links_code at t no_link = []
    links_code at t (link_then (link o e line) ls) =
        let right : ℕ = at + code_length (decision o 0) in
        let behind : ℕ = right + expression_length types blocks b e + code_length (operation types t o line) in
        decision o behind
        ++ (expression_code right e
        ++ (operation types t o line
        ++ links_code behind (operator_type o t) ls))

    pub place_code : ℕ → Place → Code
    place_code at (place levels v ps) =
        let variable : Code = variable_code levels (slot_offset levels v) (slot_at blocks b levels v) in
        variable ++ parts_code (at + code_length variable) (slot_type (slot_at blocks b levels v)) ps

    -- the steps to a part of a variable of this type
    pub parts_code : ℕ → ℕ → Parts → Code
    parts_code at t no_part = []
    parts_code at t (part_then p ps) =
        part_code at t p ++ parts_code (at + part_length types blocks b t p) (part_type types t p) ps

    pub part_code : ℕ → ℕ → Part → Code
    part_code at t (field n) = instruction.field (field_offset types t n) ∷ []
    part_code at t (index e line) = expression_code at e ++ element_code types (shape_at types t) line

    pub argument_code : ℕ → Argument → Code
    argument_code at (by_value e) = expression_code at e
    argument_code at (by_variable p) = place_code at p
    argument_code at (by_procedure c) = procedure_code c

    pub arguments_code : ℕ → Arguments → Code
    arguments_code at no_argument = []
    arguments_code at (argument_then x xs) =
        argument_code at x ++ arguments_code (at + argument_length types blocks b x) xs

  abbrev mutual
    pub act_code : ℕ → Act → Code
    act_code at skip = []
    act_code at (assign p e) =
        place_code at p
        ++ (expression_code (at + place_length types blocks b p) e
        ++ instruction.store (size types (place_type types blocks b p)) ∷ [])
    act_code at (call c xs line) = arguments_code at xs ++ call_code c line
    act_code at (halt line) = instruction.halt line ∷ []
    act_code at (if_act cs) = clauses_code once (at + clauses_length types blocks b once cs) at cs
    act_code at (while_act cs) = clauses_code repeated at at cs
    act_code at (when_act cs line) =
        let top : ℕ = at + 2 in
        let end : ℕ = top + clauses_length types blocks b released cs + 3 in
        instruction.when line ∷ (clauses_code released end top cs ++ again_code (is_quiet cs) top)
    act_code at (cobegin bs line) =
        instruction.cobegin line (map (λ n. record { need = (block_at blocks n).need; address = entry n }) bs) ∷ []

    pub acts_code : ℕ → Acts → Code
    acts_code at no_act = []
    acts_code at (act_then a s) = act_code at a ++ acts_code (at + act_length types blocks b a) s

    -- a condition: where it is false the next clause stands; then the list, and what closes it
    pub clause_code : (at next : ℕ) → Clause → Code
    clause_code at next (clause e s) =
        expression_code at e
        ++ instruction.false_ next
        ∷ acts_code (at + expression_length types blocks b e + 3) s

    pub clauses_code : ClauseKind → (target at : ℕ) → Clauses → Code
    clauses_code kind target at no_clause = []
    clauses_code kind target at (clause_then c cs) =
        let next : ℕ = at + clause_length types blocks b c + code_length (close_code kind 0 cs) in
        clause_code at next c ++ (close_code kind target cs ++ clauses_code kind target next cs)

-- ---- blocks and programs

-- where a block stands: behind the blocks of lower numbers
abbrev pub entry : List Shape → List Block → ℕ → ℕ
entry types blocks zero = 0
entry types blocks (suc n) = entry types blocks n + block_length types blocks n

-- a block that stands at this address: a branch is its list and an EXIT
abbrev pub block_code : List Shape → List Block → (at n : ℕ) → Code
block_code types blocks at n =
    let block : Block = block_at blocks n in
    if is_branch block.kind
    then acts_code types blocks (entry types blocks) n at block.body ++ instruction.exit ∷ []
    else entry_of types block ∷ (acts_code types blocks (entry types blocks) n (at + 6) block.body ++ return_of types block ∷ [])

-- the first n blocks
abbrev pub blocks_code : List Shape → List Block → ℕ → Code
blocks_code types blocks zero = []
blocks_code types blocks (suc n) = blocks_code types blocks n ++ block_code types blocks (entry types blocks n) n

-- THE CODE of a program: the words of all its blocks, in the order of their numbers
abbrev pub code_of : ProgramUnit → List ℕ
code_of unit = words_of_code (blocks_code unit.types unit.blocks (length unit.blocks))
