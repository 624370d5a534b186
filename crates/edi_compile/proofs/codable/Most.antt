-- How long the code of each construct is at most, whatever its types and variables are.
use Rattle.std.proofs.Common.{◌≡◌, ℕ, zero, suc, ◌+◌, ◌*◌, ◌<◌, ◌≤◌, Bool, true, false, if◌then◌else◌, List, [], ◌∷◌, length, Option, Some, None, refl, arith}
use Rattle.std.specs.Prelude.{IfSome}
use Rattle.edi_unit.specs.declared.expressions.Operator.{Operator}
use Rattle.edi_unit.specs.declared.expressions.Operator.TheVariants as op
use Rattle.edi_unit.specs.declared.expressions.Callee.{Callee}
use Rattle.edi_unit.specs.declared.expressions.Callee.TheVariants as callee
use Rattle.edi_unit.specs.declared.units.Parameter.{Parameter}
use Rattle.edi_unit.specs.declared.units.Parameter.TheVariants as slot
use Rattle.edi_unit.specs.Types.{Shape, int, array_of, shape_at, is_set_shape}
use Rattle.edi_unit.specs.Tree.{Expression, constant, load, not_of, sign_of, chain, make, convert, apply_of, Expressions, no_expression, expression_then}
use Rattle.edi_unit.specs.Tree.{Link, link, Links, no_link, link_then, Place, place, Part, field, index, Parts, no_part, part_then, Argument, by_value}
use Rattle.edi_unit.specs.Tree.{by_variable, by_procedure, Arguments, no_argument, argument_then, Act, skip, assign, call, halt, if_act, while_act, when_act}
use Rattle.edi_unit.specs.Tree.{cobegin, Acts, no_act, act_then, Clause, clause, Clauses, no_clause, clause_then, Block}
use Rattle.edi_unit.specs.Need.{block_at, slot_at, slot_type, part_type, operator_type, expression_type}
use Rattle.edi_target.specs.Op as instruction
use Rattle.edi_scheme.specs.Pieces.{code_length, is_branch, variable_code, element_code, operation, decision, check_code, constant_words, row_length}
use Rattle.edi_scheme.specs.Pieces.{ClauseKind, once, repeated, released, close_code}
use Rattle.edi_scheme.specs.Lengths.{call_length, procedure_length, expression_length, expressions_length, members_length, links_length, place_length}
use Rattle.edi_scheme.specs.Lengths.{parts_length, part_length, argument_length, arguments_length, act_length, acts_length, clause_length, clauses_length}
use Rattle.edi_scheme.specs.Lengths.{block_length}
use Rattle.edi_scheme.specs.Code.{entry}
use Rattle.edi_scheme.proofs.Known.{count_of, constants_count}

abbrev mutual
  pub expression_most : Expression → ℕ
  expression_most (constant t n) = 2
  expression_most (load p) = place_most p + 2
  expression_most (not_of e) = expression_most e + 1
  expression_most (sign_of e line) = expression_most e + 2
  expression_most (chain e ls) = expression_most e + links_most ls
  expression_most (make t es line) = 2 + elements_most es
  expression_most (convert t e line) = expression_most e + 4
  expression_most (apply_of c xs line) = arguments_most xs + 5

  -- the parts of a value, where a set joins each member
  pub elements_most : Expressions → ℕ
  elements_most no_expression = 0
  elements_most (expression_then e es) = expression_most e + 2 + elements_most es

  pub link_most : Link → ℕ
  link_most (link o e line) = expression_most e + 3

  pub links_most : Links → ℕ
  links_most no_link = 0
  links_most (link_then l ls) = link_most l + links_most ls

  pub place_most : Place → ℕ
  place_most (place levels v ps) = 5 + parts_most ps

  pub part_most : Part → ℕ
  part_most (field n) = 2
  part_most (index e line) = expression_most e + 5

  pub parts_most : Parts → ℕ
  parts_most no_part = 0
  parts_most (part_then p ps) = part_most p + parts_most ps

  pub argument_most : Argument → ℕ
  argument_most (by_value e) = expression_most e
  argument_most (by_variable p) = place_most p
  argument_most (by_procedure c) = 5

  pub arguments_most : Arguments → ℕ
  arguments_most no_argument = 0
  arguments_most (argument_then x xs) = argument_most x + arguments_most xs

abbrev mutual
  pub act_most : Act → ℕ
  act_most skip = 0
  act_most (assign p e) = place_most p + expression_most e + 2
  act_most (call c xs line) = arguments_most xs + 5
  act_most (halt line) = 2
  act_most (if_act cs) = clauses_most cs
  act_most (while_act cs) = clauses_most cs
  act_most (when_act cs line) = clauses_most cs + 5
  act_most (cobegin bs line) = 3 + 3 * length bs

  pub acts_most : Acts → ℕ
  acts_most no_act = 0
  acts_most (act_then a s) = act_most a + acts_most s

  pub clause_most : Clause → ℕ
  clause_most (clause e s) = expression_most e + 7 + acts_most s

  pub clauses_most : Clauses → ℕ
  clauses_most no_clause = 0
  clauses_most (clause_then c cs) = clause_most c + clauses_most cs

-- all blocks, each with the words in front of its list and behind it
abbrev pub total : List Block → ℕ
total [] = 0
total (b ∷ bs) = acts_most b.body + 9 + total bs

-- ---- single instructions

operator_most : (types : List Shape) (t : ℕ) (o : Operator) (line : ℕ) → code_length (decision o 0) + code_length (operation types t o line) ≤ 3
operator_most types t op.Plus line = omega (arith, go (is_set_shape (shape_at types t))) where
  go : (test : Bool) → code_length (if test then instruction.union ∷ [] else instruction.add line ∷ []) ≤ 2
  go true = omega arith
  go false = omega arith
operator_most types t op.Minus line = omega (arith, go (is_set_shape (shape_at types t))) where
  go : (test : Bool) → code_length (if test then instruction.minus ∷ [] else instruction.sub line ∷ []) ≤ 2
  go true = omega arith
  go false = omega arith
operator_most types t op.Times line = omega (arith, go (is_set_shape (shape_at types t))) where
  go : (test : Bool) → code_length (if test then instruction.meet ∷ [] else instruction.mul line ∷ []) ≤ 2
  go true = omega arith
  go false = omega arith
operator_most types t o line = omega arith

check_most : (s : Shape) (line : ℕ) → code_length (check_code s line) ≤ 4
check_most int line = omega arith
check_most s line = omega arith

element_most : (types : List Shape) (s : Shape) (line : ℕ) → code_length (element_code types s line) ≤ 5
element_most types (array_of i lo hi e) line = omega arith
element_most types s line = omega arith

variable_most : (levels : ℕ) (v : Option Parameter) → code_length (variable_code levels 0 v) ≤ 5
variable_most levels None = omega arith
variable_most levels (Some (slot.Value t)) = omega arith
variable_most levels (Some (slot.Var t)) = omega arith
variable_most levels (Some (slot.Formal r)) = omega arith

call_most : (c : Callee) → call_length c ≤ 5
call_most (callee.Block levels n) = omega arith
call_most (callee.Formal levels v) = omega arith

procedure_most : (c : Callee) → procedure_length c ≤ 5
procedure_most (callee.Block levels n) = omega arith
procedure_most (callee.Formal levels v) = omega arith

close_most : (kind : ClauseKind) (cs : Clauses) → code_length (close_code kind 0 cs) ≤ 4
close_most once no_clause = omega arith
close_most once (clause_then c cs) = omega arith
close_most repeated cs = omega arith
close_most released cs = omega arith

-- ---- constants in a row

count_most : (es : Expressions) → count_of es ≤ elements_most es
count_most no_expression = omega arith
count_most (expression_then e es) = omega (arith, count_most es)

row_most : (o : Option (List ℕ)) (long count n : ℕ) → IfSome o (λ ws. length ws ≡ count) → count ≤ n → long ≤ n → row_length o long ≤ 2 + n
row_most None long count n h few k = omega (arith, k)
row_most (Some ws) long count n h few k = omega (arith, h, few)

made_most : (test : Bool) (a b n : ℕ) → a ≤ n → b ≤ n → (if test then a else b) ≤ n
made_most true a b n h k = h
made_most false a b n h k = k

-- ---- constructs

module _ (types : List Shape) (blocks : List Block) (b : ℕ) where
  mutual
    expression_fits : (e : Expression) → expression_length types blocks b e ≤ expression_most e
    expression_fits (constant t n) = omega arith
    expression_fits (load p) = omega (arith, place_fits p)
    expression_fits (not_of e) = omega (arith, expression_fits e)
    expression_fits (sign_of e line) = omega (arith, expression_fits e)
    expression_fits (chain e ls) = omega (arith, expression_fits e, links_fit (expression_type types blocks b e) ls)
    expression_fits (make t es line) =
        made_most (is_set_shape (shape_at types t)) (2 + members_length types blocks b es)
        (row_length (constant_words es) (expressions_length types blocks b es)) (2 + elements_most es)
        (omega (arith, members_fit es))
        (row_most (constant_words es) (expressions_length types blocks b es) (count_of es) (elements_most es) (constants_count es) (count_most es)
        (expressions_fit es))
    expression_fits (convert t e line) = omega (arith, expression_fits e, check_most (shape_at types t) line)
    expression_fits (apply_of c xs line) = omega (arith, arguments_fit xs, call_most c)

    expressions_fit : (es : Expressions) → expressions_length types blocks b es ≤ elements_most es
    expressions_fit no_expression = omega arith
    expressions_fit (expression_then e es) = omega (arith, expression_fits e, expressions_fit es)

    members_fit : (es : Expressions) → members_length types blocks b es ≤ elements_most es
    members_fit no_expression = omega arith
    members_fit (expression_then e es) = omega (arith, expression_fits e, members_fit es)

    links_fit : (t : ℕ) (ls : Links) → links_length types blocks b t ls ≤ links_most ls
    links_fit t no_link = omega arith
    links_fit t (link_then (link o e line) ls) = omega (arith, expression_fits e, operator_most types t o line, links_fit (operator_type o t) ls)

    place_fits : (p : Place) → place_length types blocks b p ≤ place_most p
    place_fits (place levels v ps) =
        omega (arith, variable_most levels (slot_at blocks b levels v), parts_fit (slot_type (slot_at blocks b levels v)) ps)

    part_fits : (t : ℕ) (p : Part) → part_length types blocks b t p ≤ part_most p
    part_fits t (field n) = omega arith
    part_fits t (index e line) = omega (arith, expression_fits e, element_most types (shape_at types t) line)

    parts_fit : (t : ℕ) (ps : Parts) → parts_length types blocks b t ps ≤ parts_most ps
    parts_fit t no_part = omega arith
    parts_fit t (part_then p ps) = omega (arith, part_fits t p, parts_fit (part_type types t p) ps)

    argument_fits : (x : Argument) → argument_length types blocks b x ≤ argument_most x
    argument_fits (by_value e) = expression_fits e
    argument_fits (by_variable p) = place_fits p
    argument_fits (by_procedure c) = procedure_most c

    arguments_fit : (xs : Arguments) → arguments_length types blocks b xs ≤ arguments_most xs
    arguments_fit no_argument = omega arith
    arguments_fit (argument_then x xs) = omega (arith, argument_fits x, arguments_fit xs)

  mutual
    act_fits : (a : Act) → act_length types blocks b a ≤ act_most a
    act_fits skip = omega arith
    act_fits (assign p e) = omega (arith, place_fits p, expression_fits e)
    act_fits (call c xs line) = omega (arith, arguments_fit xs, call_most c)
    act_fits (halt line) = omega arith
    act_fits (if_act cs) = clauses_fit once cs
    act_fits (while_act cs) = clauses_fit repeated cs
    act_fits (when_act cs line) = omega (arith, clauses_fit released cs)
    act_fits (cobegin bs line) = omega arith

    acts_fit : (s : Acts) → acts_length types blocks b s ≤ acts_most s
    acts_fit no_act = omega arith
    acts_fit (act_then a s) = omega (arith, act_fits a, acts_fit s)

    clause_fits : (c : Clause) → clause_length types blocks b c + 4 ≤ clause_most c
    clause_fits (clause e s) = omega (arith, expression_fits e, acts_fit s)

    clauses_fit : (kind : ClauseKind) (cs : Clauses) → clauses_length types blocks b kind cs ≤ clauses_most cs
    clauses_fit kind no_clause = omega arith
    clauses_fit kind (clause_then c cs) = omega (arith, clause_fits c, close_most kind cs, clauses_fit kind cs)

-- ---- blocks

block_fits : (types : List Shape) (blocks : List Block) (n : ℕ) → block_length types blocks n ≤ acts_most (block_at blocks n).body + 9
block_fits types blocks n =
    let list = acts_fit types blocks n (block_at blocks n).body in
    made_most (is_branch (block_at blocks n).kind) _ _ _ (omega (arith, list)) (omega (arith, list))

-- the first n blocks
abbrev up_to : List Block → ℕ → ℕ
up_to bs zero = 0
up_to [] (suc n) = 0
up_to (b ∷ bs) (suc n) = acts_most b.body + 9 + up_to bs n

one_more : (bs : List Block) (n : ℕ) → n < length bs → up_to bs n + (acts_most (block_at bs n).body + 9) ≤ up_to bs (suc n)
one_more [] n less = absurd (omega (arith, less))
one_more (b ∷ bs) zero less = omega arith
one_more (b ∷ bs) (suc n) less = omega (arith, one_more bs n (omega (arith, less)))

up_to_all : (bs : List Block) → up_to bs (length bs) ≡ total bs
up_to_all [] = refl
up_to_all (b ∷ bs) = omega (arith, up_to_all bs)

entry_fits : (types : List Shape) (blocks : List Block) (n : ℕ) → n ≤ length blocks → entry types blocks n ≤ up_to blocks n
entry_fits types blocks zero less = omega arith
entry_fits types blocks (suc n) less =
    omega (arith, entry_fits types blocks n (omega (arith, less)), block_fits types blocks n, one_more blocks n (omega (arith, less)))

-- the code of all blocks
pub code_fits : (types : List Shape) (blocks : List Block) → entry types blocks (length blocks) ≤ total blocks
code_fits types blocks = omega (arith, entry_fits types blocks (length blocks) (omega arith), up_to_all blocks)
