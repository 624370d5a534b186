-- Words of contracts. How deep a resolved program nests: how many of its expressions and statements stand one inside another, at most. What
-- follows in a list does not nest, nor do the operators of a chain and the steps to a part of a variable. A branch of a
-- `cobegin` is a block of its own.
use Rattle.std.specs.Prelude.{ℕ, suc, max, ◌+◌, ◌*◌, ◌≤◌, All}
use Rattle.edi_tree.specs.Tree.{Program}
use Rattle.edi_tree.specs.Depth.{depth}
use Rattle.edi_unit.specs.Tree.{Expression, constant, load, not_of, sign_of, chain, make, convert, apply_of, Expressions, no_expression, expression_then}
use Rattle.edi_unit.specs.Tree.{Link, link, Links, no_link, link_then, Place, place, Part, field, index, Parts, no_part, part_then, Argument, by_value}
use Rattle.edi_unit.specs.Tree.{by_variable, by_procedure, Arguments, no_argument, argument_then, Act, skip, assign, call, halt, if_act, while_act, when_act}
use Rattle.edi_unit.specs.Tree.{cobegin, Acts, no_act, act_then, Clause, clause, Clauses, no_clause, clause_then, Block, ProgramUnit}
use Rattle.edi_static.specs.Programs.{Resolved}

abbrev mutual
  pub expression_nesting : Expression → ℕ
  expression_nesting (constant of ordinal) = 1
  expression_nesting (load p) = suc (place_nesting p)
  expression_nesting (not_of e) = suc (expression_nesting e)
  expression_nesting (sign_of e line) = suc (expression_nesting e)
  expression_nesting (chain e ls) = suc (max (expression_nesting e) (links_nesting ls))
  expression_nesting (make of es line) = suc (expressions_nesting es)
  expression_nesting (convert of e line) = suc (expression_nesting e)
  expression_nesting (apply_of callee xs line) = suc (arguments_nesting xs)

  pub expressions_nesting : Expressions → ℕ
  expressions_nesting no_expression = 0
  expressions_nesting (expression_then e es) = max (expression_nesting e) (expressions_nesting es)

  pub link_nesting : Link → ℕ
  link_nesting (link operator right line) = expression_nesting right

  pub links_nesting : Links → ℕ
  links_nesting no_link = 0
  links_nesting (link_then l ls) = max (link_nesting l) (links_nesting ls)

  pub place_nesting : Place → ℕ
  place_nesting (place levels variable ps) = parts_nesting ps

  pub part_nesting : Part → ℕ
  part_nesting (field number) = 0
  part_nesting (index e line) = expression_nesting e

  pub parts_nesting : Parts → ℕ
  parts_nesting no_part = 0
  parts_nesting (part_then p ps) = max (part_nesting p) (parts_nesting ps)

  pub argument_nesting : Argument → ℕ
  argument_nesting (by_value e) = expression_nesting e
  argument_nesting (by_variable p) = place_nesting p
  argument_nesting (by_procedure callee) = 0

  pub arguments_nesting : Arguments → ℕ
  arguments_nesting no_argument = 0
  arguments_nesting (argument_then x xs) = max (argument_nesting x) (arguments_nesting xs)

abbrev mutual
  pub act_nesting : Act → ℕ
  act_nesting skip = 1
  act_nesting (assign p e) = suc (max (place_nesting p) (expression_nesting e))
  act_nesting (call callee xs line) = suc (arguments_nesting xs)
  act_nesting (halt line) = 1
  act_nesting (if_act cs) = suc (clauses_nesting cs)
  act_nesting (while_act cs) = suc (clauses_nesting cs)
  act_nesting (when_act cs line) = suc (clauses_nesting cs)
  act_nesting (cobegin branches line) = 1

  pub acts_nesting : Acts → ℕ
  acts_nesting no_act = 0
  acts_nesting (act_then a s) = max (act_nesting a) (acts_nesting s)

  pub clause_nesting : Clause → ℕ
  clause_nesting (clause e s) = max (expression_nesting e) (acts_nesting s)

  pub clauses_nesting : Clauses → ℕ
  clauses_nesting no_clause = 0
  clauses_nesting (clause_then c cs) = max (clause_nesting c) (clauses_nesting cs)

-- a block whose body nests at most so deep
abbrev pub IsShallow : ℕ → Block → Type 0
IsShallow most block = acts_nesting block.body ≤ most

-- The body of each block of a sound program nests at most 5 times as deep as levels are open in the text, and once more.
abbrev pub UnitsAreShallow : Type 0
UnitsAreShallow = (tree : Program) (unit : ProgramUnit) → Resolved tree unit → All (IsShallow (5 * depth tree + 1)) unit.blocks
