-- In a list of statements each JUMP and each LOOP leads into the list, or to the address behind it.
use Rattle.std.proofs.Common.{ℕ, ◌+◌, ◌≤◌, Bool, true, false, if◌then◌else◌, List, [], ◌∷◌, ◌++◌, Option, Some, None, arith}
use Rattle.std.specs.Prelude.{⊤}
use Rattle.edi_unit.specs.declared.expressions.Callee.{Callee}
use Rattle.edi_unit.specs.declared.expressions.Callee.TheVariants as callee
use Rattle.edi_unit.specs.declared.expressions.Operator.{Operator}
use Rattle.edi_unit.specs.declared.expressions.Operator.TheVariants as op
use Rattle.edi_unit.specs.declared.units.Parameter.{Parameter}
use Rattle.edi_unit.specs.Types.{Shape, char, bool, enumeration, array_of, shape_at, is_set_shape}
use Rattle.edi_unit.specs.Tree.{Expression, constant, load, not_of, sign_of, chain, make, convert, apply_of, Expressions, no_expression, expression_then}
use Rattle.edi_unit.specs.Tree.{link, Links, no_link, link_then, Place, place, Part, field, index, Parts, no_part, part_then, by_value, by_variable}
use Rattle.edi_unit.specs.Tree.{by_procedure, Arguments, no_argument, argument_then, Act, skip, assign, call, halt, if_act, while_act, when_act, cobegin}
use Rattle.edi_unit.specs.Tree.{Acts, no_act, act_then, Clause, clause, Clauses, no_clause, clause_then, Block}
use Rattle.edi_unit.specs.Need.{slot_at, slot_type, part_type, operator_type, expression_type}
use Rattle.edi_meaning.specs.Step.{is_quiet}
use Rattle.edi_target.specs.Op.{Instruction, jump, loop}
use Rattle.edi_scheme.specs.Pieces.{Code, is_address, variable_code, element_code, on_sets, operation, decision, check_code, constant_words, row_code}
use Rattle.edi_scheme.specs.Pieces.{ClauseKind, once, repeated, released, close_code, again_code}
use Rattle.edi_scheme.specs.Code.{call_code, procedure_code, expression_code, expressions_code, members_code, links_code, place_code, parts_code, part_code}
use Rattle.edi_scheme.specs.Code.{arguments_code, act_code, acts_code, clause_code, clauses_code}
use Rattle.edi_scheme.specs.Lengths.{acts_length, act_length, clause_length, clauses_length}

abbrev pub StaysIn : (low high : ℕ) → Instruction → Type 0
StaysIn low high (jump target) = (low ≤ target) × (target ≤ high)
StaysIn low high (loop target) = (low ≤ target) × (target ≤ high)
StaysIn low high i = ⊤

pub data AllStay (low high : ℕ) : Code → Type 0 where
  none : AllStay low high []
  one_then : {i : Instruction} {code : Code} → StaysIn low high i → AllStay low high code → AllStay low high (i ∷ code)

module _ (low high : ℕ) where
  joined : {a b : Code} → AllStay low high a → AllStay low high b → AllStay low high (a ++ b)
  joined none h = h
  joined (one_then g gs) h = one_then g (joined gs h)

  one : {i : Instruction} → StaysIn low high i → AllStay low high (i ∷ [])
  one g = one_then g none

  either : (test : Bool) {a b : Code} → AllStay low high a → AllStay low high b → AllStay low high (if test then a else b)
  either true g h = g
  either false g h = h

  -- ---- single instructions

  variable_in : (levels at : ℕ) (v : Option Parameter) → AllStay low high (variable_code levels at v)
  variable_in levels at v = one_then tt (either (is_address v) (one tt) none)

  element_in : (types : List Shape) (s : Shape) (line : ℕ) → AllStay low high (element_code types s line)
  element_in types (array_of i lo hi e) line = one tt
  element_in types s line = none

  sets_in : (types : List Shape) (t : ℕ) (s i : Instruction) → StaysIn low high s → StaysIn low high i → AllStay low high (on_sets types t s i)
  sets_in types t s i g h = either (is_set_shape (shape_at types t)) (one g) (one h)

  operation_in : (types : List Shape) (t : ℕ) (o : Operator) (line : ℕ) → AllStay low high (operation types t o line)
  operation_in types t op.Plus line = sets_in types t _ _ tt tt
  operation_in types t op.Minus line = sets_in types t _ _ tt tt
  operation_in types t op.Times line = sets_in types t _ _ tt tt
  operation_in types t op.And line = none
  operation_in types t op.Or line = none
  operation_in types t o line = one tt

  decision_in : (o : Operator) (behind : ℕ) → AllStay low high (decision o behind)
  decision_in op.And behind = one tt
  decision_in op.Or behind = one tt
  decision_in o behind = none

  check_in : (s : Shape) (line : ℕ) → AllStay low high (check_code s line)
  check_in char line = one tt
  check_in bool line = one tt
  check_in (enumeration n) line = one tt
  check_in s line = none

  row_in : (ws : Option (List ℕ)) {code : Code} → AllStay low high code → AllStay low high (row_code ws code)
  row_in None h = h
  row_in (Some ws) h = one tt

  close_in : (kind : ClauseKind) (target : ℕ) (cs : Clauses) → low ≤ target → target ≤ high → AllStay low high (close_code kind target cs)
  close_in once target no_clause l h = none
  close_in once target (clause_then c cs) l h = one (l, h)
  close_in repeated target cs l h = one (l, h)
  close_in released target cs l h = one_then tt (one (l, h))

  again_in : (quiet : Bool) (target : ℕ) → AllStay low high (again_code quiet target)
  again_in true target = one tt
  again_in false target = one tt

  -- ---- the constructs of a block

  module _ (types : List Shape) (blocks : List Block) (entry : ℕ → ℕ) (b : ℕ) where
    call_in : (c : Callee) (line : ℕ) → AllStay low high (call_code types blocks entry b c line)
    call_in (callee.Block levels n) line = one tt
    call_in (callee.Formal levels v) line = one tt

    procedure_in : (c : Callee) → AllStay low high (procedure_code types blocks entry b c)
    procedure_in (callee.Block levels n) = one tt
    procedure_in (callee.Formal levels v) = one_then tt (one tt)

    mutual
      expression_in : (e : Expression) (at : ℕ) → AllStay low high (expression_code types blocks entry b at e)
      expression_in (constant t n) at = one tt
      expression_in (load p) at = joined (place_in p at) (one tt)
      expression_in (not_of e) at = joined (expression_in e at) (one tt)
      expression_in (sign_of e line) at = joined (expression_in e at) (one tt)
      expression_in (chain e ls) at = joined (expression_in e at) (links_in (expression_type types blocks b e) ls _)
      expression_in (make t es line) at =
          either (is_set_shape (shape_at types t)) (one_then tt (members_in line es (at + 2))) (row_in (constant_words es) (expressions_in es at))
      expression_in (convert t e line) at = joined (expression_in e at) (check_in (shape_at types t) line)
      expression_in (apply_of c xs line) at = joined (arguments_in xs at) (call_in c line)

      expressions_in : (es : Expressions) (at : ℕ) → AllStay low high (expressions_code types blocks entry b at es)
      expressions_in no_expression at = none
      expressions_in (expression_then e es) at = joined (expression_in e at) (expressions_in es _)

      members_in : (line : ℕ) (es : Expressions) (at : ℕ) → AllStay low high (members_code types blocks entry b at line es)
      members_in line no_expression at = none
      members_in line (expression_then e es) at = joined (expression_in e at) (one_then tt (members_in line es _))

      links_in : (t : ℕ) (ls : Links) (at : ℕ) → AllStay low high (links_code types blocks entry b at t ls)
      links_in t no_link at = none
      links_in t (link_then (link o e line) ls) at =
          joined (decision_in o _) (joined (expression_in e _) (joined (operation_in types t o line) (links_in (operator_type o t) ls _)))

      place_in : (p : Place) (at : ℕ) → AllStay low high (place_code types blocks entry b at p)
      place_in (place levels v ps) at = joined (variable_in levels _ (slot_at blocks b levels v)) (parts_in (slot_type (slot_at blocks b levels v)) ps _)

      parts_in : (t : ℕ) (ps : Parts) (at : ℕ) → AllStay low high (parts_code types blocks entry b at t ps)
      parts_in t no_part at = none
      parts_in t (part_then p ps) at = joined (part_in t p at) (parts_in (part_type types t p) ps _)

      part_in : (t : ℕ) (p : Part) (at : ℕ) → AllStay low high (part_code types blocks entry b at t p)
      part_in t (field n) at = one tt
      part_in t (index e line) at = joined (expression_in e at) (element_in types (shape_at types t) line)

      arguments_in : (xs : Arguments) (at : ℕ) → AllStay low high (arguments_code types blocks entry b at xs)
      arguments_in no_argument at = none
      arguments_in (argument_then (by_value e) xs) at = joined (expression_in e at) (arguments_in xs _)
      arguments_in (argument_then (by_variable p) xs) at = joined (place_in p at) (arguments_in xs _)
      arguments_in (argument_then (by_procedure c) xs) at = joined (procedure_in c) (arguments_in xs _)

    mutual
      act_in : (s : Act) (at : ℕ) → low ≤ at → at + act_length types blocks b s ≤ high → AllStay low high (act_code types blocks entry b at s)
      act_in skip at l h = none
      act_in (assign p e) at l h = joined (place_in p at) (joined (expression_in e _) (one tt))
      act_in (call c xs line) at l h = joined (arguments_in xs at) (call_in c line)
      act_in (halt line) at l h = one tt
      act_in (if_act cs) at l h = clauses_in once cs _ at (omega (arith, l)) h l h
      act_in (while_act cs) at l h = clauses_in repeated cs at at l (omega (arith, h)) l h
      act_in (when_act cs line) at l h =
          one_then tt
          (joined (clauses_in released cs _ _ (omega (arith, l)) (omega (arith, h)) (omega (arith, l)) (omega (arith, h))) (again_in (is_quiet cs) _))
      act_in (cobegin bs line) at l h = one tt

      pub acts_in : (s : Acts) (at : ℕ) → low ≤ at → at + acts_length types blocks b s ≤ high → AllStay low high (acts_code types blocks entry b at s)
      acts_in no_act at l h = none
      acts_in (act_then s ss) at l h = joined (act_in s at l (omega (arith, h))) (acts_in ss _ (omega (arith, l)) (omega (arith, h)))

      clause_in : (c : Clause) (next at : ℕ) → low ≤ at → at + clause_length types blocks b c ≤ high
          → AllStay low high (clause_code types blocks entry b at next c)
      clause_in (clause e s) next at l h = joined (expression_in e at) (one_then tt (acts_in s _ (omega (arith, l)) (omega (arith, h))))

      clauses_in : (kind : ClauseKind) (cs : Clauses) (target at : ℕ) → low ≤ target → target ≤ high → low ≤ at → at + clauses_length types blocks b kind cs ≤ high
          → AllStay low high (clauses_code types blocks entry b kind target at cs)
      clauses_in kind no_clause target at f t l h = none
      clauses_in kind (clause_then c cs) target at f t l h =
          joined (clause_in c _ at l (omega (arith, h)))
          (joined (close_in kind target cs f t) (clauses_in kind cs target _ f t (omega (arith, l)) (omega (arith, h))))
