-- The code of each construct has as many words as its length says.
use Rattle.std.proofs.Common.{◌≡◌, ℕ, zero, suc, ◌+◌, ◌*◌, List, [], ◌∷◌, Option, Some, None, length, refl, arith}
use Rattle.std.proofs.lemmas.List.{length-map}
use Rattle.std.specs.Prelude.{Bool, true, false, if◌then◌else◌, map}
use Rattle.edi_unit.specs.declared.expressions.Operator.{Operator}
use Rattle.edi_unit.specs.declared.expressions.Operator.TheVariants as op
use Rattle.edi_unit.specs.declared.expressions.Callee.{Callee}
use Rattle.edi_unit.specs.declared.expressions.Callee.TheVariants as callee
use Rattle.edi_unit.specs.declared.units.Parameter.{Parameter}
use Rattle.edi_unit.specs.Types.{Shape, shape_at, is_set_shape}
use Rattle.edi_unit.specs.Tree.{Expression, constant, load, not_of, sign_of, chain, make, convert, apply_of, Expressions, no_expression, expression_then}
use Rattle.edi_unit.specs.Tree.{link, Links, no_link, link_then, Place, place, Part, field, index, Parts, no_part, part_then, Argument, by_value}
use Rattle.edi_unit.specs.Tree.{by_variable, by_procedure, Arguments, no_argument, argument_then, Act, skip, assign, call, halt, if_act, while_act, when_act}
use Rattle.edi_unit.specs.Tree.{cobegin, Acts, no_act, act_then, Clause, clause, Clauses, no_clause, clause_then, Block}
use Rattle.edi_unit.specs.Need.{block_at, slot_at, slot_type, part_type, operator_type, expression_type}
use Rattle.edi_meaning.specs.Step.{is_quiet}
use Rattle.edi_target.specs.Op as instruction
use Rattle.edi_target.specs.Op.{Branch, branch_words}
use Rattle.edi_scheme.specs.Pieces.{Code, code_length, is_branch, entry_of, return_of, variable_code, element_code, operation, decision, check_code}
use Rattle.edi_scheme.specs.Pieces.{constant_words, row_code, row_length, ClauseKind, once, repeated, released, close_code, again_code}
use Rattle.edi_scheme.specs.Lengths.{call_length, procedure_length, expression_length, expressions_length, members_length, links_length, place_length}
use Rattle.edi_scheme.specs.Lengths.{parts_length, part_length, argument_length, arguments_length, act_length, acts_length, clause_length, clauses_length}
use Rattle.edi_scheme.specs.Lengths.{block_length}
use Rattle.edi_scheme.specs.Code.{call_code, procedure_code, expression_code, expressions_code, members_code, links_code, place_code, parts_code, part_code}
use Rattle.edi_scheme.specs.Code.{argument_code, arguments_code, act_code, acts_code, clause_code, clauses_code, entry, block_code, blocks_code}
use Rattle.edi_scheme.proofs.Laid.{Long, long_nothing, long_append, long_then, long_one, long_of, long_is}

-- ---- codes that are as long for any address in them

pub decision_length : (o : Operator) (behind : ℕ) → Long (decision o behind) (code_length (decision o 0))
decision_length op.And behind = record { is = refl }
decision_length o behind = record { is = refl }

pub close_length : (kind : ClauseKind) (target : ℕ) (cs : Clauses) → Long (close_code kind target cs) (code_length (close_code kind 0 cs))
close_length once target no_clause = record { is = refl }
close_length once target (clause_then c cs) = record { is = refl }
close_length repeated target cs = record { is = refl }
close_length released target cs = record { is = refl }

pub again_length : (quiet : Bool) (target : ℕ) → Long (again_code quiet target) 3
again_length true target = record { is = refl }
again_length false target = record { is = refl }

pub variable_length : (levels at : ℕ) (v : Option Parameter) → Long (variable_code levels at v) (code_length (variable_code levels 0 v))
variable_length levels at v = record { is = refl }

pub row_is_long : (ws : Option (List ℕ)) {parts : Code} {n : ℕ} → Long parts n → Long (row_code ws parts) (row_length ws n)
row_is_long (Some ws) h = long_is (omega arith) (long_one (instruction.text ws))
row_is_long None h = h

pub branches_length : (bs : List Branch) → length (branch_words bs) ≡ 3 * length bs
branches_length [] = refl
branches_length (b ∷ bs) = omega (arith, branches_length bs)

pub chosen_length : (test : Bool) {a b : Code} {m n : ℕ} → Long a m → Long b n → Long (if test then a else b) (if test then m else n)
chosen_length true g h = g
chosen_length false g h = h

-- ---- the constructs

module _ (types : List Shape) (blocks : List Block) (entry : ℕ → ℕ) (b : ℕ) where
  pub call_is_long : (c : Callee) (line : ℕ) → Long (call_code types blocks entry b c line) (call_length c)
  call_is_long (callee.Block levels n) line = record { is = refl }
  call_is_long (callee.Formal levels v) line = record { is = refl }

  pub procedure_is_long : (c : Callee) → Long (procedure_code types blocks entry b c) (procedure_length c)
  procedure_is_long (callee.Block levels n) = record { is = refl }
  procedure_is_long (callee.Formal levels v) = record { is = refl }

  mutual
    pub expression_is_long : (e : Expression) (at : ℕ) → Long (expression_code types blocks entry b at e) (expression_length types blocks b e)
    expression_is_long (constant t n) at = long_one (instruction.const _)
    expression_is_long (load p) at = long_append (place_is_long p at) (long_one (instruction.load _))
    expression_is_long (not_of e) at = long_append (expression_is_long e at) (long_one instruction.not_)
    expression_is_long (sign_of e line) at = long_append (expression_is_long e at) (long_one (instruction.neg line))
    expression_is_long (chain e ls) at = long_append (expression_is_long e at) (links_are_long (expression_type types blocks b e) ls _)
    expression_is_long (make t es line) at =
        chosen_length (is_set_shape (shape_at types t)) (long_then (instruction.zeros 8) (members_are_long line es (at + 2)))
        (row_is_long (constant_words es) (expressions_are_long es at))
    expression_is_long (convert t e line) at = long_append (expression_is_long e at) (long_of (check_code (shape_at types t) line))
    expression_is_long (apply_of c xs line) at = long_append (arguments_are_long xs at) (call_is_long c line)

    pub expressions_are_long : (es : Expressions) (at : ℕ) → Long (expressions_code types blocks entry b at es) (expressions_length types blocks b es)
    expressions_are_long no_expression at = long_nothing
    expressions_are_long (expression_then e es) at = long_append (expression_is_long e at) (expressions_are_long es _)

    pub members_are_long : (line : ℕ) (es : Expressions) (at : ℕ) → Long (members_code types blocks entry b at line es) (members_length types blocks b es)
    members_are_long line no_expression at = long_nothing
    members_are_long line (expression_then e es) at =
        long_is (omega arith) (long_append (expression_is_long e at) (long_then (instruction.member line) (members_are_long line es _)))

    pub links_are_long : (t : ℕ) (ls : Links) (at : ℕ) → Long (links_code types blocks entry b at t ls) (links_length types blocks b t ls)
    links_are_long t no_link at = long_nothing
    links_are_long t (link_then (link o e line) ls) at =
        long_is (omega arith)
        (long_append (decision_length o _)
        (long_append (expression_is_long e _)
        (long_append (long_of (operation types t o line)) (links_are_long (operator_type o t) ls _))))

    pub place_is_long : (p : Place) (at : ℕ) → Long (place_code types blocks entry b at p) (place_length types blocks b p)
    place_is_long (place levels v ps) at =
        long_append (variable_length levels _ (slot_at blocks b levels v)) (parts_are_long (slot_type (slot_at blocks b levels v)) ps _)

    pub parts_are_long : (t : ℕ) (ps : Parts) (at : ℕ) → Long (parts_code types blocks entry b at t ps) (parts_length types blocks b t ps)
    parts_are_long t no_part at = long_nothing
    parts_are_long t (part_then p ps) at = long_append (part_is_long t p at) (parts_are_long (part_type types t p) ps _)

    pub part_is_long : (t : ℕ) (p : Part) (at : ℕ) → Long (part_code types blocks entry b at t p) (part_length types blocks b t p)
    part_is_long t (field n) at = long_one (instruction.field _)
    part_is_long t (index e line) at = long_append (expression_is_long e at) (long_of (element_code types (shape_at types t) line))

    pub argument_is_long : (x : Argument) (at : ℕ) → Long (argument_code types blocks entry b at x) (argument_length types blocks b x)
    argument_is_long (by_value e) at = expression_is_long e at
    argument_is_long (by_variable p) at = place_is_long p at
    argument_is_long (by_procedure c) at = procedure_is_long c

    pub arguments_are_long : (xs : Arguments) (at : ℕ) → Long (arguments_code types blocks entry b at xs) (arguments_length types blocks b xs)
    arguments_are_long no_argument at = long_nothing
    arguments_are_long (argument_then x xs) at = long_append (argument_is_long x at) (arguments_are_long xs _)

  mutual
    pub act_is_long : (a : Act) (at : ℕ) → Long (act_code types blocks entry b at a) (act_length types blocks b a)
    act_is_long skip at = long_nothing
    act_is_long (assign p e) at =
        long_is (omega arith)
        (long_append (place_is_long p at) (long_append (expression_is_long e _) (long_one (instruction.store _))))
    act_is_long (call c xs line) at = long_append (arguments_are_long xs at) (call_is_long c line)
    act_is_long (halt line) at = long_one (instruction.halt line)
    act_is_long (if_act cs) at = clauses_are_long once cs _ at
    act_is_long (while_act cs) at = clauses_are_long repeated cs at at
    act_is_long (when_act cs line) at =
        long_is (omega arith) (long_then (instruction.when line) (long_append (clauses_are_long released cs _ _) (again_length (is_quiet cs) _)))
    act_is_long (cobegin bs line) at =
        let branch : ℕ → Branch = λ n. record { need = (block_at blocks n).need; address = entry n } in
        long_is (omega (arith, branches_length (map branch bs), length-map bs branch)) (long_one (instruction.cobegin line (map branch bs)))

    pub acts_are_long : (s : Acts) (at : ℕ) → Long (acts_code types blocks entry b at s) (acts_length types blocks b s)
    acts_are_long no_act at = long_nothing
    acts_are_long (act_then a s) at = long_append (act_is_long a at) (acts_are_long s _)

    pub clause_is_long : (c : Clause) (next at : ℕ) → Long (clause_code types blocks entry b at next c) (clause_length types blocks b c)
    clause_is_long (clause e s) next at =
        long_is (omega arith) (long_append (expression_is_long e at) (long_then (instruction.false_ next) (acts_are_long s _)))

    pub clauses_are_long : (kind : ClauseKind) (cs : Clauses) (target at : ℕ) → Long (clauses_code types blocks entry b kind target at cs)
        (clauses_length types blocks b kind cs)
    clauses_are_long kind no_clause target at = long_nothing
    clauses_are_long kind (clause_then c cs) target at =
        long_is (omega arith) (long_append (clause_is_long c _ at) (long_append (close_length kind target cs) (clauses_are_long kind cs target _)))

-- ---- blocks

pub block_is_long : (types : List Shape) (blocks : List Block) (at n : ℕ) → Long (block_code types blocks at n) (block_length types blocks n)
block_is_long types blocks at n =
    chosen_length (is_branch (block_at blocks n).kind)
    (long_append (acts_are_long types blocks (entry types blocks) n (block_at blocks n).body at) (long_one instruction.exit))
    (long_is (omega arith) (long_then (entry_of types (block_at blocks n))
    (long_append (acts_are_long types blocks (entry types blocks) n (block_at blocks n).body (at + 6)) (long_one (return_of types (block_at blocks n))))))

pub blocks_are_long : (types : List Shape) (blocks : List Block) (n : ℕ) → Long (blocks_code types blocks n) (entry types blocks n)
blocks_are_long types blocks zero = long_nothing
blocks_are_long types blocks (suc n) = long_append (blocks_are_long types blocks n) (block_is_long types blocks (entry types blocks n) n)
