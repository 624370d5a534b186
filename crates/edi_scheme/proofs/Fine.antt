-- Each instruction of the code of a unit that fits has operands that are allowed.
use Rattle.std.proofs.Common.{◌≡◌, ℕ, zero, suc, ◌+◌, ◌-◌, ◌^◌, ◌<◌, ◌≤◌, pos, Bool, true, false, ◌&&◌, nat_le, nat_lt, if◌then◌else◌, List, [], ◌∷◌, length}
use Rattle.std.proofs.Common.{map, All, Option, Some, None, IfSome, refl, arith}
use Rattle.std.specs.List.{list_all}
use Rattle.std.proofs.lemmas.Bool.{false≢true, le-leb, lt-ltb}
use Rattle.std.proofs.lemmas.List.{length-map}
use Rattle.edi_unit.specs.declared.expressions.Operator.{Operator}
use Rattle.edi_unit.specs.declared.expressions.Operator.TheVariants as op
use Rattle.edi_unit.specs.declared.expressions.Callee.{Callee}
use Rattle.edi_unit.specs.declared.expressions.Callee.TheVariants as callee
use Rattle.edi_unit.specs.declared.units.Parameter.{Parameter}
use Rattle.edi_unit.specs.Types.{Shape, int, char, bool, enumeration, record_of, array_of, set_of, shape_at, is_set_shape, size, greatest_size}
use Rattle.edi_unit.specs.TypeTables.{named_types}
use Rattle.edi_unit.specs.TypeTables.{IsTypeTable, HasOrderedBounds}
use Rattle.edi_unit.specs.Tree.{Expression, constant, load, not_of, sign_of, chain, make, convert, apply_of, Expressions, no_expression, expression_then}
use Rattle.edi_unit.specs.Tree.{link, Links, no_link, link_then, Place, place, Part, field, index, Parts, no_part, part_then, by_value, by_variable}
use Rattle.edi_unit.specs.Tree.{by_procedure, Arguments, no_argument, argument_then, Act, skip, assign, call, halt, if_act, while_act, when_act, cobegin}
use Rattle.edi_unit.specs.Tree.{Acts, no_act, act_then, Clause, clause, Clauses, no_clause, clause_then, Block}
use Rattle.edi_unit.specs.Need.{block_at, slot_at, slot_type, part_type, operator_type, place_type, expression_type}
use Rattle.edi_unit.specs.Fits.{ShapesFit, ShapeFits, CalleeFits, ExpressionFits}
use Rattle.edi_unit.specs.Headings.{Heading, Formals, no_formal, value_then, variable_then, procedure_then}
use Rattle.edi_unit.specs.Fits.{ExpressionsFit, LinksFit, PlaceFits, PartFits, PartsFit, ArgumentsFit, BranchFits, ActFits, ActsFit, ClauseFits, ClausesFit}
use Rattle.edi_unit.specs.Fits.{BlockFits}
use Rattle.edi_meaning.specs.Step.{is_quiet}
use Rattle.edi_target.specs.Op.{Instruction, Branch, has_frame, is_count, is_integer}
use Rattle.edi_scheme.specs.Pieces.{Code, is_branch, is_address, function_flag, entry_of, variable_code, element_code, on_sets, operation, decision}
use Rattle.edi_scheme.specs.Pieces.{check_code, constant_words, row_code, ClauseKind, once, repeated, released, close_code, again_code}
use Rattle.edi_scheme.specs.Laws.{HaveParts}
use Rattle.edi_scheme.specs.Code.{call_code, procedure_code, expression_code, expressions_code, members_code, links_code, place_code, parts_code, part_code}
use Rattle.edi_scheme.specs.Code.{arguments_code, act_code, acts_code, clause_code, clauses_code, entry, block_code, blocks_code}
use Rattle.edi_scheme.proofs.Laid.{Allowed, AreAllowed, none, one_then, allowed_append, allowed_one}
use Rattle.edi_scheme.proofs.Known as known
use Rattle.edi_scheme.proofs.Known.{ordinal_integer}

-- ---- single instructions

-- both tests hold
both : (a b : Bool) → a ≡ true → b ≡ true → (a && b) ≡ true
both true b g h = h
both false b g h = absurd (false≢true g)

count_allowed : (n : ℕ) → 1 ≤ n → n < 2 ^ 16 → is_count n ≡ true
count_allowed n g h = both (nat_le 1 n) (nat_lt n (2 ^ 16)) (le-leb 1 n g) (lt-ltb n (2 ^ 16) h)

-- one of two codes
either_allowed : (test : Bool) {a b : Code} → (test ≡ true → AreAllowed a) → (test ≡ false → AreAllowed b) → AreAllowed (if test then a else b)
either_allowed true g h = g refl
either_allowed false g h = h refl

variable_allowed : (levels at : ℕ) (v : Option Parameter) → levels ≤ 64 → AreAllowed (variable_code levels at v)
variable_allowed levels at v h =
    one_then (record { operands = le-leb levels 64 h; integers = refl })
    (either_allowed (is_address v) (λ e. allowed_one (record { operands = refl; integers = refl })) (λ e. none))

decision_allowed : (o : Operator) (behind : ℕ) → AreAllowed (decision o behind)
decision_allowed op.And behind = allowed_one (record { operands = refl; integers = refl })
decision_allowed op.Or behind = allowed_one (record { operands = refl; integers = refl })
decision_allowed o behind = none

sets_allowed : (types : List Shape) (t : ℕ) (s i : Instruction) → Allowed s → Allowed i → AreAllowed (on_sets types t s i)
sets_allowed types t s i g h = either_allowed (is_set_shape (shape_at types t)) (λ e. allowed_one g) (λ e. allowed_one h)

operation_allowed : (types : List Shape) (t : ℕ) (o : Operator) (line : ℕ) → 1 ≤ size types t → AreAllowed (operation types t o line)
operation_allowed types t op.Equal line h = allowed_one (record { operands = le-leb 1 (size types t) h; integers = refl })
operation_allowed types t op.NotEqual line h = allowed_one (record { operands = le-leb 1 (size types t) h; integers = refl })
operation_allowed types t op.Less line h = allowed_one (record { operands = refl; integers = refl })
operation_allowed types t op.LessOrEqual line h = allowed_one (record { operands = refl; integers = refl })
operation_allowed types t op.Greater line h = allowed_one (record { operands = refl; integers = refl })
operation_allowed types t op.GreaterOrEqual line h = allowed_one (record { operands = refl; integers = refl })
operation_allowed types t op.In line h = allowed_one (record { operands = refl; integers = refl })
operation_allowed types t op.Plus line h = sets_allowed types t _ _ (record { operands = refl; integers = refl }) (record { operands = refl; integers = refl })
operation_allowed types t op.Minus line h = sets_allowed types t _ _ (record { operands = refl; integers = refl }) (record { operands = refl; integers = refl })
operation_allowed types t op.Times line h = sets_allowed types t _ _ (record { operands = refl; integers = refl }) (record { operands = refl; integers = refl })
operation_allowed types t op.Div line h = allowed_one (record { operands = refl; integers = refl })
operation_allowed types t op.Mod line h = allowed_one (record { operands = refl; integers = refl })
operation_allowed types t op.And line h = none
operation_allowed types t op.Or line h = none

last_integer : (n : ℕ) → n ≤ 32768 → is_integer (pos (n - 1)) ≡ true
last_integer n h = lt-ltb (n - 1) (2 ^ 15) (omega (arith, h))

check_allowed : (types : List Shape) (s : Shape) (line : ℕ) → ShapeFits types s → AreAllowed (check_code s line)
check_allowed types int line h = none
check_allowed types char line h = allowed_one (record { operands = refl; integers = refl })
check_allowed types bool line h = allowed_one (record { operands = refl; integers = refl })
check_allowed types (enumeration n) line h = allowed_one (record { operands = refl; integers = both true _ refl (last_integer n h.1) })
check_allowed types (record_of fs) line h = none
check_allowed types (array_of i lo hi e) line h = none
check_allowed types (set_of t) line h = none

close_allowed : (kind : ClauseKind) (target : ℕ) (cs : Clauses) → AreAllowed (close_code kind target cs)
close_allowed once target no_clause = none
close_allowed once target (clause_then c cs) = allowed_one (record { operands = refl; integers = refl })
close_allowed repeated target cs = allowed_one (record { operands = refl; integers = refl })
close_allowed released target cs = one_then (record { operands = refl; integers = refl }) (allowed_one (record { operands = refl; integers = refl }))

again_allowed : (quiet : Bool) (target : ℕ) → AreAllowed (again_code quiet target)
again_allowed true target = allowed_one (record { operands = refl; integers = refl })
again_allowed false target = allowed_one (record { operands = refl; integers = refl })

-- ---- the constructs of a block

module _ (types : List Shape) (table : IsTypeTable types) (parts : HaveParts types) (shapes : ShapesFit types) (blocks : List Block)
    (headings : ℕ → ℕ → Heading) (each : (n : ℕ) → n < length blocks → BlockFits types blocks headings n) (entry : ℕ → ℕ) where
  needs_frame : (n : ℕ) → n < length blocks → 5 ≤ (block_at blocks n).need
  needs_frame n h = let is = (each n h).needs in omega (arith, is)

  module _ (b : ℕ) (inside : b < length blocks) where
    -- the bounds of an array are ordinals of its index type, which is one of the table
    element_allowed : (s : Shape) (line : ℕ) → HasOrderedBounds s → ShapeFits types s → All (λ u. u < length types) (named_types s)
        → AreAllowed (element_code types s line)
    element_allowed int line o f k = none
    element_allowed char line o f k = none
    element_allowed bool line o f k = none
    element_allowed (enumeration n) line o f k = none
    element_allowed (record_of fs) line o f k = none
    element_allowed (set_of t) line o f k = none
    element_allowed (array_of i lo hi e) line o f k =
        let of = shapes i (k 0 0 (omega arith)) in
        allowed_one (record {
          operands = grind (arith, o);
          integers = both (is_integer lo) (is_integer hi) (ordinal_integer types (shape_at types i) lo of f.0)
              (ordinal_integer types (shape_at types i) hi of f.1);
        })

    call_allowed : (c : Callee) (line : ℕ) → CalleeFits blocks b c → AreAllowed (call_code types blocks entry b c line)
    call_allowed (callee.Block levels n) line h = allowed_one (record { operands = le-leb levels 64 h.0; integers = refl })
    call_allowed (callee.Formal levels v) line h = allowed_one (record { operands = le-leb levels 64 h.0; integers = refl })

    procedure_allowed : (c : Callee) → CalleeFits blocks b c → AreAllowed (procedure_code types blocks entry b c)
    procedure_allowed (callee.Block levels n) h = allowed_one (record { operands = le-leb levels 64 h.0; integers = refl })
    procedure_allowed (callee.Formal levels v) h = one_then (record { operands = le-leb levels 64 h.0; integers = refl })
        (allowed_one (record { operands = refl; integers = refl }))

    positive : (t : ℕ) → t < length types → 1 ≤ size types t
    positive = known.size_positive types table parts

    known_place : (p : Place) → PlaceFits types blocks headings b p → place_type types blocks b p < length types
    known_place = known.place_known types table parts blocks headings each b inside

    known_expression : (e : Expression) → ExpressionFits types blocks headings b e → expression_type types blocks b e < length types
    known_expression = known.expression_known types table parts blocks headings each b inside

    row_allowed : (ws : Option (List ℕ)) (code : Code) (n : ℕ) → (n ≤ greatest_size) → 1 ≤ n → IfSome ws (λ ws. length ws ≡ n) → AreAllowed code
        → AreAllowed (row_code ws code)
    row_allowed None code n small some long h = h
    row_allowed (Some ws) code n small some long h =
        allowed_one (record { operands = count_allowed (length ws) (omega (arith, some, long)) (omega (arith, small, long)); integers = refl })

    mutual
      expression_allowed : (e : Expression) (at : ℕ) → ExpressionFits types blocks headings b e → AreAllowed (expression_code types blocks entry b at e)
      expression_allowed (constant t n) at h = allowed_one (record { operands = refl; integers = refl })
      expression_allowed (load p) at h =
          allowed_append (place_allowed p at h)
          (allowed_one (record { operands = le-leb 1 _ (positive _ (known_place p h)); integers = refl }))
      expression_allowed (not_of e) at h = allowed_append (expression_allowed e at h.1) (allowed_one (record { operands = refl; integers = refl }))
      expression_allowed (sign_of e line) at h = allowed_append (expression_allowed e at h.1) (allowed_one (record { operands = refl; integers = refl }))
      expression_allowed (chain e ls) at h =
          allowed_append (expression_allowed e at h.1) (links_allowed (expression_type types blocks b e) ls _ (known_expression e h.1) h.2)
      expression_allowed (make t es line) at h =
          either_allowed (is_set_shape (shape_at types t))
          (λ q. one_then (record { operands = refl; integers = refl }) (members_allowed line es (at + 2) h.2))
          (λ q.
          let n = known.parts_count types table parts blocks headings each b inside t es h.0 q h.1 in
          row_allowed (constant_words es) _ _ n.1 n.0 (known.constants_count es) (expressions_allowed es at h.2))
      expression_allowed (convert t e line) at h = allowed_append (expression_allowed e at h.3) (check_allowed types (shape_at types t) line (shapes t h.0))
      expression_allowed (apply_of c xs line) at h = allowed_append (arguments_allowed xs _ at h.2) (call_allowed c line h.0)

      expressions_allowed : (es : Expressions) (at : ℕ) → ExpressionsFit types blocks headings b es → AreAllowed (expressions_code types blocks entry b at es)
      expressions_allowed no_expression at h = none
      expressions_allowed (expression_then e es) at h = allowed_append (expression_allowed e at h.0) (expressions_allowed es _ h.1)

      members_allowed : (line : ℕ) (es : Expressions) (at : ℕ) → ExpressionsFit types blocks headings b es
          → AreAllowed (members_code types blocks entry b at line es)
      members_allowed line no_expression at h = none
      members_allowed line (expression_then e es) at h =
          allowed_append (expression_allowed e at h.0) (one_then (record { operands = refl; integers = refl }) (members_allowed line es _ h.1))

      links_allowed : (t : ℕ) (ls : Links) (at : ℕ) → t < length types → LinksFit types blocks headings b t ls
          → AreAllowed (links_code types blocks entry b at t ls)
      links_allowed t no_link at k h = none
      links_allowed t (link_then (link o e line) ls) at k h =
          allowed_append (decision_allowed o _)
          (allowed_append (expression_allowed e _ h.1)
          (allowed_append (operation_allowed types t o line (positive t k))
          (links_allowed (operator_type o t) ls _ (known.operator_known types table parts o t k) h.2)))

      place_allowed : (p : Place) (at : ℕ) → PlaceFits types blocks headings b p → AreAllowed (place_code types blocks entry b at p)
      place_allowed (place levels v ps) at h =
          allowed_append (variable_allowed levels _ (slot_at blocks b levels v) h.0)
          (parts_allowed (slot_type (slot_at blocks b levels v)) ps _ (known.root_known types table parts blocks headings each b inside levels v h.1) h.2)

      parts_allowed : (t : ℕ) (ps : Parts) (at : ℕ) → t < length types → PartsFit types blocks headings b t ps
          → AreAllowed (parts_code types blocks entry b at t ps)
      parts_allowed t no_part at k h = none
      parts_allowed t (part_then p ps) at k h =
          allowed_append (part_allowed t p at k h.0)
          (parts_allowed (part_type types t p) ps _ (known.part_known types table parts blocks headings each b inside t p k) h.1)

      part_allowed : (t : ℕ) (p : Part) (at : ℕ) → t < length types → PartFits types blocks headings b t p → AreAllowed (part_code types blocks entry b at t p)
      part_allowed t (field n) at k h = allowed_one (record { operands = refl; integers = refl })
      part_allowed t (index e line) at k h =
          allowed_append (expression_allowed e at h.1)
          (element_allowed (shape_at types t) line (table.declared t k).ordered (shapes t k) (known.names_known types table parts t k))

      arguments_allowed : (xs : Arguments) (fs : Formals) (at : ℕ) → ArgumentsFit types blocks headings b xs fs
          → AreAllowed (arguments_code types blocks entry b at xs)
      arguments_allowed no_argument fs at h = none
      arguments_allowed (argument_then (by_value e) xs) (value_then t fs) at h = allowed_append (expression_allowed e at h.1) (arguments_allowed xs fs _ h.2)
      arguments_allowed (argument_then (by_variable p) xs) (variable_then t fs) at h = allowed_append (place_allowed p at h.1) (arguments_allowed xs fs _ h.2)
      arguments_allowed (argument_then (by_procedure c) xs) (procedure_then hd fs) at h = allowed_append (procedure_allowed c h.1)
          (arguments_allowed xs fs _ h.2)
      arguments_allowed (argument_then (by_value e) xs) no_formal at h = absurd h
      arguments_allowed (argument_then (by_value e) xs) (variable_then t fs) at h = absurd h
      arguments_allowed (argument_then (by_value e) xs) (procedure_then hd fs) at h = absurd h
      arguments_allowed (argument_then (by_variable p) xs) no_formal at h = absurd h
      arguments_allowed (argument_then (by_variable p) xs) (value_then t fs) at h = absurd h
      arguments_allowed (argument_then (by_variable p) xs) (procedure_then hd fs) at h = absurd h
      arguments_allowed (argument_then (by_procedure c) xs) no_formal at h = absurd h
      arguments_allowed (argument_then (by_procedure c) xs) (value_then t fs) at h = absurd h
      arguments_allowed (argument_then (by_procedure c) xs) (variable_then t fs) at h = absurd h

    branches_allowed : (bs : List ℕ) → All (BranchFits types blocks headings b) bs
        → list_all has_frame (map (λ n. record { need = (block_at blocks n).need; address = entry n }) bs) ≡ true
    branches_allowed [] h = refl
    branches_allowed (n ∷ bs) h =
        both (nat_le 5 (block_at blocks n).need) _ (le-leb 5 _ (needs_frame n (h 0 n (omega arith)).0))
        (branches_allowed bs (λ k d i. h (suc k) d (omega arith)))

    mutual
      act_allowed : (s : Act) (at : ℕ) → ActFits types blocks headings b s → AreAllowed (act_code types blocks entry b at s)
      act_allowed skip at h = none
      act_allowed (assign p e) at h =
          allowed_append (place_allowed p at h.1)
          (allowed_append (expression_allowed e _ h.2) (allowed_one (record { operands = le-leb 1 _ (positive _ (known_place p h.1)); integers = refl })))
      act_allowed (call c xs line) at h = allowed_append (arguments_allowed xs _ at h.2) (call_allowed c line h.0)
      act_allowed (halt line) at h = allowed_one (record { operands = refl; integers = refl })
      act_allowed (if_act cs) at h = clauses_allowed once cs _ at h
      act_allowed (while_act cs) at h = clauses_allowed repeated cs _ at h
      act_allowed (when_act cs line) at h =
          one_then (record { operands = refl; integers = refl }) (allowed_append (clauses_allowed released cs _ _ h) (again_allowed (is_quiet cs) _))
      act_allowed (cobegin bs line) at h =
          let branch : ℕ → Branch = λ n. record { need = (block_at blocks n).need; address = entry n } in
          let long = length-map bs branch in
          let some = h.0 in
          let few = h.1 in
          allowed_one (record {
            operands = both (is_count (length (map branch bs))) _
                (count_allowed (length (map branch bs)) (omega (arith, long, some)) (omega (arith, long, few))) (branches_allowed bs h.2);
            integers = refl;
          })

      acts_allowed : (s : Acts) (at : ℕ) → ActsFit types blocks headings b s → AreAllowed (acts_code types blocks entry b at s)
      acts_allowed no_act at h = none
      acts_allowed (act_then s ss) at h = allowed_append (act_allowed s at h.0) (acts_allowed ss _ h.1)

      clause_allowed : (c : Clause) (next at : ℕ) → ClauseFits types blocks headings b c → AreAllowed (clause_code types blocks entry b at next c)
      clause_allowed (clause e s) next at h =
          allowed_append (expression_allowed e at h.1) (one_then (record { operands = refl; integers = refl }) (acts_allowed s _ h.2))

      clauses_allowed : (kind : ClauseKind) (cs : Clauses) (target at : ℕ) → ClausesFit types blocks headings b cs
          → AreAllowed (clauses_code types blocks entry b kind target at cs)
      clauses_allowed kind no_clause target at h = none
      clauses_allowed kind (clause_then c cs) target at h =
          allowed_append (clause_allowed c _ at h.0) (allowed_append (close_allowed kind target cs) (clauses_allowed kind cs target _ h.1))

-- ---- blocks

flag_allowed : (r : Option ℕ) → nat_le (function_flag r) 1 ≡ true
flag_allowed None = refl
flag_allowed (Some t) = refl

module _ (types : List Shape) (table : IsTypeTable types) (parts : HaveParts types) (shapes : ShapesFit types) (blocks : List Block)
    (headings : ℕ → ℕ → Heading) (each : (n : ℕ) → n < length blocks → BlockFits types blocks headings n) where
  entry_allowed : (n : ℕ) → n < length blocks → Allowed (entry_of types (block_at blocks n))
  entry_allowed n h =
      let is = (each n h).needs in
      let sum = known.words_sum types (block_at blocks n) in
      record { operands = both _ _ (le-leb _ _ (omega (arith, is, sum))) (flag_allowed (block_at blocks n).result); integers = refl }

  block_allowed : (at n : ℕ) → n < length blocks → AreAllowed (block_code types blocks at n)
  block_allowed at n h =
      let list = acts_allowed types table parts shapes blocks headings each (entry types blocks) n h (block_at blocks n).body in
      either_allowed (is_branch (block_at blocks n).kind)
      (λ q. allowed_append (list at (each n h).statements) (allowed_one (record { operands = refl; integers = refl })))
      (λ q. one_then (entry_allowed n h) (allowed_append (list (at + 6) (each n h).statements)
      (allowed_one (record { operands = flag_allowed (block_at blocks n).result; integers = refl }))))

  pub blocks_allowed : (n : ℕ) → n ≤ length blocks → AreAllowed (blocks_code types blocks n)
  blocks_allowed zero h = none
  blocks_allowed (suc n) h = allowed_append (blocks_allowed n (omega (arith, h))) (block_allowed (entry types blocks n) n (omega (arith, h)))
