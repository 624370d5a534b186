-- Computed rows. Sound programs, with their whole units. The text of each stands in its comment.
use Rattle.std.specs.Prelude.{◌≡◌, ℕ, pos, Bool, ◌==◌, List, [], ◌∷◌, ◌++◌, map, replicate, Option, Some, None, codes, refl}
use Rattle.edi_tree.specs.declared.constants.Constant.TheVariants as constant
use Rattle.edi_tree.specs.declared.expressions.Relation.TheVariants as relation
use Rattle.edi_tree.specs.declared.expressions.Sign.TheVariants as sign
use Rattle.edi_tree.specs.declared.expressions.Addition.TheVariants as addition
use Rattle.edi_tree.specs.declared.expressions.Multiplication.TheVariants as multiplication
use Rattle.edi_tree.specs.declared.expressions.Root.TheVariants as root
use Rattle.edi_tree.specs.Tree.{Program, StatementList, no_name, next_name, no_const_decl, const_list, group, no_group, next_group, enum_decl, record_decl}
use Rattle.edi_tree.specs.Tree.{array_decl, set_decl, var_list, heading, params, no_param, next_param, value_param, procedure_param, expr, no_comparison}
use Rattle.edi_tree.specs.Tree.{compared, no_expr, next_expr, simple, addend, no_addend, next_addend, term, multiplier, no_multiplier, next_multiplier}
use Rattle.edi_tree.specs.Tree.{numeral, string, not_factor, parenthesized, call_factor, variable_factor, args, variable, field, index, no_selector}
use Rattle.edi_tree.specs.Tree.{next_selector, list, no_statement, next_statement, skip, assignment, call, while_statement, when_statement, cobegin}
use Rattle.edi_tree.specs.Tree.{conditions, condition, no_else, branch, no_branch, next_branch, procedure, var_item, pre_item, module_with, item_member}
use Rattle.edi_tree.specs.Tree.{exported_member, module_member, no_member, next_member, module_declaration, no_declaration, next_declaration, const_global}
use Rattle.edi_tree.specs.Tree.{type_global, no_global, next_global, program}
use Rattle.edi_unit.specs.declared.expressions.Operator.{Operator}
use Rattle.edi_unit.specs.declared.expressions.Operator.TheVariants as op
use Rattle.edi_unit.specs.declared.expressions.Callee.TheVariants as callee
use Rattle.edi_unit.specs.declared.units.BlockKind.{BlockKind}
use Rattle.edi_unit.specs.declared.units.BlockKind.TheVariants as block_kind
use Rattle.edi_unit.specs.declared.units.Parameter.{Parameter}
use Rattle.edi_unit.specs.declared.units.Parameter.TheVariants as slot
use Rattle.edi_unit.specs.Types.{Shape, standard_types, int_type, char_type, bool_type, enumeration, record_of, array_of, set_of, size}
use Rattle.edi_unit.specs.Tree as unit
use Rattle.edi_static.specs.Judged.{Judged, gives}
use Rattle.edi_static.specs.Operators.{takes}
use Rattle.edi_static.specs.Programs.{resolve_tree}
use Rattle.edi_static.specs.Written.{id, single, sole, only, named, literal, sets, returns, call_with, one, two, grouped, variable_of, set_named, value_named}
use Rattle.edi_static.specs.Written.{variable_named, plain, taking, procedure_of, post_of, then, main}

-- ---- writing units down

abbrev acts_of : List unit.Act → unit.Acts
acts_of [] = unit.no_act
acts_of (a ∷ as') = unit.act_then a (acts_of as')

abbrev block : BlockKind → ℕ → Option ℕ → List Parameter → List ℕ → ℕ → List unit.Act → unit.Block
block k up result parameters variables need body =
    record { kind = k; up = up; result = result; parameters = parameters; variables = variables; need = need; body = acts_of body }

abbrev variable_at : ℕ → ℕ → unit.Place
variable_at levels v = unit.place levels v unit.no_part

abbrev value_at : ℕ → ℕ → unit.Expression
value_at levels v = unit.load (variable_at levels v)

abbrev number : ℕ → unit.Expression
number n = unit.constant 0 (pos n)

abbrev joined : unit.Expression → Operator → unit.Expression → ℕ → unit.Expression
joined a o b line = unit.chain a (unit.link_then (unit.link o b line) unit.no_link)

abbrev one_clause : unit.Expression → unit.Act → unit.Clauses
one_clause e a = unit.clause_then (unit.clause e (acts_of (a ∷ []))) unit.no_clause

-- the unit of these types, calls and blocks, of which the first is the program's
abbrev resolved : List Shape → (calls : List ℕ) → List unit.Block → Judged unit.ProgramUnit
resolved types calls blocks = gives (record { types = types; blocks = blocks; program = 0; calls = calls })

-- ---- a module, which exports one of its names

--   proc main(proc display(value: char))
--   module
--     var hidden: char
--     * proc show begin display(hidden) end
--   begin hidden := 'm' end
-- and behind it the program's statements, on line 6
abbrev pub behind_module : StatementList → Program
behind_module s =
    program no_global (procedure (taking (id "main" 1) (procedure_param (taking (id "display" 1) (value_param (grouped
    (id "value" 1) (id "char" 1))) None)) None) (next_declaration (module_declaration (module_with (next_member
    (item_member (variable_of (id "hidden" 3) (id "char" 3))) (next_member (exported_member (procedure_of (plain (id
    "show" 4)) no_declaration (one (call_with (id "display" 4) (only (named (id "hidden" 4))))) 4)) no_member)) (one
    (sets (id "hidden" 5) 5 (only (string (record { text = codes "m"; line = 5 }))))))) no_declaration) s 6)

--   begin show end
pub row_module : resolve_tree (behind_module (one (call (id "show" 6) None))) ≡ resolved standard_types (2 ∷ []) (
    -- the variable of the module is the second of the program; the module's statement comes before the program's own
    block block_kind.Program 0 None (slot.Formal None ∷ []) (1 ∷ []) 11 (
    unit.assign (variable_at 0 1) (unit.constant 1 (pos 109)) ∷
    unit.call (callee.Block 0 1) unit.no_argument 6 ∷ [])
    ∷ block block_kind.Procedure 0 None [] [] 6 (
    unit.call (callee.Formal 1 0) (unit.argument_then (unit.by_value (value_at 1 1)) unit.no_argument) 4 ∷ [])
    ∷ [])
unfolding size
row_module = refl

-- ---- a split function, a procedure parameter, types of all kinds, and branches

--   const max = 3
--   enum color (red, green)
--   record pair (tag: color; count: int)
--   array row [1:max] (pair)
--   set colors (color)
--   proc main(proc write(c: char))
--   pre proc f(n: int; proc act(var k: int)): bool
--   var table: row; i: int
--   proc step(var k: int) begin k := k + 1 end
--   post proc f(m: int; proc act(var k: int)): bool
--   var seen: colors
--   begin seen := colors(red);
--     act(table[m].count);
--     val f := (table[1].tag in seen) and not (m < -1)
--   end
--   begin table[2] := pair(green, 4);
--     cobegin 1 do when f(2, step) do i := max end
--     also 2 do while i = 0 do skip end
--   end end
abbrev program_with_branches : Program
program_with_branches =
    program (next_global (const_global (const_list (record { name = id "max" 1; constant = constant.Numeral (pos 3) })
    no_const_decl)) (next_global (type_global (enum_decl (id "color" 2) (id "red" 2) (next_name (id "green" 2)
    no_name))) (next_global (type_global (record_decl (id "pair" 3) (grouped (id "tag" 3) (id "color" 3)) (next_group
    (grouped (id "count" 3) (id "int" 3)) no_group))) (next_global (type_global (array_decl (id "row" 4) 4
    (constant.Numeral (pos 1)) (constant.Name (id "max" 4) None) (id "pair" 4))) (next_global (type_global (set_decl
    (id "colors" 5) (id "color" 5))) no_global))))) (procedure (taking (id "main" 6) (procedure_param (taking (id
    "write" 6) (value_named (id "c" 6) (id "char" 6)) None)) None) (then (pre_item (heading (id "f" 7) (params
    (value_named (id "n" 7) (id "int" 7)) (next_param (procedure_param (taking (id "act" 7) (variable_named (id "k" 7)
    (id "int" 7)) None)) no_param)) (Some (id "bool" 7)))) (then (var_item (var_list (grouped (id "table" 8) (id "row"
    8)) (next_group (grouped (id "i" 8) (id "int" 8)) no_group))) (then (procedure_of (taking (id "step" 9)
    (variable_named (id "k" 9) (id "int" 9)) None) no_declaration (one (sets (id "k" 9) 9 (expr (simple None (single
    (named (id "k" 9))) (next_addend (addend addition.Plus 9 (single (numeral (pos 1)))) no_addend)) no_comparison)))
    9) (then (post_of (heading (id "f" 10) (params (value_named (id "m" 10) (id "int" 10)) (next_param
    (procedure_param (taking (id "act" 10) (variable_named (id "k" 10) (id "int" 10)) None)) no_param)) (Some (id
    "bool" 10))) (then (variable_of (id "seen" 11) (id "colors" 11)) no_declaration) (list (sets (id "seen" 12) 12
    (only (call_factor (id "colors" 12) (args (only (named (id "red" 12))) no_expr)))) (next_statement (call_with (id
    "act" 13) (only (variable_factor (variable (root.Name (id "table" 13)) (next_selector (index 13 (only (named (id
    "m" 13)))) (next_selector (field 13 (id "count" 13)) no_selector)))))) (next_statement (returns (id "f" 14) 14
    (expr (simple None (term (parenthesized (expr (sole (variable_factor (variable (root.Name (id "table" 14))
    (next_selector (index 14 (literal 1)) (next_selector (field 14 (id "tag" 14)) no_selector))))) (compared
    relation.In 14 (sole (named (id "seen" 14)))))) (next_multiplier (multiplier multiplication.And 14 (not_factor 14
    (parenthesized (expr (sole (named (id "m" 14))) (compared relation.Less 14 (simple (Some (sign.Minus 14)) (single
    (numeral (pos 1))) no_addend)))))) no_multiplier)) no_addend) no_comparison)) no_statement))) 15)
    no_declaration)))) (two (assignment (variable (root.Name (id "table" 16)) (next_selector (index 16 (literal 2))
    no_selector)) 16 (only (call_factor (id "pair" 16) (args (only (named (id "green" 16))) (next_expr (literal 4)
    no_expr))))) (cobegin 17 (branch (constant.Numeral (pos 1)) 17 (one (when_statement 17 (conditions (condition
    (only (call_factor (id "f" 17) (args (literal 2) (next_expr (only (named (id "step" 17))) no_expr)))) 17 (one
    (sets (id "i" 17) 17 (only (named (id "max" 17)))))) no_else)))) (next_branch 18 (branch (constant.Numeral (pos
    2)) 18 (one (while_statement (conditions (condition (expr (sole (named (id "i" 18))) (compared relation.Equal 18
    (sole (numeral (pos 0))))) 18 (one skip)) no_else)))) (no_branch 19)))) 19)

-- the program, the function at its `pre`, the procedure, and the branches: each by the place of its first symbol
pub row_branches : resolve_tree program_with_branches ≡ resolved (standard_types ++ enumeration 2 ∷ record_of (3 ∷ 0 ∷ []) ∷
    array_of 0 (pos 1) (pos 3) 4 ∷ set_of 3 ∷ []) (8 ∷ []) (
    block block_kind.Program 0 None (slot.Formal None ∷ []) (5 ∷ 0 ∷ []) 18 (
    unit.assign (unit.place 0 1 (unit.part_then (unit.index (number 2) 16) unit.no_part))
    (unit.make 4 (unit.expression_then (unit.constant 3 (pos 1)) (unit.expression_then (number 4) unit.no_expression)) 16) ∷
    unit.cobegin (3 ∷ 4 ∷ []) 17 ∷ [])
    ∷ block block_kind.Function 0 (Some 2) (slot.Value 0 ∷ slot.Formal None ∷ []) (6 ∷ []) 28 (
    unit.assign (variable_at 0 3) (unit.make 6 (unit.expression_then (unit.constant 3 (pos 0)) unit.no_expression) 12) ∷
    unit.call (callee.Formal 0 2)
    (unit.argument_then (unit.by_variable (unit.place 1 1
    (unit.part_then (unit.index (value_at 0 1) 13) (unit.part_then (unit.field 1) unit.no_part)))) unit.no_argument) 13 ∷
    unit.assign (variable_at 0 0)
    (joined
    (joined
    (unit.load (unit.place 1 1 (unit.part_then (unit.index (number 1) 14) (unit.part_then (unit.field 0) unit.no_part))))
    op.In (value_at 0 3) 14)
    op.And (unit.not_of (joined (value_at 0 1) op.Less (unit.sign_of (number 1) 14) 14)) 14) ∷ [])
    ∷ block block_kind.Procedure 0 None (slot.Var 0 ∷ []) [] 9 (
    unit.assign (variable_at 0 0) (joined (value_at 0 0) op.Plus (number 1) 9) ∷ [])
    ∷ block block_kind.Branch 0 None [] [] 9 (
    unit.when_act (one_clause
    (unit.apply_of (callee.Block 1 1)
    (unit.argument_then (unit.by_value (number 2))
    (unit.argument_then (unit.by_procedure (callee.Block 1 2)) unit.no_argument)) 17)
    (unit.assign (variable_at 1 2) (number 3))) 17 ∷ [])
    ∷ block block_kind.Branch 0 None [] [] 7 (
    unit.while_act (one_clause (joined (value_at 1 2) op.Equal (number 0) 18) unit.skip) ∷ [])
    ∷ [])
unfolding size
row_branches = refl

-- ---- operators, and modules in modules

--   proc main
--   set s (int)
--   var a, b: int; t: bool; c: s
--   module
--     module begin a := a + b - a * b div a mod b end
--   begin t := (a = b) or (a <> b) end
--   begin t := a < b; t := a <= b; t := a > b; t := a >= b; t := a in c; a := -a * b; a := +a - int(t); c := c end
abbrev program_of_operators : Program
program_of_operators =
    main (then (set_named (id "s" 2) (id "int" 2)) (then (var_item (var_list (group (id "a" 3) (next_name (id "b" 3)
    no_name) (id "int" 3)) (next_group (grouped (id "t" 3) (id "bool" 3)) (next_group (grouped (id "c" 3) (id "s" 3))
    no_group)))) (next_declaration (module_declaration (module_with (next_member (module_member (module_with no_member
    (one (sets (id "a" 5) 5 (expr (simple None (single (named (id "a" 5))) (next_addend (addend addition.Plus 5
    (single (named (id "b" 5)))) (next_addend (addend addition.Minus 5 (term (named (id "a" 5)) (next_multiplier
    (multiplier multiplication.Star 5 (named (id "b" 5))) (next_multiplier (multiplier multiplication.Div 5 (named (id
    "a" 5))) (next_multiplier (multiplier multiplication.Mod 5 (named (id "b" 5))) no_multiplier))))) no_addend)))
    no_comparison))))) no_member) (one (sets (id "t" 6) 6 (expr (simple None (single (parenthesized (expr (sole (named
    (id "a" 6))) (compared relation.Equal 6 (sole (named (id "b" 6))))))) (next_addend (addend addition.Or 6 (single
    (parenthesized (expr (sole (named (id "a" 6))) (compared relation.NotEqual 6 (sole (named (id "b" 6))))))))
    no_addend)) no_comparison))))) no_declaration))) (list (sets (id "t" 7) 7 (expr (sole (named (id "a" 7)))
    (compared relation.Less 7 (sole (named (id "b" 7)))))) (next_statement (sets (id "t" 7) 7 (expr (sole (named (id
    "a" 7))) (compared relation.AtMost 7 (sole (named (id "b" 7)))))) (next_statement (sets (id "t" 7) 7 (expr (sole
    (named (id "a" 7))) (compared relation.Greater 7 (sole (named (id "b" 7)))))) (next_statement (sets (id "t" 7) 7
    (expr (sole (named (id "a" 7))) (compared relation.AtLeast 7 (sole (named (id "b" 7)))))) (next_statement (sets
    (id "t" 7) 7 (expr (sole (named (id "a" 7))) (compared relation.In 7 (sole (named (id "c" 7)))))) (next_statement
    (sets (id "a" 7) 7 (expr (simple (Some (sign.Minus 7)) (term (named (id "a" 7)) (next_multiplier (multiplier
    multiplication.Star 7 (named (id "b" 7))) no_multiplier)) no_addend) no_comparison)) (next_statement (sets (id "a"
    7) 7 (expr (simple (Some (sign.Plus 7)) (single (named (id "a" 7))) (next_addend (addend addition.Minus 7 (single
    (call_factor (id "int" 7) (args (only (named (id "t" 7))) no_expr)))) no_addend)) no_comparison)) (next_statement
    (sets (id "c" 7) 7 (only (named (id "c" 7)))) no_statement)))))))) 7

-- the statement of the inner module comes first, then that of the module round it
pub row_operators : resolve_tree program_of_operators ≡ resolved (standard_types ++ set_of 0 ∷ []) [] (
    block block_kind.Program 0 None [] (0 ∷ 0 ∷ 2 ∷ 3 ∷ []) 26 (
    unit.assign (variable_at 0 0)
    (unit.chain (value_at 0 0)
    (unit.link_then (unit.link op.Plus (value_at 0 1) 5)
    (unit.link_then (unit.link op.Minus
    (unit.chain (value_at 0 0)
    (unit.link_then (unit.link op.Times (value_at 0 1) 5)
    (unit.link_then (unit.link op.Div (value_at 0 0) 5)
    (unit.link_then (unit.link op.Mod (value_at 0 1) 5)
    unit.no_link)))) 5)
    unit.no_link))) ∷
    unit.assign (variable_at 0 2)
    (joined (joined (value_at 0 0) op.Equal (value_at 0 1) 6) op.Or (joined (value_at 0 0) op.NotEqual (value_at 0 1) 6) 6) ∷
    unit.assign (variable_at 0 2) (joined (value_at 0 0) op.Less (value_at 0 1) 7) ∷
    unit.assign (variable_at 0 2) (joined (value_at 0 0) op.LessOrEqual (value_at 0 1) 7) ∷
    unit.assign (variable_at 0 2) (joined (value_at 0 0) op.Greater (value_at 0 1) 7) ∷
    unit.assign (variable_at 0 2) (joined (value_at 0 0) op.GreaterOrEqual (value_at 0 1) 7) ∷
    unit.assign (variable_at 0 2) (joined (value_at 0 0) op.In (value_at 0 3) 7) ∷
    unit.assign (variable_at 0 0) (unit.sign_of (joined (value_at 0 0) op.Times (value_at 0 1) 7) 7) ∷
    unit.assign (variable_at 0 0) (joined (value_at 0 0) op.Minus (unit.convert 0 (value_at 0 2) 7) 7) ∷
    unit.assign (variable_at 0 3) (value_at 0 3) ∷ [])
    ∷ [])
unfolding size
row_operators = refl

-- ---- the calls of the system

--   array name [1:12] (char)
--   proc main(proc accept(var a: char); proc display(a: char); proc print(a: char);
--     proc find(a: name; var b: bool); proc more(var a: bool); proc read(var a: char); proc fresh;
--     proc write(a: char); proc close(a: name; var b: bool); proc remove(a: name; var b: bool))
--   begin skip end
abbrev program_with_calls : Program
program_with_calls =
    program (next_global (type_global (array_decl (id "name" 1) 1 (constant.Numeral (pos 1)) (constant.Numeral (pos
    12)) (id "char" 1))) no_global) (procedure (heading (id "main" 2) (params (procedure_param (taking (id "accept" 2)
    (variable_named (id "a" 2) (id "char" 2)) None)) (next_param (procedure_param (taking (id "display" 2)
    (value_named (id "a" 2) (id "char" 2)) None)) (next_param (procedure_param (taking (id "print" 2) (value_named (id
    "a" 2) (id "char" 2)) None)) (next_param (procedure_param (heading (id "find" 3) (params (value_named (id "a" 3)
    (id "name" 3)) (next_param (variable_named (id "b" 3) (id "bool" 3)) no_param)) None)) (next_param
    (procedure_param (taking (id "more" 3) (variable_named (id "a" 3) (id "bool" 3)) None)) (next_param
    (procedure_param (taking (id "read" 3) (variable_named (id "a" 3) (id "char" 3)) None)) (next_param
    (procedure_param (plain (id "fresh" 3))) (next_param (procedure_param (taking (id "write" 4) (value_named (id "a"
    4) (id "char" 4)) None)) (next_param (procedure_param (heading (id "close" 4) (params (value_named (id "a" 4) (id
    "name" 4)) (next_param (variable_named (id "b" 4) (id "bool" 4)) no_param)) None)) (next_param (procedure_param
    (heading (id "remove" 4) (params (value_named (id "a" 4) (id "name" 4)) (next_param (variable_named (id "b" 4) (id
    "bool" 4)) no_param)) None)) no_param)))))))))) None) no_declaration (one skip) 5)

pub row_calls : resolve_tree program_with_calls ≡ resolved (standard_types ++ array_of 0 (pos 1) (pos 12) 1 ∷ []) (1 ∷ 2 ∷ 3 ∷ 4
    ∷ 5 ∷ 6 ∷ 7 ∷ 8 ∷ 9 ∷ 10 ∷ []) (
    block block_kind.Program 0 None (replicate 10 (slot.Formal None)) [] 35 (unit.skip ∷ []) ∷ [])
unfolding size
row_calls = refl

-- ---- operands

-- which operators take operands of two types: `=`, `<>`, `<`, `<=`, `>`, `>=`, `in`, `+`, `-`, `*`, `div`, `mod`, `and`, `or`
abbrev takers : ℕ → ℕ → List Bool
takers s t =
    map (λ o. takes (standard_types ++ set_of char_type ∷ record_of [] ∷ enumeration 2 ∷ []) o s t)
    (op.Equal ∷ op.NotEqual ∷ op.Less ∷ op.LessOrEqual ∷ op.Greater ∷ op.GreaterOrEqual ∷ op.In ∷ op.Plus ∷ op.Minus ∷ op.Times
    ∷ op.Div ∷ op.Mod ∷ op.And ∷ op.Or ∷ [])

abbrev all_of : List ℕ → List Bool
all_of = map (λ n. n == 1)

pub row_two_integers : takers int_type int_type ≡ all_of (1 ∷ 1 ∷ 1 ∷ 1 ∷ 1 ∷ 1 ∷ 0 ∷ 1 ∷ 1 ∷ 1 ∷ 1 ∷ 1 ∷ 0 ∷ 0 ∷ [])
row_two_integers = refl

pub row_two_characters : takers char_type char_type ≡ all_of (1 ∷ 1 ∷ 1 ∷ 1 ∷ 1 ∷ 1 ∷ 0 ∷ 0 ∷ 0 ∷ 0 ∷ 0 ∷ 0 ∷ 0 ∷ 0 ∷ [])
row_two_characters = refl

pub row_two_truths : takers bool_type bool_type ≡ all_of (1 ∷ 1 ∷ 1 ∷ 1 ∷ 1 ∷ 1 ∷ 0 ∷ 0 ∷ 0 ∷ 0 ∷ 0 ∷ 0 ∷ 1 ∷ 1 ∷ [])
row_two_truths = refl

pub row_two_sets : takers 3 3 ≡ all_of (1 ∷ 1 ∷ 0 ∷ 0 ∷ 0 ∷ 0 ∷ 0 ∷ 1 ∷ 1 ∷ 1 ∷ 0 ∷ 0 ∷ 0 ∷ 0 ∷ [])
row_two_sets = refl

pub row_two_records : takers 4 4 ≡ all_of (1 ∷ 1 ∷ 0 ∷ 0 ∷ 0 ∷ 0 ∷ 0 ∷ 0 ∷ 0 ∷ 0 ∷ 0 ∷ 0 ∷ 0 ∷ 0 ∷ [])
row_two_records = refl

pub row_two_enumerated : takers 5 5 ≡ all_of (1 ∷ 1 ∷ 1 ∷ 1 ∷ 1 ∷ 1 ∷ 0 ∷ 0 ∷ 0 ∷ 0 ∷ 0 ∷ 0 ∷ 0 ∷ 0 ∷ [])
row_two_enumerated = refl

pub row_member : takers char_type 3 ≡ all_of (0 ∷ 0 ∷ 0 ∷ 0 ∷ 0 ∷ 0 ∷ 1 ∷ 0 ∷ 0 ∷ 0 ∷ 0 ∷ 0 ∷ 0 ∷ 0 ∷ [])
row_member = refl

pub row_two_types : takers int_type bool_type ≡ all_of (0 ∷ 0 ∷ 0 ∷ 0 ∷ 0 ∷ 0 ∷ 0 ∷ 0 ∷ 0 ∷ 0 ∷ 0 ∷ 0 ∷ 0 ∷ 0 ∷ [])
row_two_types = refl

pub row_type_of_two : takers bool_type int_type ≡ all_of (0 ∷ 0 ∷ 0 ∷ 0 ∷ 0 ∷ 0 ∷ 0 ∷ 0 ∷ 0 ∷ 0 ∷ 0 ∷ 0 ∷ 0 ∷ 0 ∷ [])
row_type_of_two = refl
