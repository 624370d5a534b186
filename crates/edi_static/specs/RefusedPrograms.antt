-- Computed rows. Refused programs: the first construct that breaks a rule on parts, operators, needs and programs, by kind and line.
-- The text of each stands in its comment, where `/` ends a line.
use Rattle.std.specs.Prelude.{ℕ, ◌≡◌, pos, Some, None, codes, refl}
use Rattle.edi_tree.specs.declared.constants.Constant.TheVariants as constant
use Rattle.edi_tree.specs.declared.expressions.Relation.TheVariants as relation
use Rattle.edi_tree.specs.declared.expressions.Sign.TheVariants as sign
use Rattle.edi_tree.specs.declared.expressions.Addition.TheVariants as addition
use Rattle.edi_tree.specs.declared.expressions.Multiplication.TheVariants as multiplication
use Rattle.edi_tree.specs.declared.expressions.Root.TheVariants as root
use Rattle.edi_tree.specs.Tree.{Program, StatementList, record_decl, type_item, no_name, next_name, group, no_group, next_group, array_decl, var_list, heading, no_params, params}
use Rattle.edi_tree.specs.Tree.{no_param, next_param, value_param, procedure_param, expr, no_comparison, compared, no_expr, simple, addend, no_addend}
use Rattle.edi_tree.specs.Tree.{next_addend, term, multiplier, no_multiplier, next_multiplier, numeral, string, not_factor, call_factor, args, variable}
use Rattle.edi_tree.specs.Tree.{field, index, no_selector, next_selector, list, no_statement, next_statement, skip, assignment, call, cobegin, branch}
use Rattle.edi_tree.specs.Tree.{no_branch, next_branch, procedure, var_item, module_with, item_member, no_member, next_member, module_declaration}
use Rattle.edi_tree.specs.Tree.{no_declaration, next_declaration, type_global, no_global, next_global, program}
use Rattle.edi_unit.specs.Types.{size}
use Rattle.edi_static.specs.declared.faults.StaticKind.TheVariants as kind
use Rattle.edi_static.specs.Judged.{faults}
use Rattle.edi_static.specs.Programs.{resolve_tree}
use Rattle.edi_static.specs.Written.{id, single, sole, only, named, literal, sets, one, two, grouped, variable_of, record_of_one, array_named, set_named}
use Rattle.edi_static.specs.Written.{with_variable, value_named, variable_named, plain, taking, procedure_of, then, main}

-- ---- parts

-- proc main var x: int begin x / .f := 1 end
pub row_field_of_integer : resolve_tree
    (with_variable (id "x" 1) (id "int" 1) (one (assignment (variable (root.Name (id "x" 1)) (next_selector (field 2
    (id "f" 2)) no_selector)) 2 (literal 1))) 2)
    ≡ faults kind.Types 2
row_field_of_integer = refl

-- proc main record r (f: int) var x: r begin x.f := 1; x. / g := 1 end
pub row_unknown_field : resolve_tree
    (main (then (record_of_one (id "r" 1) (id "f" 1) (id "int" 1)) (then (variable_of (id "x" 1) (id "r" 1))
    no_declaration)) (two (assignment (variable (root.Name (id "x" 1)) (next_selector (field 1 (id "f" 1))
    no_selector)) 1 (literal 1)) (assignment (variable (root.Name (id "x" 1)) (next_selector (field 1 (id "g" 2))
    no_selector)) 2 (literal 1))) 2)
    ≡ faults kind.Undeclared 2
unfolding size
row_unknown_field = refl

-- an index is judged before the step to the element:
-- proc main var x: int begin x / [y] := 1 end
pub row_element_of_integer : resolve_tree
    (with_variable (id "x" 1) (id "int" 1) (one (assignment (variable (root.Name (id "x" 1)) (next_selector (index 2
    (only (named (id "y" 2)))) no_selector)) 2 (literal 1))) 2)
    ≡ faults kind.Undeclared 2
row_element_of_integer = refl

-- proc main array t [1:2] (int) var x: t begin x[1] := 1; x / [true] := 1 end
pub row_index_type : resolve_tree
    (main (then (array_named (id "t" 1) 1 1 2 (id "int" 1)) (then (variable_of (id "x" 1) (id "t" 1)) no_declaration))
    (two (assignment (variable (root.Name (id "x" 1)) (next_selector (index 1 (literal 1)) no_selector)) 1 (literal
    1)) (assignment (variable (root.Name (id "x" 1)) (next_selector (index 2 (only (named (id "true" 2))))
    no_selector)) 2 (literal 1))) 2)
    ≡ faults kind.Types 2
unfolding size
row_index_type = refl

-- ---- operators

-- proc main var x: int begin x := +1; x := / + true end
pub row_sign : resolve_tree
    (with_variable (id "x" 1) (id "int" 1) (two (sets (id "x" 1) 1 (expr (simple (Some (sign.Plus 1)) (single (numeral
    (pos 1))) no_addend) no_comparison)) (sets (id "x" 1) 1 (expr (simple (Some (sign.Plus 2)) (single (named (id
    "true" 2))) no_addend) no_comparison))) 2)
    ≡ faults kind.Types 2
row_sign = refl

-- operators apply from the left:
-- proc main var x: int begin x := 1 + 2 / + true + y end
pub row_sum : resolve_tree
    (with_variable (id "x" 1) (id "int" 1) (one (sets (id "x" 1) 1 (expr (simple None (single (numeral (pos 1)))
    (next_addend (addend addition.Plus 1 (single (numeral (pos 2)))) (next_addend (addend addition.Plus 2 (single
    (named (id "true" 2)))) (next_addend (addend addition.Plus 2 (single (named (id "y" 2)))) no_addend))))
    no_comparison))) 2)
    ≡ faults kind.Types 2
row_sum = refl

-- proc main set s (int) var x: s begin x := s(1) + s - s(2) * s(3); x := x / * 1 end
pub row_sets : resolve_tree
    (main (then (set_named (id "s" 1) (id "int" 1)) (then (variable_of (id "x" 1) (id "s" 1)) no_declaration)) (two
    (sets (id "x" 1) 1 (expr (simple None (single (call_factor (id "s" 1) (args (literal 1) no_expr))) (next_addend
    (addend addition.Plus 1 (single (named (id "s" 1)))) (next_addend (addend addition.Minus 1 (term (call_factor (id
    "s" 1) (args (literal 2) no_expr)) (next_multiplier (multiplier multiplication.Star 1 (call_factor (id "s" 1)
    (args (literal 3) no_expr))) no_multiplier))) no_addend))) no_comparison)) (sets (id "x" 1) 1 (expr (simple None
    (term (named (id "x" 1)) (next_multiplier (multiplier multiplication.Star 2 (numeral (pos 1))) no_multiplier))
    no_addend) no_comparison))) 2)
    ≡ faults kind.Types 2
row_sets = refl

-- proc main set s (int) var x: s begin x := s / div s end
pub row_quotient : resolve_tree
    (main (then (set_named (id "s" 1) (id "int" 1)) (then (variable_of (id "x" 1) (id "s" 1)) no_declaration)) (one
    (sets (id "x" 1) 1 (expr (simple None (term (named (id "s" 1)) (next_multiplier (multiplier multiplication.Div 2
    (named (id "s" 2))) no_multiplier)) no_addend) no_comparison))) 2)
    ≡ faults kind.Types 2
row_quotient = refl

-- proc main var x: bool begin x := x and not x or true; x := x / and 1 end
pub row_and : resolve_tree
    (with_variable (id "x" 1) (id "bool" 1) (two (sets (id "x" 1) 1 (expr (simple None (term (named (id "x" 1))
    (next_multiplier (multiplier multiplication.And 1 (not_factor 1 (named (id "x" 1)))) no_multiplier)) (next_addend
    (addend addition.Or 1 (single (named (id "true" 1)))) no_addend)) no_comparison)) (sets (id "x" 1) 1 (expr (simple
    None (term (named (id "x" 1)) (next_multiplier (multiplier multiplication.And 2 (numeral (pos 1))) no_multiplier))
    no_addend) no_comparison))) 2)
    ≡ faults kind.Types 2
row_and = refl

-- proc main var x: bool begin x := / not 1 end
pub row_not : resolve_tree
    (with_variable (id "x" 1) (id "bool" 1) (one (sets (id "x" 1) 1 (only (not_factor 2 (numeral (pos 1)))))) 2)
    ≡ faults kind.Types 2
row_not = refl

-- proc main set s (int) var x: bool; y: s begin x := 'a' < 'b'; x := y = y; x := y / < y end
pub row_order : resolve_tree
    (main (then (set_named (id "s" 1) (id "int" 1)) (then (var_item (var_list (grouped (id "x" 1) (id "bool" 1))
    (next_group (grouped (id "y" 1) (id "s" 1)) no_group))) no_declaration)) (list (sets (id "x" 1) 1 (expr (sole
    (string (record { text = codes "a"; line = 1 }))) (compared relation.Less 1 (sole (string (record {
      text = codes
          "b";
      line = 1;
    })))))) (next_statement (sets (id "x" 1) 1 (expr (sole (named (id "y" 1))) (compared relation.Equal
    1 (sole (named (id "y" 1)))))) (next_statement (sets (id "x" 1) 1 (expr (sole (named (id "y" 1))) (compared
    relation.Less 2 (sole (named (id "y" 2)))))) no_statement))) 2)
    ≡ faults kind.Types 2
row_order = refl

-- proc main var x: bool begin x := 1 / = 'a' end
pub row_comparison : resolve_tree
    (with_variable (id "x" 1) (id "bool" 1) (one (sets (id "x" 1) 1 (expr (sole (numeral (pos 1))) (compared
    relation.Equal 2 (sole (string (record { text = codes "a"; line = 2 }))))))) 2)
    ≡ faults kind.Types 2
row_comparison = refl

-- proc main set s (int) var x: bool begin x := 1 in s(1); x := 'a' / in s(1) end
pub row_in : resolve_tree
    (main (then (set_named (id "s" 1) (id "int" 1)) (then (variable_of (id "x" 1) (id "bool" 1)) no_declaration)) (two
    (sets (id "x" 1) 1 (expr (sole (numeral (pos 1))) (compared relation.In 1 (sole (call_factor (id "s" 1) (args
    (literal 1) no_expr)))))) (sets (id "x" 1) 1 (expr (sole (string (record { text = codes "a"; line = 1 })))
    (compared relation.In 2 (sole (call_factor (id "s" 2) (args (literal 1) no_expr))))))) 2)
    ≡ faults kind.Types 2
row_in = refl

-- ---- needs

-- proc main array t [1:32767] (int) var a, b: t begin skip / end
pub row_program_need : resolve_tree
    (main (then (array_named (id "t" 1) 1 1 32767 (id "int" 1)) (then (var_item (var_list (group (id "a" 1) (next_name
    (id "b" 1) no_name) (id "t" 1)) no_group)) no_declaration)) (one skip) 2)
    ≡ faults kind.Range 2
unfolding size
row_program_need = refl

-- proc main array t [1:32767] (int) proc p(a, b: t) begin skip / end / begin skip end
pub row_procedure_need : resolve_tree
    (main (then (array_named (id "t" 1) 1 1 32767 (id "int" 1)) (then (procedure_of (taking (id "p" 1) (value_param
    (group (id "a" 1) (next_name (id "b" 1) no_name) (id "t" 1))) None) no_declaration (one skip) 2) no_declaration))
    (one skip) 3)
    ≡ faults kind.Range 2
unfolding size
row_procedure_need = refl

-- variables of a module count with the block where it stands:
-- proc main array t [1:32767] (int) module var a, b: t begin skip end begin skip / end
pub row_module_need : resolve_tree
    (main (then (array_named (id "t" 1) 1 1 32767 (id "int" 1)) (next_declaration (module_declaration (module_with
    (next_member (item_member (var_item (var_list (group (id "a" 1) (next_name (id "b" 1) no_name) (id "t" 1))
    no_group))) no_member) (one skip))) no_declaration)) (one skip) 2)
    ≡ faults kind.Range 2
unfolding size
row_module_need = refl

-- `proc main array t [1:32765] (int) record u (a, b: t) var x: u begin .. end`
abbrev with_large : StatementList → Program
with_large s =
    main (then (array_named (id "t" 1) 1 1 32765 (id "int" 1))
    (then (type_item (record_decl (id "u" 1) (group (id "a" 1) (next_name (id "b" 1) no_name) (id "t" 1)) no_group))
    (then (variable_of (id "x" 1) (id "u" 1)) no_declaration))) s 2

-- a branch, which needs 65,536 words, is judged before the next one:
-- proc main array t [1:32765] (int) record u (a, b: t) var x: u begin cobegin 1 do x := x / also y do skip end end
pub row_branch_need : resolve_tree
    (with_large (one (cobegin 1 (branch (constant.Numeral (pos 1)) 1 (one (sets (id "x" 1) 1 (only (named (id "x"
    1)))))) (next_branch 2 (branch (constant.Name (id "y" 2) None) 2 (one skip)) (no_branch 2)))))
    ≡ faults kind.Range 2
unfolding size
row_branch_need = refl

-- proc main array t [1:32765] (int) record u (a, b: t) var x: u begin cobegin 1 do skip end; / y end
pub row_largest_need : resolve_tree
    (with_large (two (cobegin 1 (branch (constant.Numeral (pos 1)) 1 (one skip)) (no_branch 1)) (call (id "y" 2)
    None)))
    ≡ faults kind.Undeclared 2
unfolding size
row_largest_need = refl

-- ---- the heading of a program

-- proc / main: int begin skip end
pub row_result : resolve_tree
    (program no_global (procedure (heading (id "main" 2) no_params (Some (id "int" 2))) no_declaration (one skip) 2))
    ≡ faults kind.Heading 2
row_result = refl

-- proc main(proc fresh; / a, / b: / int) begin skip end
pub row_group : resolve_tree
    (program no_global (procedure (heading (id "main" 1) (params (procedure_param (plain (id "fresh" 1))) (next_param
    (value_param (group (id "a" 2) (next_name (id "b" 3) no_name) (id "int" 4))) no_param)) None) no_declaration (one
    skip) 4))
    ≡ faults kind.Heading 2
row_group = refl

-- proc main(proc / beep) begin skip end
pub row_no_call : resolve_tree
    (program no_global (procedure (taking (id "main" 1) (procedure_param (plain (id "beep" 2))) None) no_declaration
    (one skip) 2))
    ≡ faults kind.Heading 2
row_no_call = refl

-- proc main(proc accept(var c: char); proc / display(var c: char)) begin skip end
pub row_shape_of_call : resolve_tree
    (program no_global (procedure (heading (id "main" 1) (params (procedure_param (taking (id "accept" 1)
    (variable_named (id "c" 1) (id "char" 1)) None)) (next_param (procedure_param (taking (id "display" 2)
    (variable_named (id "c" 2) (id "char" 2)) None)) no_param)) None) no_declaration (one skip) 2))
    ≡ faults kind.Heading 2
row_shape_of_call = refl

-- proc main(proc fresh; proc / fresh) begin skip end
pub row_call_twice : resolve_tree
    (program no_global (procedure (heading (id "main" 1) (params (procedure_param (plain (id "fresh" 1))) (next_param
    (procedure_param (plain (id "fresh" 2))) no_param)) None) no_declaration (one skip) 2))
    ≡ faults kind.Ambiguous 2
row_call_twice = refl

-- proc main(proc / beep) var x: y begin skip end
pub row_before_declarations : resolve_tree
    (program no_global (procedure (taking (id "main" 1) (procedure_param (plain (id "beep" 2))) None) (then
    (variable_of (id "x" 2) (id "y" 2)) no_declaration) (one skip) 2))
    ≡ faults kind.Heading 2
row_before_declarations = refl

-- `array name [low:high] (char) proc main(proc / find(title: name; var found: bool)) begin skip end`
abbrev finding : (low high : ℕ) → Program
finding low high =
    program (next_global (type_global (array_decl (id "name" 1) 1 (constant.Numeral (pos low)) (constant.Numeral (pos high)) (id "char" 1))) no_global)
    (procedure (taking (id "main" 1) (procedure_param (heading (id "find" 2) (params (value_named (id "title" 2) (id "name" 2))
    (next_param (variable_named (id "found" 2) (id "bool" 2)) no_param)) None)) None) no_declaration (one skip) 2)

pub row_title : resolve_tree (finding 0 11) ≡ faults kind.Heading 2
unfolding size
row_title = refl

pub row_long_title : resolve_tree (finding 1 13) ≡ faults kind.Heading 2
unfolding size
row_long_title = refl

pub row_title_from_zero : resolve_tree (finding 0 12) ≡ faults kind.Heading 2
unfolding size
row_title_from_zero = refl

-- proc main(proc beep; a: / b) begin skip end
pub row_parameter_before_heading : resolve_tree
    (program no_global (procedure (heading (id "main" 1) (params (procedure_param (plain (id "beep" 1))) (next_param
    (value_named (id "a" 1) (id "b" 2)) no_param)) None) no_declaration (one skip) 2))
    ≡ faults kind.Undeclared 2
row_parameter_before_heading = refl
