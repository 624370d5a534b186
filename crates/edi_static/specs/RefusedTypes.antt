-- Computed rows. Refused programs: the first construct that breaks a rule on types, split procedures and assignments, by kind and line.
-- The text of each stands in its comment, where `/` ends a line.
use Rattle.std.specs.Prelude.{false, ◌≡◌, pos, Some, None, refl}
use Rattle.edi_tree.specs.declared.constants.Constant.TheVariants as constant
use Rattle.edi_tree.specs.Tree.{Program, Declarations, no_name, next_name, no_const_decl, next_const_decl, const_list, group, no_group, next_group}
use Rattle.edi_tree.specs.Tree.{record_decl, array_decl, var_list, heading, no_params, params, no_param, next_param, value_param, skip, call, if_statement}
use Rattle.edi_tree.specs.Tree.{while_statement, cobegin, conditions, condition, no_else, branch, no_branch, const_item, type_item, var_item, pre_item}
use Rattle.edi_tree.specs.Tree.{module_with, item_member, no_member, next_member, module_declaration, no_declaration, next_declaration}
use Rattle.edi_unit.specs.Types.{size}
use Rattle.edi_static.specs.declared.faults.StaticKind.TheVariants as kind
use Rattle.edi_static.specs.Judged.{faults}
use Rattle.edi_static.specs.Environment.{at_first}
use Rattle.edi_static.specs.Types.{enum_constants}
use Rattle.edi_static.specs.Programs.{resolve_tree}
use Rattle.edi_static.specs.Written.{id, only, named, literal, sets, one, grouped, variable_of, constant_named, array_named, set_named, value_named}
use Rattle.edi_static.specs.Written.{with_variable, variable_named, plain, taking, procedure_of, post_of, then, main}

-- `proc main set s (int) .. begin skip end`
abbrev behind_set : Declarations → Program
behind_set ds = main (then (set_named (id "s" 1) (id "int" 1)) ds) (one skip) 2

-- ---- constants and types

-- proc main / const c = / int(1) / begin skip end
pub row_no_character : resolve_tree
    (main (then (constant_named (id "c" 2) (constant.Name (id "int" 3) (Some (pos 1)))) no_declaration) (one skip) 4)
    ≡ faults kind.Kind 3
row_no_character = refl

-- proc main / const c = / char(128) / begin skip end
pub row_great_character : resolve_tree
    (main (then (constant_named (id "c" 2) (constant.Name (id "char" 3) (Some (pos 128)))) no_declaration) (one skip)
    4)
    ≡ faults kind.Range 3
row_great_character = refl

-- proc main / const c = char(127); d = / c(1) / begin skip end
pub row_greatest_character : resolve_tree
    (main (then (const_item (const_list (record {
      name = id "c" 2;
      constant = constant.Name (id "char" 2) (Some (pos
          127));
    }) (next_const_decl (record { name = id "d" 2; constant = constant.Name (id "c" 3) (Some (pos 1)) })
    no_const_decl))) no_declaration) (one skip) 4)
    ≡ faults kind.Kind 3
row_greatest_character = refl

-- proc main / array / t [1:'b'] (int) / begin skip end
pub row_bounds_of_two_types : resolve_tree
    (main (then (type_item (array_decl (id "t" 3) 3 (constant.Numeral (pos 1)) (constant.Char (record {
      character =
          98;
      line = 3;
    })) (id "int" 3))) no_declaration) (one skip) 4)
    ≡ faults kind.Types 3
row_bounds_of_two_types = refl

-- proc main / array / t ['b':1] (int) / begin skip end
pub row_bounds_in_wrong_order_too : resolve_tree
    (main (then (type_item (array_decl (id "t" 3) 3 (constant.Char (record { character = 98; line = 3 }))
    (constant.Numeral (pos 1)) (id "int" 3))) no_declaration) (one skip) 4)
    ≡ faults kind.Types 3
row_bounds_in_wrong_order_too = refl

-- proc main / var t: int / array / t [0:32767] (x) / begin skip end
pub row_large_and_twice : resolve_tree
    (main (then (variable_of (id "t" 2) (id "int" 2)) (then (array_named (id "t" 4) 4 0 32767 (id "x" 4))
    no_declaration)) (one skip) 5)
    ≡ faults kind.Undeclared 4
row_large_and_twice = refl

-- proc main / array / t [2:1] (int) / begin skip end
pub row_bounds_in_order : resolve_tree (main (then (array_named (id "t" 3) 3 2 1 (id "int" 3)) no_declaration) (one skip) 4) ≡ faults kind.Range 3
row_bounds_in_order = refl

-- an array of 65,536 words:
-- proc main set s (int) array / t [1:8192] (s) begin skip end
pub row_large_array : resolve_tree (behind_set (then (array_named (id "t" 2) 2 1 8192 (id "s" 2)) no_declaration)) ≡ faults kind.Range 2
unfolding size
row_large_array = refl

-- proc main set s (int) var t: int array / t [1:8192] (s) begin skip end
pub row_large_array_twice : resolve_tree
    (behind_set (then (variable_of (id "t" 1) (id "int" 1)) (then (array_named (id "t" 2) 2 1 8192 (id "s" 2))
    no_declaration)))
    ≡ faults kind.Range 2
unfolding size
row_large_array_twice = refl

-- an array of 65,528 words:
-- proc main set s (int) array t [1:8191] (s) array / t [1:1] (s) begin skip end
pub row_largest_array : resolve_tree
    (behind_set (then (array_named (id "t" 1) 1 1 8191 (id "s" 1)) (then (array_named (id "t" 2) 2 1 1 (id "s" 2))
    no_declaration)))
    ≡ faults kind.Ambiguous 2
unfolding size
row_largest_array = refl

-- a record of 65,536 words:
-- proc main array t [1:32767] (int) record / r (a, b: t; c, d: int) begin skip end
pub row_large_record : resolve_tree
    (main (then (array_named (id "t" 1) 1 1 32767 (id "int" 1)) (then (type_item (record_decl (id "r" 2) (group (id
    "a" 2) (next_name (id "b" 2) no_name) (id "t" 2)) (next_group (group (id "c" 2) (next_name (id "d" 2) no_name) (id
    "int" 2)) no_group))) no_declaration)) (one skip) 2)
    ≡ faults kind.Range 2
unfolding size
row_large_record = refl

-- proc main set s (int) set t ( / s) begin skip end
pub row_set_of_sets : resolve_tree (behind_set (then (set_named (id "t" 1) (id "s" 2)) no_declaration)) ≡ faults kind.Types 2
row_set_of_sets = refl

-- the name of a type is declared behind it:
-- proc main array t [1:2] ( / t) begin skip end
pub row_array_of_itself : resolve_tree (main (then (array_named (id "t" 1) 1 1 2 (id "t" 2)) no_declaration) (one skip) 2) ≡ faults kind.Undeclared 2
row_array_of_itself = refl

-- ---- split procedures

-- proc main / pre proc p / begin skip end
pub row_no_post : resolve_tree (main (then (pre_item (plain (id "p" 2))) no_declaration) (one skip) 3) ≡ faults kind.Split 2
row_no_post = refl

-- the first one that is not completed, before the statements:
-- proc main pre proc / p pre proc / q begin / x end
pub row_two_without_post : resolve_tree
    (main (then (pre_item (plain (id "p" 2))) (then (pre_item (plain (id "q" 3))) no_declaration)) (one (call (id "x"
    4) None)) 4)
    ≡ faults kind.Split 2
row_two_without_post = refl

-- the first procedure of a scope that is not completed, at its `begin`:
-- proc main pre proc q post proc q begin skip end / module pre proc / p pre proc q / post proc q begin skip end begin skip end begin skip end
pub row_first_without_post : resolve_tree
    (main (then (pre_item (plain (id "q" 1))) (then (post_of (plain (id "q" 1)) no_declaration (one skip) 1)
    (next_declaration (module_declaration (module_with (next_member (item_member (pre_item (plain (id "p" 3))))
    (next_member (item_member (pre_item (plain (id "q" 3)))) (next_member (item_member (post_of (plain (id "q" 4))
    no_declaration (one skip) 4)) no_member))) (one skip))) no_declaration))) (one skip) 4)
    ≡ faults kind.Split 3
row_first_without_post = refl

-- proc main post proc / p begin skip end begin skip end
pub row_no_pre : resolve_tree (main (then (post_of (plain (id "p" 2)) no_declaration (one skip) 2) no_declaration) (one skip) 2) ≡ faults kind.Split 2
row_no_pre = refl

-- proc main / pre proc p(a, b: int) / post proc p(a: int; b: char) begin skip end / begin skip end
pub row_other_shape : resolve_tree
    (main (then (pre_item (taking (id "p" 2) (value_param (group (id "a" 2) (next_name (id "b" 2) no_name) (id "int"
    2))) None)) (then (post_of (heading (id "p" 3) (params (value_named (id "a" 3) (id "int" 3)) (next_param
    (value_named (id "b" 3) (id "char" 3)) no_param)) None) no_declaration (one skip) 3) no_declaration)) (one skip)
    4)
    ≡ faults kind.Split 3
row_other_shape = refl

-- proc main / pre proc p: int / post proc p: char begin skip end / begin skip end
pub row_other_result : resolve_tree
    (main (then (pre_item (heading (id "p" 2) no_params (Some (id "int" 2)))) (then (post_of (heading (id "p" 3)
    no_params (Some (id "char" 3))) no_declaration (one skip) 3) no_declaration)) (one skip) 4)
    ≡ faults kind.Split 3
row_other_result = refl

-- proc main / pre proc p(a: int) / post proc p(var a: int) begin skip end / begin skip end
pub row_other_parameter_kind : resolve_tree
    (main (then (pre_item (taking (id "p" 2) (value_named (id "a" 2) (id "int" 2)) None)) (then (post_of (taking (id
    "p" 3) (variable_named (id "a" 3) (id "int" 3)) None) no_declaration (one skip) 3) no_declaration)) (one skip) 4)
    ≡ faults kind.Split 3
row_other_parameter_kind = refl

-- proc main pre proc p(var a: int) post proc / p(var a: char) begin skip end begin skip end
pub row_other_variable_type : resolve_tree
    (main (then (pre_item (taking (id "p" 1) (variable_named (id "a" 1) (id "int" 1)) None)) (then (post_of (taking
    (id "p" 2) (variable_named (id "a" 2) (id "char" 2)) None) no_declaration (one skip) 2) no_declaration)) (one
    skip) 2)
    ≡ faults kind.Split 2
row_other_variable_type = refl

-- the names in the `post` count in the body:
-- proc main / pre proc p(a, b: int) / post proc p(c: int; a: int) begin / b := 1 end / begin skip end
pub row_groups_do_not_count : resolve_tree
    (main (then (pre_item (taking (id "p" 2) (value_param (group (id "a" 2) (next_name (id "b" 2) no_name) (id "int"
    2))) None)) (then (post_of (heading (id "p" 3) (params (value_named (id "c" 3) (id "int" 3)) (next_param
    (value_named (id "a" 3) (id "int" 3)) no_param)) None) no_declaration (one (sets (id "b" 4) 4 (literal 1))) 4)
    no_declaration)) (one skip) 5)
    ≡ faults kind.Undeclared 4
row_groups_do_not_count = refl

-- the result is looked up from inside the scope of the heading:
-- proc main proc f(int: char): / int begin skip end begin skip end
pub row_result_inside_scope : resolve_tree
    (main (then (procedure_of (taking (id "f" 1) (value_named (id "int" 1) (id "char" 1)) (Some (id "int" 2)))
    no_declaration (one skip) 2) no_declaration) (one skip) 2)
    ≡ faults kind.Kind 2
row_result_inside_scope = refl

-- proc main / pre proc p / proc q / post proc p begin skip end / begin skip end / post proc p begin skip end begin skip end
pub row_inner_scope : resolve_tree
    (main (then (pre_item (plain (id "p" 2))) (then (procedure_of (plain (id "q" 3)) (then (post_of (plain (id "p" 4))
    no_declaration (one skip) 4) no_declaration) (one skip) 5) (then (post_of (plain (id "p" 6)) no_declaration (one
    skip) 6) no_declaration))) (one skip) 6)
    ≡ faults kind.Split 4
row_inner_scope = refl

-- proc main / pre proc p / post proc p begin skip end / post proc p begin skip end begin skip end
pub row_completed_twice : resolve_tree
    (main (then (pre_item (plain (id "p" 2))) (then (post_of (plain (id "p" 3)) no_declaration (one skip) 3) (then
    (post_of (plain (id "p" 4)) no_declaration (one skip) 4) no_declaration))) (one skip) 4)
    ≡ faults kind.Split 4
row_completed_twice = refl

-- a heading is judged before its name:
-- proc main / post proc p(a: / b) begin skip end begin skip end
pub row_heading_before_pre : resolve_tree
    (main (then (post_of (taking (id "p" 2) (value_named (id "a" 2) (id "b" 3)) None) no_declaration (one skip) 3)
    no_declaration) (one skip) 3)
    ≡ faults kind.Undeclared 3
row_heading_before_pre = refl

-- ---- assignments and conditions

-- proc main var a: int begin a / := true end
pub row_two_types : resolve_tree
    (with_variable (id "a" 1) (id "int" 1) (one (sets (id "a" 1) 2 (only (named (id "true" 2))))) 2)
    ≡ faults kind.Types 2
row_two_types = refl

-- types are the same only where they are one declaration:
-- proc main array s [1:2] (int) array t [1:2] (int) var a: s; b: t begin a / := b end
pub row_one_shape : resolve_tree
    (main (then (array_named (id "s" 1) 1 1 2 (id "int" 1)) (then (array_named (id "t" 1) 1 1 2 (id "int" 1)) (then
    (var_item (var_list (grouped (id "a" 1) (id "s" 1)) (next_group (grouped (id "b" 1) (id "t" 1)) no_group)))
    no_declaration))) (one (sets (id "a" 1) 2 (only (named (id "b" 2))))) 2)
    ≡ faults kind.Types 2
unfolding size
row_one_shape = refl

-- proc main begin if 1 / do skip end end
pub row_condition : resolve_tree
    (main no_declaration (one (if_statement (conditions (condition (literal 1) 2 (one skip)) no_else))) 2)
    ≡ faults kind.Types 2
row_condition = refl

-- proc main begin while 1 / do / x end end
pub row_condition_first : resolve_tree
    (main no_declaration (one (while_statement (conditions (condition (literal 1) 2 (one (call (id "x" 3) None)))
    no_else))) 3)
    ≡ faults kind.Types 2
row_condition_first = refl

-- proc main begin cobegin 'a' / do skip end end
pub row_branch_constant : resolve_tree
    (main no_declaration (one (cobegin 1 (branch (constant.Char (record { character = 97; line = 1 })) 2 (one skip))
    (no_branch 2))) 2)
    ≡ faults kind.Types 2
row_branch_constant = refl

-- ---- the number of an enumeration's constants

-- the constant behind the 32,768th; one that repeats a name is ambiguous all the same
pub row_constants : enum_constants false 3 32767 (next_name (id "a" 1) (next_name (id "b" 2) no_name)) at_first ≡ faults kind.Range 2
row_constants = refl

pub row_constants_twice : enum_constants false 3 32767 (next_name (id "a" 1) (next_name (id "a" 2) no_name)) at_first
    ≡ faults kind.Ambiguous 2
row_constants_twice = refl
