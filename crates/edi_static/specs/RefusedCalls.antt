-- Computed rows. Refused programs: the first construct that breaks a rule on calls and constructors, by kind and line.
-- The text of each stands in its comment, where `/` ends a line.
use Rattle.std.specs.Prelude.{◌≡◌, pos, Some, None, codes, refl}
use Rattle.edi_tree.specs.declared.constants.Constant.TheVariants as constant
use Rattle.edi_tree.specs.declared.expressions.Root.TheVariants as root
use Rattle.edi_tree.specs.Tree.{Program, StatementList, Item, next_group, no_name, next_name, group, no_group, record_decl, heading, no_params, params, no_param}
use Rattle.edi_tree.specs.Tree.{next_param, procedure_param, no_expr, next_expr, string, parenthesized, call_factor, variable_factor, args, variable, index}
use Rattle.edi_tree.specs.Tree.{no_selector, next_selector, list, no_statement, next_statement, skip, call, type_item, no_declaration}
use Rattle.edi_unit.specs.Types.{size}
use Rattle.edi_static.specs.declared.faults.StaticKind.TheVariants as kind
use Rattle.edi_static.specs.Judged.{faults}
use Rattle.edi_static.specs.Programs.{resolve_tree}
use Rattle.edi_static.specs.Written.{grouped, id, only, named, literal, sets, returns, call_with, one, two, variable_of, record_of_one, constant_named, with_variable}
use Rattle.edi_static.specs.Written.{array_named, set_named, value_named, variable_named, plain, taking, procedure_of, then, main}

-- `proc p(proc r) begin r end`
abbrev calls_parameter : Item
calls_parameter = procedure_of (taking (id "p" 1) (procedure_param (plain (id "r" 1))) None) no_declaration (one (call (id "r" 1) None)) 1

-- `proc main record r (f: int; g: char) var x: r begin .. end`
abbrev with_record : StatementList → Program
with_record s =
    main (then (type_item (record_decl (id "r" 1) (grouped (id "f" 1) (id "int" 1)) (next_group (grouped (id "g" 1) (id "char" 1)) no_group)))
    (then (variable_of (id "x" 1) (id "r" 1)) no_declaration)) s 2

-- ---- calls

-- proc main proc f: int begin val f := 1 end begin / f end
pub row_function_as_statement : resolve_tree
    (main (then (procedure_of (heading (id "f" 1) no_params (Some (id "int" 1))) no_declaration (one (returns (id "f"
    1) 1 (literal 1))) 1) no_declaration) (one (call (id "f" 2) None)) 2)
    ≡ faults kind.Call 2
unfolding size
row_function_as_statement = refl

-- proc main var x: int proc p begin skip end begin x := / p end
pub row_procedure_as_value : resolve_tree
    (main (then (variable_of (id "x" 1) (id "int" 1)) (then (procedure_of (plain (id "p" 1)) no_declaration (one skip)
    1) no_declaration)) (one (sets (id "x" 1) 1 (only (named (id "p" 2))))) 2)
    ≡ faults kind.Call 2
row_procedure_as_value = refl

-- the number of arguments is judged before them:
-- proc main proc p(a: int) begin skip end begin / p(1, x) end
pub row_number_of_arguments : resolve_tree
    (main (then (procedure_of (taking (id "p" 1) (value_named (id "a" 1) (id "int" 1)) None) no_declaration (one skip)
    1) no_declaration) (one (call (id "p" 2) (Some (args (literal 1) (next_expr (only (named (id "x" 2))) no_expr)))))
    2)
    ≡ faults kind.Call 2
unfolding size
row_number_of_arguments = refl

-- an argument is fitted before the next is judged:
-- proc main proc p(a: int; b: int) begin skip end begin / p(true, / x) end
pub row_type_of_argument : resolve_tree
    (main (then (procedure_of (heading (id "p" 1) (params (value_named (id "a" 1) (id "int" 1)) (next_param
    (value_named (id "b" 1) (id "int" 1)) no_param)) None) no_declaration (one skip) 1) no_declaration) (one (call (id
    "p" 2) (Some (args (only (named (id "true" 2))) (next_expr (only (named (id "x" 3))) no_expr))))) 3)
    ≡ faults kind.Call 2
unfolding size
row_type_of_argument = refl

-- for a `var` parameter a variable stands alone:
-- proc main var x: int proc p(var a: int) begin skip end begin p(x); / p((x)) end
pub row_variable_argument : resolve_tree
    (main (then (variable_of (id "x" 1) (id "int" 1)) (then (procedure_of (taking (id "p" 1) (variable_named (id "a"
    1) (id "int" 1)) None) no_declaration (one skip) 1) no_declaration)) (two (call_with (id "p" 1) (only (named (id
    "x" 1)))) (call_with (id "p" 2) (only (parenthesized (only (named (id "x" 2))))))) 2)
    ≡ faults kind.Call 2
row_variable_argument = refl

-- proc main var c: char proc p(var a: int) begin skip end begin / p(c) end
pub row_type_of_variable : resolve_tree
    (main (then (variable_of (id "c" 1) (id "char" 1)) (then (procedure_of (taking (id "p" 1) (variable_named (id "a"
    1) (id "int" 1)) None) no_declaration (one skip) 1) no_declaration)) (one (call_with (id "p" 2) (only (named (id
    "c" 2))))) 2)
    ≡ faults kind.Call 2
row_type_of_variable = refl

-- proc main var x: int proc f(a: int): int begin val f := a end begin x := f(1); x := / f(1, y) end
pub row_number_in_expression : resolve_tree
    (main (then (variable_of (id "x" 1) (id "int" 1)) (then (procedure_of (taking (id "f" 1) (value_named (id "a" 1)
    (id "int" 1)) (Some (id "int" 1))) no_declaration (one (returns (id "f" 1) 1 (only (named (id "a" 1))))) 1)
    no_declaration)) (two (sets (id "x" 1) 1 (only (call_factor (id "f" 1) (args (literal 1) no_expr)))) (sets (id "x"
    1) 1 (only (call_factor (id "f" 2) (args (literal 1) (next_expr (only (named (id "y" 2))) no_expr)))))) 2)
    ≡ faults kind.Call 2
unfolding size
row_number_in_expression = refl

-- proc main proc q(a: int) begin skip end proc p(proc r(b: int)) begin r(1) end begin p(q); / p(p) end
pub row_procedure_argument : resolve_tree
    (main (then (procedure_of (taking (id "q" 1) (value_named (id "a" 1) (id "int" 1)) None) no_declaration (one skip)
    1) (then (procedure_of (taking (id "p" 1) (procedure_param (taking (id "r" 1) (value_named (id "b" 1) (id "int"
    1)) None)) None) no_declaration (one (call_with (id "r" 1) (literal 1))) 1) no_declaration)) (two (call_with (id
    "p" 1) (only (named (id "q" 1)))) (call_with (id "p" 2) (only (named (id "p" 2))))) 2)
    ≡ faults kind.Call 2
unfolding size
row_procedure_argument = refl

-- proc main proc q(proc s(a: char)) begin skip end proc p(proc r(proc s(a: int))) begin skip end begin / p(q) end
pub row_nested_shape : resolve_tree
    (main (then (procedure_of (taking (id "q" 1) (procedure_param (taking (id "s" 1) (value_named (id "a" 1) (id
    "char" 1)) None)) None) no_declaration (one skip) 1) (then (procedure_of (taking (id "p" 1) (procedure_param
    (taking (id "r" 1) (procedure_param (taking (id "s" 1) (value_named (id "a" 1) (id "int" 1)) None)) None)) None)
    no_declaration (one skip) 1) no_declaration)) (one (call_with (id "p" 2) (only (named (id "q" 2))))) 2)
    ≡ faults kind.Call 2
row_nested_shape = refl

-- proc main proc q begin skip end proc p(proc r) begin r end begin p(q); / p((q)) end
pub row_procedure_expression : resolve_tree
    (main (then (procedure_of (plain (id "q" 1)) no_declaration (one skip) 1) (then calls_parameter no_declaration))
    (two (call_with (id "p" 1) (only (named (id "q" 1)))) (call_with (id "p" 2) (only (parenthesized (only (named (id
    "q" 2))))))) 2)
    ≡ faults kind.Call 2
row_procedure_expression = refl

-- proc main proc p(proc r) begin r end begin / p( / x[1]) end
pub row_judged_as_expression : resolve_tree
    (main (then calls_parameter no_declaration) (one (call_with (id "p" 2) (only (variable_factor (variable (root.Name
    (id "x" 3)) (next_selector (index 3 (literal 1)) no_selector)))))) 3)
    ≡ faults kind.Undeclared 3
row_judged_as_expression = refl

-- proc main set s (int) array t [1:2] (int) proc p(var a: int) begin skip end begin / p( / t) end
pub row_type_for_variable : resolve_tree
    (main (then (set_named (id "s" 1) (id "int" 1)) (then (array_named (id "t" 1) 1 1 2 (id "int" 1)) (then
    (procedure_of (taking (id "p" 1) (variable_named (id "a" 1) (id "int" 1)) None) no_declaration (one skip) 1)
    no_declaration))) (one (call_with (id "p" 2) (only (named (id "t" 3))))) 3)
    ≡ faults kind.Constructor 3
unfolding size
row_type_for_variable = refl

-- proc main begin / int(1) end
pub row_type_as_statement : resolve_tree (main no_declaration (one (call_with (id "int" 2) (literal 1))) 2) ≡ faults kind.Kind 2
row_type_as_statement = refl

-- proc main const c = 1 var x: int begin x := / c(1) end
pub row_constant_before_arguments : resolve_tree
    (main (then (constant_named (id "c" 1) (constant.Numeral (pos 1))) (then (variable_of (id "x" 1) (id "int" 1))
    no_declaration)) (one (sets (id "x" 1) 1 (only (call_factor (id "c" 2) (args (literal 1) no_expr))))) 2)
    ≡ faults kind.Kind 2
row_constant_before_arguments = refl

-- proc main proc p(proc r) begin r end begin / p(halt) end
pub row_halt_as_argument : resolve_tree
    (main (then calls_parameter no_declaration) (one (call_with (id "p" 2) (only (named (id "halt" 2))))) 2)
    ≡ faults kind.Call 2
row_halt_as_argument = refl

-- proc main begin / halt(1) end
pub row_halt_with_argument : resolve_tree (main no_declaration (one (call_with (id "halt" 2) (literal 1))) 2) ≡ faults kind.Call 2
row_halt_with_argument = refl

-- proc main proc p(proc r) begin r end begin p( / q) end
pub row_unknown_argument : resolve_tree
    (main (then calls_parameter no_declaration) (one (call_with (id "p" 1) (only (named (id "q" 2))))) 2)
    ≡ faults kind.Undeclared 2
row_unknown_argument = refl

-- ---- names alone and constructors

-- proc main record r (f: int) var x: r begin x := / r end
pub row_record_alone : resolve_tree
    (main (then (record_of_one (id "r" 1) (id "f" 1) (id "int" 1)) (then (variable_of (id "x" 1) (id "r" 1))
    no_declaration)) (one (sets (id "x" 1) 1 (only (named (id "r" 2))))) 2)
    ≡ faults kind.Constructor 2
unfolding size
row_record_alone = refl

-- proc main record r (f: int; g: char) var x: r begin x := / r(1) end
pub row_too_few_fields : resolve_tree
    (with_record (one (sets (id "x" 1) 1 (only (call_factor (id "r" 2) (args (literal 1) no_expr))))))
    ≡ faults kind.Constructor 2
unfolding size
row_too_few_fields = refl

-- proc main record r (f: int; g: char) var x: r begin x := r(1, 'a'); x := / r(1, 2) end
pub row_wrong_field : resolve_tree
    (with_record (two (sets (id "x" 1) 1 (only (call_factor (id "r" 1) (args (literal 1) (next_expr (only (string
    (record { text = codes "a"; line = 1 }))) no_expr))))) (sets (id "x" 1) 1 (only (call_factor (id "r" 2) (args
    (literal 1) (next_expr (literal 2) no_expr)))))))
    ≡ faults kind.Constructor 2
unfolding size
row_wrong_field = refl

-- proc main array t [1:2] (int) var x: t begin x := t(1, 2); x := / t(1, 2, 3) end
pub row_too_many_elements : resolve_tree
    (main (then (array_named (id "t" 1) 1 1 2 (id "int" 1)) (then (variable_of (id "x" 1) (id "t" 1)) no_declaration))
    (two (sets (id "x" 1) 1 (only (call_factor (id "t" 1) (args (literal 1) (next_expr (literal 2) no_expr))))) (sets
    (id "x" 1) 1 (only (call_factor (id "t" 2) (args (literal 1) (next_expr (literal 2) (next_expr (literal 3)
    no_expr))))))) 2)
    ≡ faults kind.Constructor 2
unfolding size
row_too_many_elements = refl

-- proc main record r (f: int) var x: int begin x := / int(r(1)) end
pub row_record_converted : resolve_tree
    (main (then (record_of_one (id "r" 1) (id "f" 1) (id "int" 1)) (then (variable_of (id "x" 1) (id "int" 1))
    no_declaration)) (one (sets (id "x" 1) 1 (only (call_factor (id "int" 2) (args (only (call_factor (id "r" 2) (args
    (literal 1) no_expr))) no_expr))))) 2)
    ≡ faults kind.Constructor 2
unfolding size
row_record_converted = refl

-- proc main array t [1:2] (int) var x: t begin x := t( / 'ab') end
pub row_string_in_integers : resolve_tree
    (main (then (array_named (id "t" 1) 1 1 2 (id "int" 1)) (then (variable_of (id "x" 1) (id "t" 1)) no_declaration))
    (one (sets (id "x" 1) 1 (only (call_factor (id "t" 1) (args (only (string (record {
      text = codes "ab";
      line = 2;
    }))) no_expr))))) 2)
    ≡ faults kind.Constructor 2
unfolding size
row_string_in_integers = refl

-- proc main array t [1:2] (int) var x: t begin x := / t( / y, 'ab') end
pub row_strings_behind_faults : resolve_tree
    (main (then (array_named (id "t" 1) 1 1 2 (id "int" 1)) (then (variable_of (id "x" 1) (id "t" 1)) no_declaration))
    (one (sets (id "x" 1) 1 (only (call_factor (id "t" 2) (args (only (named (id "y" 3))) (next_expr (only (string
    (record { text = codes "ab"; line = 3 }))) no_expr)))))) 3)
    ≡ faults kind.Undeclared 3
unfolding size
row_strings_behind_faults = refl

-- proc main array t [1:2] (int) var x: t begin x := / t(1, true) end
pub row_wrong_element : resolve_tree
    (main (then (array_named (id "t" 1) 1 1 2 (id "int" 1)) (then (variable_of (id "x" 1) (id "t" 1)) no_declaration))
    (one (sets (id "x" 1) 1 (only (call_factor (id "t" 2) (args (literal 1) (next_expr (only (named (id "true" 2)))
    no_expr)))))) 2)
    ≡ faults kind.Constructor 2
unfolding size
row_wrong_element = refl

-- proc main set s (char) var x: s begin x := s; x := s('a', 'b'); x := / s(1) end
pub row_members : resolve_tree
    (main (then (set_named (id "s" 1) (id "char" 1)) (then (variable_of (id "x" 1) (id "s" 1)) no_declaration)) (list
    (sets (id "x" 1) 1 (only (named (id "s" 1)))) (next_statement (sets (id "x" 1) 1 (only (call_factor (id "s" 1)
    (args (only (string (record { text = codes "a"; line = 1 }))) (next_expr (only (string (record {
      text = codes "b";
      line = 1;
    }))) no_expr))))) (next_statement (sets (id "x" 1) 1 (only (call_factor (id "s" 2) (args (literal 1)
    no_expr)))) no_statement))) 2)
    ≡ faults kind.Constructor 2
row_members = refl

-- proc main var x: int begin x := int('a'); x := / int(1, 2) end
pub row_two_ordinals : resolve_tree
    (with_variable (id "x" 1) (id "int" 1) (two (sets (id "x" 1) 1 (only (call_factor (id "int" 1) (args (only (string
    (record { text = codes "a"; line = 1 }))) no_expr)))) (sets (id "x" 1) 1 (only (call_factor (id "int" 2) (args
    (literal 1) (next_expr (literal 2) no_expr)))))) 2)
    ≡ faults kind.Constructor 2
row_two_ordinals = refl

-- a string counts its characters:
-- proc main array t [1:3] (char) var x: t begin x := t('ab', 'c'); x := / t('ab') end
pub row_string_in_array : resolve_tree
    (main (then (array_named (id "t" 1) 1 1 3 (id "char" 1)) (then (variable_of (id "x" 1) (id "t" 1))
    no_declaration)) (two (sets (id "x" 1) 1 (only (call_factor (id "t" 1) (args (only (string (record {
      text = codes
          "ab";
      line = 1;
    }))) (next_expr (only (string (record { text = codes "c"; line = 1 }))) no_expr))))) (sets (id "x"
    1) 1 (only (call_factor (id "t" 2) (args (only (string (record { text = codes "ab"; line = 2 }))) no_expr))))) 2)
    ≡ faults kind.Constructor 2
unfolding size
row_string_in_array = refl

-- a string stands directly in the constructor:
-- proc main array t [1:2] (char) var x: t begin x := t(( / 'ab')) end
pub row_string_alone : resolve_tree
    (main (then (array_named (id "t" 1) 1 1 2 (id "char" 1)) (then (variable_of (id "x" 1) (id "t" 1))
    no_declaration)) (one (sets (id "x" 1) 1 (only (call_factor (id "t" 1) (args (only (parenthesized (only (string
    (record { text = codes "ab"; line = 2 }))))) no_expr))))) 2)
    ≡ faults kind.Constructor 2
unfolding size
row_string_alone = refl

-- proc main record r (f, g: char) var x: r begin x := r( / 'ab') end
pub row_string_in_record : resolve_tree
    (main (then (type_item (record_decl (id "r" 1) (group (id "f" 1) (next_name (id "g" 1) no_name) (id "char" 1))
    no_group)) (then (variable_of (id "x" 1) (id "r" 1)) no_declaration)) (one (sets (id "x" 1) 1 (only (call_factor
    (id "r" 1) (args (only (string (record { text = codes "ab"; line = 2 }))) no_expr))))) 2)
    ≡ faults kind.Constructor 2
unfolding size
row_string_in_record = refl
