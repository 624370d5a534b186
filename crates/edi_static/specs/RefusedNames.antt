-- Computed rows. Refused programs: the first construct that breaks a rule on names, by kind and line.
-- The text of each stands in its comment, where `/` ends a line.
use Rattle.std.specs.Prelude.{◌≡◌, pos, Some, None, codes, refl}
use Rattle.edi_tree.specs.declared.constants.Constant.TheVariants as constant
use Rattle.edi_tree.specs.declared.expressions.Root.TheVariants as root
use Rattle.edi_tree.specs.Tree.{no_name, next_name, no_const_decl, next_const_decl, const_list, group, no_group, next_group, enum_decl, record_decl, heading}
use Rattle.edi_tree.specs.Tree.{no_params, params, no_param, next_param, no_expr, string, call_factor, args, variable, field, no_selector, next_selector}
use Rattle.edi_tree.specs.Tree.{skip, assignment, call, procedure, const_item, type_item, pre_item, module_with, item_member, exported_member, no_member}
use Rattle.edi_tree.specs.Tree.{next_member, module_declaration, no_declaration, next_declaration, const_global, no_global, next_global, program}
use Rattle.edi_unit.specs.Types.{size}
use Rattle.edi_static.specs.declared.faults.StaticKind.TheVariants as kind
use Rattle.edi_static.specs.Judged.{faults}
use Rattle.edi_static.specs.Programs.{resolve_tree}
use Rattle.edi_static.specs.Accepted.{behind_module}
use Rattle.edi_static.specs.Written.{id, only, named, literal, sets, returns, call_with, one, two, grouped, variable_of, record_of_one, constant_named}
use Rattle.edi_static.specs.Written.{with_variable, value_named, plain, taking, procedure_of, post_of, then, main}

-- ---- used names

-- a name of a module that is not exported is not seen outside it:
-- proc main(proc display(value: char)) / module / var hidden: char / * proc show begin display(hidden) end / begin hidden := 'm' end / begin show;
-- display(hidden) end
pub row_hidden : resolve_tree
    (behind_module (two (call (id "show" 6) None) (call_with (id "display" 6) (only (named (id "hidden" 6))))))
    ≡ faults kind.Undeclared 6
unfolding size
row_hidden = refl

-- a name is used behind its declaration:
-- proc main / proc p begin q end / proc q begin skip end / begin p end
pub row_used_before : resolve_tree
    (main (then (procedure_of (plain (id "p" 2)) no_declaration (one (call (id "q" 2) None)) 2) (then (procedure_of
    (plain (id "q" 3)) no_declaration (one skip) 3) no_declaration)) (one (call (id "p" 4) None)) 4)
    ≡ faults kind.Undeclared 2
row_used_before = refl

-- proc main / var x: int / begin x := / addr end
pub row_left_out : resolve_tree
    (with_variable (id "x" 2) (id "int" 2) (one (sets (id "x" 3) 3 (only (named (id "addr" 4))))) 4)
    ≡ faults kind.NotInProfile 4
row_left_out = refl

-- a field is no name of the scopes:
-- proc main / record r (f: int) / var v: r / begin v. / addr := 1 end
pub row_left_out_field : resolve_tree
    (main (then (record_of_one (id "r" 2) (id "f" 2) (id "int" 2)) (then (variable_of (id "v" 3) (id "r" 3))
    no_declaration)) (one (assignment (variable (root.Name (id "v" 4)) (next_selector (field 4 (id "addr" 5))
    no_selector)) 5 (literal 1))) 5)
    ≡ faults kind.Undeclared 5
unfolding size
row_left_out_field = refl

-- ---- declared names

-- proc main / const a = 1; a = 2 / begin skip end
pub row_twice : resolve_tree
    (main (then (const_item (const_list (record { name = id "a" 2; constant = constant.Numeral (pos 1) })
    (next_const_decl (record { name = id "a" 2; constant = constant.Numeral (pos 2) }) no_const_decl)))
    no_declaration) (one skip) 3)
    ≡ faults kind.Ambiguous 2
row_twice = refl

-- a name may be declared again in an inner scope, and means the outer one again behind it:
-- proc main / var a: int / proc p / var a: char / begin a := 'c' end / begin a := true end
pub row_enclosing : resolve_tree
    (main (then (variable_of (id "a" 2) (id "int" 2)) (then (procedure_of (plain (id "p" 3)) (then (variable_of (id
    "a" 4) (id "char" 4)) no_declaration) (one (sets (id "a" 5) 5 (only (string (record {
      text = codes "c";
      line = 5;
    }))))) 5) no_declaration)) (one (sets (id "a" 6) 6 (only (named (id "true" 6))))) 6)
    ≡ faults kind.Types 6
unfolding size
row_enclosing = refl

-- proc main / record r (f: int; g, / f: char) / begin skip end
pub row_field_twice : resolve_tree
    (main (then (type_item (record_decl (id "r" 2) (grouped (id "f" 2) (id "int" 2)) (next_group (group (id "g" 2)
    (next_name (id "f" 3) no_name) (id "char" 3)) no_group))) no_declaration) (one skip) 4)
    ≡ faults kind.Ambiguous 3
row_field_twice = refl

-- proc main / proc p(a: int; / a: char) begin skip end / begin skip end
pub row_parameter_twice : resolve_tree
    (main (then (procedure_of (heading (id "p" 2) (params (value_named (id "a" 2) (id "int" 2)) (next_param
    (value_named (id "a" 3) (id "char" 3)) no_param)) None) no_declaration (one skip) 3) no_declaration) (one skip) 4)
    ≡ faults kind.Ambiguous 3
row_parameter_twice = refl

-- an exported name must be new in the scope round the module too:
-- proc main / var a: int / module * const b = 1; / a = 2 begin skip end / begin skip end
pub row_exported_twice : resolve_tree
    (main (then (variable_of (id "a" 2) (id "int" 2)) (next_declaration (module_declaration (module_with (next_member
    (exported_member (const_item (const_list (record { name = id "b" 3; constant = constant.Numeral (pos 1) })
    (next_const_decl (record { name = id "a" 4; constant = constant.Numeral (pos 2) }) no_const_decl)))) no_member)
    (one skip))) no_declaration)) (one skip) 5)
    ≡ faults kind.Ambiguous 4
row_exported_twice = refl

-- an exported name stays in its module too:
-- proc main module * const b = 1 const / b = 2 begin skip end begin skip end
pub row_exported_stays : resolve_tree
    (main (next_declaration (module_declaration (module_with (next_member (exported_member (constant_named (id "b" 1)
    (constant.Numeral (pos 1)))) (next_member (item_member (constant_named (id "b" 2) (constant.Numeral (pos 2))))
    no_member)) (one skip))) no_declaration) (one skip) 2)
    ≡ faults kind.Ambiguous 2
row_exported_stays = refl

-- proc main / var a: int / module const b = 1; / a = true begin a := 1 end / begin skip end
pub row_unexported_twice : resolve_tree
    (main (then (variable_of (id "a" 2) (id "int" 2)) (next_declaration (module_declaration (module_with (next_member
    (item_member (const_item (const_list (record { name = id "b" 3; constant = constant.Numeral (pos 1) })
    (next_const_decl (record { name = id "a" 4; constant = constant.Name (id "true" 4) None }) no_const_decl))))
    no_member) (one (sets (id "a" 4) 4 (literal 1))))) no_declaration)) (one skip) 5)
    ≡ faults kind.Kind 4
row_unexported_twice = refl

-- a split procedure is exported once:
-- proc main / module * pre proc p / * post proc / p begin skip end begin skip end / begin skip end
pub row_both_exported : resolve_tree
    (main (next_declaration (module_declaration (module_with (next_member (exported_member (pre_item (plain (id "p"
    2)))) (next_member (exported_member (post_of (plain (id "p" 4)) no_declaration (one skip) 4)) no_member)) (one
    skip))) no_declaration) (one skip) 5)
    ≡ faults kind.Ambiguous 4
row_both_exported = refl

-- a split procedure is exported by its `post` alone:
-- proc main / module pre proc p * post proc p begin skip end begin skip end / begin p; / x end
pub row_post_exported : resolve_tree
    (main (next_declaration (module_declaration (module_with (next_member (item_member (pre_item (plain (id "p" 2))))
    (next_member (exported_member (post_of (plain (id "p" 2)) no_declaration (one skip) 2)) no_member)) (one skip)))
    no_declaration) (two (call (id "p" 3) None) (call (id "x" 4) None)) 4)
    ≡ faults kind.Undeclared 4
row_post_exported = refl

-- proc main / module * pre proc p post proc p begin skip end begin skip end / begin p; / x end
pub row_pre_exported : resolve_tree
    (main (next_declaration (module_declaration (module_with (next_member (exported_member (pre_item (plain (id "p"
    2)))) (next_member (item_member (post_of (plain (id "p" 2)) no_declaration (one skip) 2)) no_member)) (one skip)))
    no_declaration) (two (call (id "p" 3) None) (call (id "x" 4) None)) 4)
    ≡ faults kind.Undeclared 4
row_pre_exported = refl

-- an enumeration is exported with its constants:
-- proc main / module * enum e (a, b) begin skip end / var x: e / begin x := b; / y end
pub row_constants_exported : resolve_tree
    (main (next_declaration (module_declaration (module_with (next_member (exported_member (type_item (enum_decl (id
    "e" 2) (id "a" 2) (next_name (id "b" 2) no_name)))) no_member) (one skip))) (then (variable_of (id "x" 3) (id "e"
    3)) no_declaration)) (two (sets (id "x" 4) 4 (only (named (id "b" 4)))) (call (id "y" 5) None)) 5)
    ≡ faults kind.Undeclared 5
row_constants_exported = refl

-- the name of an enumeration is declared before its constants:
-- proc main enum / e (a, / e) begin skip end
pub row_enum_in_itself : resolve_tree
    (main (then (type_item (enum_decl (id "e" 2) (id "a" 2) (next_name (id "e" 3) no_name))) no_declaration) (one
    skip) 3)
    ≡ faults kind.Ambiguous 3
row_enum_in_itself = refl

-- the name of a procedure is declared behind its parameters:
-- proc main proc p begin skip end proc / p(a: / b) begin skip end begin skip end
pub row_own_name_last : resolve_tree
    (main (then (procedure_of (plain (id "p" 1)) no_declaration (one skip) 1) (then (procedure_of (taking (id "p" 2)
    (value_named (id "a" 2) (id "b" 3)) None) no_declaration (one skip) 3) no_declaration)) (one skip) 3)
    ≡ faults kind.Undeclared 3
row_own_name_last = refl

-- a procedure has one scope for its parameters and its declarations:
-- proc main proc p(a: int) var / a: int begin skip end begin skip end
pub row_parameter_as_local : resolve_tree
    (main (then (procedure_of (taking (id "p" 1) (value_named (id "a" 1) (id "int" 1)) None) (then (variable_of (id
    "a" 2) (id "int" 2)) no_declaration) (one skip) 2) no_declaration) (one skip) 2)
    ≡ faults kind.Ambiguous 2
row_parameter_as_local = refl

-- the program is declared before its heading is judged by the rules on programs:
-- const main = 1 proc / main: int begin skip end
pub row_program_declares_itself : resolve_tree
    (program (next_global (const_global (const_list (record {
      name = id "main" 1;
      constant = constant.Numeral (pos 1);
    }) no_const_decl)) no_global) (procedure (heading (id "main" 2) no_params (Some (id "int" 2))) no_declaration (one
    skip) 2))
    ≡ faults kind.Ambiguous 2
row_program_declares_itself = refl

-- ---- kinds of names

-- proc main / const c = 1 / var x: c / begin skip end
pub row_no_type : resolve_tree
    (main (then (constant_named (id "c" 2) (constant.Numeral (pos 1))) (then (variable_of (id "x" 3) (id "c" 3))
    no_declaration)) (one skip) 4)
    ≡ faults kind.Kind 3
row_no_type = refl

-- proc main / var x: int / const c = / x / begin skip end
pub row_no_constant : resolve_tree
    (main (then (variable_of (id "x" 2) (id "int" 2)) (then (constant_named (id "c" 3) (constant.Name (id "x" 4)
    None)) no_declaration)) (one skip) 5)
    ≡ faults kind.Kind 4
row_no_constant = refl

-- proc main / const c = 1 / begin / c := 1 end
pub row_no_variable : resolve_tree
    (main (then (constant_named (id "c" 2) (constant.Numeral (pos 1))) no_declaration) (one (sets (id "c" 4) 4
    (literal 1))) 4)
    ≡ faults kind.Kind 4
row_no_variable = refl

-- proc main / var x: int / begin / x end
pub row_no_procedure : resolve_tree (with_variable (id "x" 2) (id "int" 2) (one (call (id "x" 4) None)) 4) ≡ faults kind.Kind 4
row_no_procedure = refl

-- the name before arguments is judged before them:
-- proc main / var x: int / begin x := / x(y) end
pub row_nothing_to_apply : resolve_tree
    (with_variable (id "x" 2) (id "int" 2) (one (sets (id "x" 3) 3 (only (call_factor (id "x" 4) (args (only (named
    (id "y" 4))) no_expr))))) 4)
    ≡ faults kind.Kind 4
row_nothing_to_apply = refl

-- proc main / proc f: int begin val f := 1 end / begin val / f := 2 end
pub row_val_outside : resolve_tree
    (main (then (procedure_of (heading (id "f" 2) no_params (Some (id "int" 2))) no_declaration (one (returns (id "f"
    2) 2 (literal 1))) 2) no_declaration) (one (returns (id "f" 4) 4 (literal 2))) 4)
    ≡ faults kind.Kind 4
unfolding size
row_val_outside = refl

-- proc main / proc f begin val / f := 1 end / begin f end
pub row_val_of_procedure : resolve_tree
    (main (then (procedure_of (plain (id "f" 2)) no_declaration (one (returns (id "f" 3) 3 (literal 1))) 3)
    no_declaration) (one (call (id "f" 4) None)) 4)
    ≡ faults kind.Kind 3
row_val_of_procedure = refl

-- the variable of a function is seen in the procedures declared in it:
-- proc main / var x: int / proc f: char proc g begin / val f := 1 end begin g end / begin x := f end
pub row_val_inside : resolve_tree
    (main (then (variable_of (id "x" 2) (id "int" 2)) (then (procedure_of (heading (id "f" 3) no_params (Some (id
    "char" 3))) (then (procedure_of (plain (id "g" 3)) no_declaration (one (returns (id "f" 4) 4 (literal 1))) 4)
    no_declaration) (one (call (id "g" 4) None)) 4) no_declaration)) (one (sets (id "x" 5) 5 (only (named (id "f"
    5))))) 5)
    ≡ faults kind.Types 4
row_val_inside = refl
