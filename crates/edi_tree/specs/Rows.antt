-- Computed rows. Small programs, what is printed for them, and their depth.
use Rattle.std.specs.Prelude.{◌≡◌, refl, ℕ, pos, List, ◌++◌, Some, None, codes, decimal}
use Rattle.edi_tree.specs.declared.names.Name.{Name}
use Rattle.edi_tree.specs.declared.names.Char.{Char}
use Rattle.edi_tree.specs.declared.names.Chars.{Chars}
use Rattle.edi_tree.specs.declared.constants.Constant.{Constant}
use Rattle.edi_tree.specs.declared.constants.ConstDecl.{ConstDecl}
use Rattle.edi_tree.specs.declared.constants.Constant.TheVariants as constant
use Rattle.edi_tree.specs.declared.expressions.Relation.TheVariants as relation
use Rattle.edi_tree.specs.declared.expressions.Sign.TheVariants as sign
use Rattle.edi_tree.specs.declared.expressions.Addition.TheVariants as addition
use Rattle.edi_tree.specs.declared.expressions.Multiplication.TheVariants as multiplication
use Rattle.edi_tree.specs.declared.expressions.Root.TheVariants as root
use Rattle.edi_tree.specs.Tree.{no_name, next_name, no_const_decl, next_const_decl, const_list, group, no_group, next_group, enum_decl, record_decl}
use Rattle.edi_tree.specs.Tree.{array_decl, set_decl, var_list, heading, no_params, params, no_param, next_param, value_param, var_param, procedure_param}
use Rattle.edi_tree.specs.Tree.{expr, no_comparison, compared, no_expr, next_expr, simple, addend, no_addend, next_addend, term, multiplier, no_multiplier}
use Rattle.edi_tree.specs.Tree.{next_multiplier, numeral, string, not_factor, parenthesized, call_factor, variable_factor, args, variable, field, index}
use Rattle.edi_tree.specs.Tree.{no_selector, next_selector, list, no_statement, next_statement, skip, assignment, call, if_statement, while_statement}
use Rattle.edi_tree.specs.Tree.{when_statement, cobegin, conditions, condition, no_else, next_else, branch, no_branch, next_branch, procedure, const_item}
use Rattle.edi_tree.specs.Tree.{var_item, procedure_item, pre_item, post_item, module_with, item_member, exported_member, module_member, no_member}
use Rattle.edi_tree.specs.Tree.{next_member, item_declaration, module_declaration, no_declaration, next_declaration, const_global, type_global, no_global}
use Rattle.edi_tree.specs.Tree.{next_global, Program, program}
use Rattle.edi_tree.specs.Printed.{printed}
use Rattle.edi_tree.specs.Depth.{depth}

abbrev at : List ℕ → ℕ → Name
at text line = record { text = text; line = line }

abbrev quoted : List ℕ → ℕ → Chars
quoted text line = record { text = text; line = line }

abbrev character : ℕ → ℕ → Char
character code line = record { character = code; line = line }

abbrev equal : Name → Constant → ConstDecl
equal name value = record { name = name; constant = value }

-- a program that shows one character
abbrev shows_a : Program
shows_a = program no_global
    (procedure (heading (at (codes "main") 1)
    (params (procedure_param (heading (at (codes "display") 1)
    (params (value_param (group (at (codes "value") 1) no_name (at (codes "char") 1))) no_param) None))
    no_param) None) no_declaration (list
    (call (at (codes "display") 1) (Some (args
    (expr (simple None (term (string (quoted (codes "a") 1)) no_multiplier) no_addend) no_comparison)
    no_expr))) no_statement) 1)

pub row_shows_a : printed shows_a ≡ codes "proc main ( proc display ( value : char ) ) begin display ( 'a' ) end"
row_shows_a = refl

pub depth_of_shows_a : depth shows_a ≡ 4
depth_of_shows_a = refl

-- each declaration of constants and types, and a heading
abbrev declares : Program
declares = program
    (next_global (const_global (const_list (equal (at (codes "c") 1) (constant.Numeral (pos 1)))
    (next_const_decl (equal (at (codes "d") 1) (constant.Char (character 120 1)))
    (next_const_decl (equal (at (codes "e") 1) (constant.Name (at (codes "char") 1) (Some (pos 7))))
    (next_const_decl (equal (at (codes "f") 1) (constant.Name (at (codes "c") 1) None)) no_const_decl)))))
    (next_global (type_global (enum_decl (at (codes "color") 1) (at (codes "red") 1)
    (next_name (at (codes "blue") 1) no_name)))
    (next_global (type_global (record_decl (at (codes "pair") 2)
    (group (at (codes "a") 2) (next_name (at (codes "b") 2) no_name) (at (codes "int") 2))
    (next_group (group (at (codes "c") 2) no_name (at (codes "char") 2)) no_group)))
    (next_global (type_global (array_decl (at (codes "row") 2) 3 (constant.Numeral (pos 1))
    (constant.Name (at (codes "f") 3) None) (at (codes "int") 3)))
    (next_global (type_global (set_decl (at (codes "s") 4) (at (codes "int") 4))) no_global)))))
    (procedure (heading (at (codes "main") 4)
    (params (var_param (group (at (codes "x") 4) (next_name (at (codes "y") 4) no_name) (at (codes "int") 4)))
    (next_param (value_param (group (at (codes "z") 4) no_name (at (codes "int") 4)))
    (next_param (procedure_param (heading (at (codes "p") 4)
    (params (value_param (group (at (codes "a") 4) no_name (at (codes "int") 4))) no_param)
    (Some (at (codes "int") 4)))) no_param))) (Some (at (codes "int") 4))) no_declaration
    (list skip no_statement) 5)

pub row_declares : printed declares ≡ codes "const c = "
    ++ (decimal 1 ++ (codes " ; d = 'x' ; e = char ( "
    ++
    (decimal
    7 ++ (codes " ) ; f = c enum color ( red , blue ) record\npair ( a , b : int ; c : char ) array row\n[ "
    ++
    (decimal
    1
    ++
    (codes
    " : f ] ( int ) set\ns ( int ) proc main ( var x , y : int ; z : int ; proc p ( a : int ) : int ) : int begin skip\nend"))))))
row_declares = refl

pub depth_of_declares : depth declares ≡ 4
depth_of_declares = refl

-- procedures, modules, statements and expressions, on several lines
abbrev performs : Program
performs = program no_global
    (procedure (heading (at (codes "main") 1) no_params None)
    (next_declaration (item_declaration (var_item
    (var_list (group (at (codes "v") 2) (next_name (at (codes "w") 2) no_name) (at (codes "int") 2))
    (next_group (group (at (codes "u") 2) no_name (at (codes "row") 2)) no_group))))
    (next_declaration (item_declaration (pre_item
    (heading (at (codes "q") 2) (params (value_param (group (at (codes "a") 2) no_name (at (codes "int") 2)))
    no_param) None))) (next_declaration
    (module_declaration (module_with (next_member
    (exported_member (procedure_item (procedure (heading (at (codes "r") 3) no_params None) no_declaration
    (list skip no_statement) 3))) (next_member
    (item_member (var_item (var_list (group (at (codes "k") 3) no_name (at (codes "int") 3)) no_group)))
    (next_member (module_member (module_with
    (next_member (exported_member (const_item
    (const_list (equal (at (codes "b") 3) (constant.Numeral (pos 2))) no_const_decl))) no_member)
    (list skip no_statement))) no_member))) (list skip no_statement)))
    (next_declaration (item_declaration (post_item
    (procedure (heading (at (codes "q") 4)
    (params (value_param (group (at (codes "a") 4) no_name (at (codes "int") 4))) no_param) None)
    no_declaration (list skip no_statement) 4))) no_declaration))))
    (list (assignment (variable (root.Name (at (codes "v") 4)) no_selector) 4
    (expr (simple (Some (sign.Minus 4)) (term (numeral (pos 1)) no_multiplier)
    (next_addend (addend addition.Plus 4
    (term (variable_factor (variable (root.Name (at (codes "x") 4)) no_selector))
    (next_multiplier (multiplier multiplication.Star 4 (numeral (pos 2))) no_multiplier)))
    (next_addend (addend addition.Minus 4
    (term (parenthesized (expr (simple None
    (term (variable_factor (variable (root.Name (at (codes "y") 4)) no_selector)) no_multiplier) no_addend)
    no_comparison)) no_multiplier)) (next_addend
    (addend addition.Or 4 (term (not_factor 5
    (variable_factor (variable (root.Name (at (codes "t") 5)) no_selector)))
    (next_multiplier (multiplier multiplication.And 5
    (variable_factor (variable (root.Name (at (codes "z") 5)) no_selector)))
    (next_multiplier (multiplier multiplication.Div 5 (numeral (pos 2)))
    (next_multiplier (multiplier multiplication.Mod 5 (numeral (pos 3))) no_multiplier))))) no_addend))))
    no_comparison)) (next_statement (assignment
    (variable (root.Name (at (codes "u") 6))
    (next_selector (index 6 (expr (simple None (term (numeral (pos 1)) no_multiplier) no_addend)
    no_comparison)) (next_selector (field 7 (at (codes "f") 7)) no_selector))) 7
    (expr (simple (Some (sign.Plus 7)) (term
    (call_factor (at (codes "g") 7) (args
    (expr (simple None (term (string (quoted (codes "ab") 7)) no_multiplier) no_addend) no_comparison)
    (next_expr (expr (simple None (term (numeral (pos 2)) no_multiplier) no_addend) no_comparison)
    no_expr))) no_multiplier) no_addend) no_comparison))
    (next_statement (assignment (variable (root.Val (at (codes "main") 7)) no_selector) 8
    (expr (simple None (term (variable_factor (variable (root.Name (at (codes "v") 8)) no_selector))
    no_multiplier) no_addend) no_comparison))
    (next_statement (call (at (codes "p") 8) None)
    (next_statement (call (at (codes "q") 8)
    (Some (args (expr (simple None (term (numeral (pos 1)) no_multiplier) no_addend) no_comparison)
    no_expr))) (next_statement (if_statement
    (conditions (condition (expr (simple None
    (term (variable_factor (variable (root.Name (at (codes "a") 8)) no_selector)) no_multiplier) no_addend)
    (compared relation.Equal 8 (simple None
    (term (variable_factor (variable (root.Name (at (codes "b") 8)) no_selector)) no_multiplier)
    no_addend))) 8 (list skip no_statement))
    (next_else (condition (expr (simple None
    (term (variable_factor (variable (root.Name (at (codes "a") 9)) no_selector)) no_multiplier) no_addend)
    (compared relation.NotEqual 9 (simple None
    (term (variable_factor (variable (root.Name (at (codes "b") 9)) no_selector)) no_multiplier)
    no_addend))) 9 (list skip no_statement)) no_else)))
    (next_statement (while_statement (conditions
    (condition (expr (simple None (term
    (variable_factor (variable (root.Name (at (codes "a") 9)) no_selector)) no_multiplier) no_addend)
    (compared relation.Less 9 (simple None
    (term (variable_factor (variable (root.Name (at (codes "b") 9)) no_selector)) no_multiplier)
    no_addend))) 10 (list skip no_statement))
    (next_else (condition (expr (simple None
    (term (variable_factor (variable (root.Name (at (codes "a") 10)) no_selector)) no_multiplier)
    no_addend) (compared relation.Greater 10
    (simple None (term (variable_factor (variable (root.Name (at (codes "b") 10)) no_selector))
    no_multiplier) no_addend))) 10 (list skip no_statement)) no_else)))
    (next_statement (when_statement 11
    (conditions (condition (expr (simple None
    (term (variable_factor (variable (root.Name (at (codes "a") 11)) no_selector)) no_multiplier)
    no_addend) (compared relation.AtMost 11
    (simple None (term (variable_factor (variable (root.Name (at (codes "b") 11)) no_selector))
    no_multiplier) no_addend))) 11 (list skip no_statement)) no_else))
    (next_statement (cobegin 12 (branch (constant.Numeral (pos 1)) 12 (list skip no_statement))
    (next_branch 12 (branch (constant.Name (at (codes "c") 12) None) 12
    (list (assignment (variable (root.Name (at (codes "x") 12)) no_selector) 12
    (expr (simple None (term (variable_factor (variable (root.Name (at (codes "a") 12)) no_selector))
    no_multiplier) no_addend) (compared relation.AtLeast 12
    (simple None (term (variable_factor (variable (root.Name (at (codes "b") 12)) no_selector))
    no_multiplier) no_addend)))) no_statement))
    (next_branch 14 (branch (constant.Numeral (pos 3)) 14
    (list (assignment (variable (root.Name (at (codes "x") 14)) no_selector) 14
    (expr (simple None (term (variable_factor (variable (root.Name (at (codes "a") 14)) no_selector))
    no_multiplier) no_addend) (compared relation.In 14
    (simple None (term (variable_factor (variable (root.Name (at (codes "b") 14)) no_selector))
    no_multiplier) no_addend)))) no_statement)) (no_branch 15)))) no_statement))))))))) 15)

pub row_performs : printed performs ≡ codes
    "proc main var\nv , w : int ; u : row pre proc q ( a : int ) module * proc\nr begin skip end var k : int module * const b = "
    ++ (decimal 2 ++ (codes " begin skip end begin skip end post proc\nq ( a : int ) begin skip end begin v := - "
    ++ (decimal 1 ++ (codes " + x * " ++ (decimal 2
    ++ (codes " - ( y ) or\nnot t and z div "
    ++ (decimal 2 ++ (codes " mod " ++
    (decimal 3 ++ (codes " ;\nu [ " ++
    (decimal 1 ++ (codes " ]\n. f := + g ( 'ab' , "
    ++ (decimal 2 ++ (codes " ) ; val main\n:= v ; p ; q ( "
    ++
    (decimal
    1
    ++
    (codes
    " ) ; if a = b do skip else\na <> b do skip end ; while a < b\ndo skip else a > b do skip end ;\nwhen a <= b do skip end ;\ncobegin "
    ++ (decimal 1 ++ (codes " do skip also c do x := a >= b\n\nalso "
    ++ (decimal 3 ++ (codes " do x := a in b\nend end"))))))))))))))))))))
row_performs = refl

pub depth_of_performs : depth performs ≡ 3
depth_of_performs = refl
