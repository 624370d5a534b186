-- Computed rows. Worked programs. The text of each stands in its comment, where `/` ends a line.
use Rattle.std.specs.Prelude.{◌≡◌, ℕ, pos, [], ◌∷◌, Option, Some, None, codes, refl}
use Prim.Native.String.{String}
use Rattle.edi_tree.specs.declared.constants.Constant.TheVariants as constant
use Rattle.edi_tree.specs.Tree.{Program, program, no_global, Declarations, procedure, Heading, heading, no_params, params, no_param, next_param, value_param}
use Rattle.edi_tree.specs.Tree.{var_param, group, Group, no_name, no_group, record_decl, var_list, Item, module_declaration, module_with, Members}
use Rattle.edi_tree.specs.Tree.{item_member, exported_member, module_member, no_member, next_member, type_item, var_item, procedure_item, pre_item, post_item}
use Rattle.edi_tree.specs.Tree.{no_declaration, next_declaration, StatementList, Statement, skip, when_statement, if_statement, while_statement, cobegin}
use Rattle.edi_tree.specs.Tree.{Branch, branch, no_branch, next_branch, conditions, condition, no_else, next_else}
use Rattle.edi_unit.specs.Types.{size}
use Rattle.edi_static.specs.Written.{id, only, named, one, two, three, then}
use Rattle.edi_sights.specs.declared.answer.Sight.{Sight}
use Rattle.edi_sights.specs.declared.answer.Sighted.{Sighted}
use Rattle.edi_sights.specs.Sights.{sights_of}

-- ---- writing programs down

-- `when true do .. end`
abbrev awaits_on : (line : ℕ) → StatementList → Statement
awaits_on line s = when_statement line (conditions (condition (only (named (id "true" line))) line s) no_else)

abbrev await : (line : ℕ) → Statement
await line = awaits_on line (one skip)

-- `name: type`
abbrev pub grouped : String → String → Group
grouped name of = group (id name 1) no_name (id of 1)

abbrev pub variable_of : String → String → Item
variable_of name of = var_item (var_list (grouped name of) no_group)

-- `record name (f: int)`
abbrev record_named : String → Item
record_named name = type_item (record_decl (id name 1) (grouped "f" "int") no_group)

-- `proc name .. begin .. end`
abbrev pub procedure_of : Heading → Declarations → StatementList → Item
procedure_of h ds s = procedure_item (procedure h ds s 9)

abbrev pub plain : String → Heading
plain name = heading (id name 1) no_params None

abbrev pub module_then : Members → StatementList → Declarations → Declarations
module_then ms s ds = next_declaration (module_declaration (module_with ms s)) ds

-- `proc main .. begin .. end`
abbrev pub main : Declarations → StatementList → Program
main ds s = program no_global (procedure (plain "main") ds s 9)

abbrev with_x : StatementList → Program
with_x s = main (then (variable_of "x" "int") no_declaration) s

abbrev sight : (block index : ℕ) → Option Sighted → Sight
sight block index slot = record { block = block; index = index; slot = slot }

abbrev slot : (levels number : ℕ) → Option Sighted
slot levels number = Some (record { levels = levels; variable = number })

-- ---- places of `when`s

-- proc main / var x: int / begin when true do skip end; when true do skip end end
pub row_two_on_a_line : sights_of (with_x (two (await 3) (await 3))) 3 (codes "x") ≡ sight 0 0 (slot 0 0) ∷ sight 0 1 (slot 0 0) ∷ []
row_two_on_a_line = refl

-- proc main / var x: int / begin when true do skip end; / when true do skip end; / when true do skip end end
pub row_line : sights_of (with_x (three (await 3) (await 4) (await 5))) 4 (codes "x") ≡ sight 0 1 (slot 0 0) ∷ []
row_line = refl

-- proc main / var x: int / begin skip end
pub row_none : sights_of (with_x (one skip)) 3 (codes "x") ≡ []
row_none = refl

-- one in the body of another stands behind it, and before what follows:
-- proc main / var x: int / begin when true do when true do skip end end; when true do skip end end
pub row_nested : sights_of (with_x (two (awaits_on 3 (one (await 4))) (await 5))) 4 (codes "x") ≡ sight 0 1 (slot 0 0) ∷ []
row_nested = refl

pub row_outer : sights_of (with_x (two (awaits_on 3 (one (await 4))) (await 5))) 3 (codes "x") ≡ sight 0 0 (slot 0 0) ∷ []
row_outer = refl

pub row_behind : sights_of (with_x (two (awaits_on 3 (one (await 4))) (await 5))) 5 (codes "x") ≡ sight 0 2 (slot 0 0) ∷ []
row_behind = refl

-- a branch is a block of its own, and one in a branch comes before those behind it:
-- proc main / var x: int / begin cobegin 1 do cobegin 2 do when true do skip end / also 3 do when true do skip end end /
--   also 4 do when true do skip end; when true do skip end end; when true do skip end end
abbrev pub do_branch : StatementList → Branch
do_branch s = branch (constant.Numeral (pos 1)) 8 s

abbrev pub together : Branch → Branch → Statement
together a b = cobegin 8 a (next_branch 8 b (no_branch 8))

pub row_branches : sights_of
    (with_x (two (together (do_branch (one (together (do_branch (one (await 3))) (do_branch (one (await 3)))))) (do_branch (two (await 3) (await 3))))
    (await 3)))
    3 (codes "x")
    ≡ sight 2 0 (slot 2 0) ∷ sight 3 0 (slot 2 0) ∷ sight 4 0 (slot 1 0) ∷ sight 4 1 (slot 1 0) ∷ sight 0 0 (slot 0 0) ∷ []
unfolding size
row_branches = refl

-- in `if` and `while`, behind every condition:
-- proc main / var x: int / begin if true do when true do skip end else true do when true do skip end end; while true do when true do skip end end end
abbrev if_else : StatementList → StatementList → Statement
if_else s t =
    if_statement (conditions (condition (only (named (id "true" 2))) 2 s) (next_else (condition (only (named (id "true" 2))) 2 t) no_else))

abbrev while_true : StatementList → Statement
while_true s = while_statement (conditions (condition (only (named (id "true" 2))) 2 s) no_else)

pub row_conditions : sights_of (with_x (two (if_else (one (await 3)) (one (await 3))) (while_true (one (await 3))))) 3 (codes "x")
    ≡ sight 0 0 (slot 0 0) ∷ sight 0 1 (slot 0 0) ∷ sight 0 2 (slot 0 0) ∷ []
row_conditions = refl

-- ---- what the name means there

-- a procedure stands before the statements of its module, and those belong to the block of the module and come before its own;
-- a name of a module is not seen outside:
-- proc main / module var x: int / proc p begin when true do skip end end begin when true do skip end end begin when true do skip end end
abbrev waits : Item
waits = procedure_of (plain "p") no_declaration (one (await 3))

pub row_module : sights_of
    (main (module_then (next_member (item_member (variable_of "x" "int")) (next_member (item_member waits) no_member)) (one (await 3)) no_declaration)
    (one (await 3)))
    3 (codes "x")
    ≡ sight 1 0 (slot 1 0) ∷ sight 0 0 (slot 0 0) ∷ sight 0 1 None ∷ []
unfolding size
row_module = refl

-- a procedure that a module exports, and a module in a module:
-- proc main / module var y: int / * proc p begin when true do skip end end / module var x: int begin when true do skip end end begin when true do skip end end
--   begin skip end
pub row_inner_module : sights_of
    (main (module_then (next_member (item_member (variable_of "y" "int")) (next_member (exported_member waits)
    (next_member (module_member (module_with (next_member (item_member (variable_of "x" "int")) no_member) (one (await 3)))) no_member)))
    (one (await 3)) no_declaration) (one skip)) 3 (codes "x")
    ≡ sight 1 0 None ∷ sight 0 0 (slot 0 1) ∷ sight 0 1 None ∷ []
unfolding size
row_inner_module = refl

-- but one that the module exports is:
-- proc main / module * var x: int begin skip end begin when true do skip end end
pub row_exported : sights_of
    (main (module_then (next_member (exported_member (variable_of "x" "int")) no_member) (one skip) no_declaration) (one (await 3))) 3 (codes "x")
    ≡ sight 0 0 (slot 0 0) ∷ []
row_exported = refl

-- the innermost declaration counts, here that of a procedure's own variable, and of a variable of a record type:
-- proc main / record r (f: int) / var y, x: int / proc p var x: bool begin when true do skip end end / proc q var x: r begin when true do skip end end
--   begin when true do skip end end
pub row_hidden : sights_of
    (main (then (record_named "r") (then (variable_of "y" "int") (then (variable_of "x" "int")
    (then (procedure_of (plain "p") (then (variable_of "x" "bool") no_declaration) (one (await 3)))
    (then (procedure_of (plain "q") (then (variable_of "x" "r") no_declaration) (one (await 3))) no_declaration))))) (one (await 3)))
    3 (codes "x")
    ≡ sight 1 0 (slot 0 0) ∷ sight 2 0 None ∷ sight 0 0 (slot 0 1) ∷ []
unfolding size
row_hidden = refl

-- a name that is declared after a procedure means nothing in it:
-- proc main / proc p begin when true do skip end end / var x: int begin when true do skip end end
pub row_after : sights_of (main (then waits (then (variable_of "x" "int") no_declaration)) (one (await 3))) 3 (codes "x")
    ≡ sight 1 0 None ∷ sight 0 0 (slot 0 0) ∷ []
unfolding size
row_after = refl

-- a parameter, a `var` parameter, and a declared variable of a function, whose first variable is the function variable; the
-- function's own name means no variable:
-- proc main / proc p(a: char; var b: bool): int var c: int begin when true do skip end end begin skip end
abbrev with_parameters : Program
with_parameters =
    main (then (procedure_of (heading (id "p" 1) (params (value_param (grouped "a" "char")) (next_param (var_param (grouped "b" "bool")) no_param))
    (Some (id "int" 1)))
    (then (variable_of "c" "int") no_declaration) (one (await 3))) no_declaration) (one skip)

pub row_parameter : sights_of with_parameters 3 (codes "a") ≡ sight 1 0 (slot 0 1) ∷ []
unfolding size
row_parameter = refl

pub row_variable_parameter : sights_of with_parameters 3 (codes "b") ≡ sight 1 0 (slot 0 2) ∷ []
unfolding size
row_variable_parameter = refl

pub row_own_variable : sights_of with_parameters 3 (codes "c") ≡ sight 1 0 (slot 0 3) ∷ []
unfolding size
row_own_variable = refl

pub row_function : sights_of with_parameters 3 (codes "p") ≡ sight 1 0 None ∷ []
unfolding size
row_function = refl

-- a split procedure has the block of its `pre`:
-- proc main / pre proc p / proc q begin when true do skip end end / var x: int / post proc p begin when true do skip end end begin skip end
pub row_split : sights_of
    (main (then (pre_item (plain "p")) (then (procedure_of (plain "q") no_declaration (one (await 3))) (then (variable_of "x" "int")
    (then (post_item (procedure (plain "p") no_declaration (one (await 3)) 9)) no_declaration)))) (one skip)) 3 (codes "x")
    ≡ sight 2 0 None ∷ sight 1 0 (slot 1 0) ∷ []
unfolding size
row_split = refl
