-- Helper. The tree of the text of the demonstration. No public contract cites this.
use Rattle.std.specs.Prelude.{ℕ, zero, suc, ◌+◌, ◌-◌, ◌*◌, pos, List, None, codes}
use Rattle.edi_tree.specs.declared.names.Name.{Name}
use Rattle.edi_tree.specs.declared.constants.Constant.TheVariants as constant
use Rattle.edi_tree.specs.declared.expressions.Relation.TheVariants as relation
use Rattle.edi_tree.specs.declared.expressions.Addition.TheVariants as addition
use Rattle.edi_tree.specs.declared.expressions.Root.TheVariants as root
use Rattle.edi_tree.specs.Tree.{Program, Procedure, Declarations, Statement, Statements, StatementList, Expr, Term, Factor, program, no_global}
use Rattle.edi_tree.specs.Tree.{procedure, heading, no_params, no_declaration, next_declaration, item_declaration, procedure_item, var_item, var_list}
use Rattle.edi_tree.specs.Tree.{group, no_name, no_group, list, no_statement, next_statement, call, assignment, when_statement, cobegin, branch}
use Rattle.edi_tree.specs.Tree.{no_branch, next_branch, conditions, condition, no_else, expr, compared, no_comparison, simple, addend, no_addend}
use Rattle.edi_tree.specs.Tree.{next_addend, term, no_multiplier, numeral, variable_factor, variable, no_selector}
use Rattle.edi_utils.specs.demonstrated.Symbols.{procedure_name}

abbrev pub name_on : List ℕ → (line : ℕ) → Name
name_on spelling line = record { text = spelling; line = line }

abbrev pub single : Factor → Term
single f = term f no_multiplier

abbrev pub x_on : (line : ℕ) → Factor
x_on line = variable_factor (variable (root.Name (name_on (codes "x") line)) no_selector)

-- "x < 32767"
abbrev pub below_greatest : (line : ℕ) → Expr
below_greatest line =
    expr (simple None (single (x_on line)) no_addend) (compared relation.Less line (simple None (single (numeral (pos 32767))) no_addend))

-- "x := x + 1"
abbrev pub counted_up : (line : ℕ) → Statement
counted_up line =
    assignment (variable (root.Name (name_on (codes "x") line)) no_selector) line
    (expr (simple None (single (x_on line)) (next_addend (addend addition.Plus line (single (numeral (pos 1)))) no_addend)) no_comparison)

-- "when x < 32767 do x := x + 1 end"
abbrev pub body : (line : ℕ) → StatementList
body line = list (when_statement line (conditions (condition (below_greatest line) line (list (counted_up line) no_statement)) no_else)) no_statement

-- procedure i, which begins on this line
abbrev pub procedure_tree : (i line : ℕ) → Procedure
procedure_tree i line = procedure (heading (name_on (procedure_name i) line) no_params None) no_declaration (body (line + 1)) (line + 1)

-- n procedures from i on
abbrev pub procedure_trees : (i n line : ℕ) → Declarations
procedure_trees i zero line = no_declaration
procedure_trees i (suc n) line = next_declaration (item_declaration (procedure_item (procedure_tree i line))) (procedure_trees (suc i) n (line + 2))

abbrev pub call_tree : (i line : ℕ) → Statement
call_tree i line = call (name_on (procedure_name i) line) None

-- the calls of n procedures from i on
abbrev pub next_call_trees : (i n line : ℕ) → Statements
next_call_trees i zero line = no_statement
next_call_trees i (suc n) line = next_statement (call_tree i line) (next_call_trees (suc i) n line)

-- the calls of n procedures, at least one
abbrev pub call_trees : (n line : ℕ) → StatementList
call_trees n line = list (call_tree 1 line) (next_call_trees 2 (n - 1) line)

-- the statement of the program, which begins on this line
abbrev pub branches_tree : (n line : ℕ) → Statement
branches_tree n line =
    cobegin line (branch (constant.Numeral (pos 1)) (line + 1) (call_trees n (line + 1)))
    (next_branch (line + 2) (branch (constant.Numeral (pos 2)) (line + 2) (call_trees n (line + 2))) (no_branch (line + 3)))

-- "var x: int", and the procedures
abbrev pub declaration_trees : (n : ℕ) → Declarations
declaration_trees n =
    next_declaration (item_declaration (var_item (var_list (group (name_on (codes "x") 2) no_name (name_on (codes "int") 2)) no_group)))
    (procedure_trees 1 n 3)

-- the tree of the text with n procedures
abbrev pub demo_tree : (n : ℕ) → Program
demo_tree n =
    program no_global (procedure (heading (name_on (codes "main") 1) no_params None) (declaration_trees n)
    (list (branches_tree n (3 + 2 * n)) no_statement) (3 + 2 * n + 3))
