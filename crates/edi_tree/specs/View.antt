-- Words of contracts. The plain tree for which a tree of the code stands: the same parts, without memory.
use Rattle.std.specs.Prelude.{ℕ, List, [], ◌∷◌, map, Option, Some, None, option_map}
use Rattle.edi_tree.specs.Sequences.{items_of}
use Rattle.edi_tree.specs.declared.names.Name.{Name}
use Rattle.edi_tree.specs.declared.constants.ConstDecl.{ConstDecl}
use Rattle.edi_tree.specs.declared.constants.ConstList as code_const_list
use Rattle.edi_tree.specs.declared.types.Group as code_group
use Rattle.edi_tree.specs.declared.types.TypeDecl as code_type_decl
use Rattle.edi_tree.specs.declared.types.TypeDecl.TheVariants as type_decl
use Rattle.edi_tree.specs.declared.types.VarList as code_var_list
use Rattle.edi_tree.specs.declared.headings.Heading as code_heading
use Rattle.edi_tree.specs.declared.headings.Param as code_param
use Rattle.edi_tree.specs.declared.headings.Param.TheOpen.{Param-F, Heading-F}
use Rattle.edi_tree.specs.declared.headings.Param.TheFolds.{fold-Param, fold-Heading}
use Rattle.edi_tree.specs.declared.expressions.Factor.TheOpen.{Factor-F, Selector-F, Addend-F, Args-F, Comparison-F, Expr-F, Multiplier-F, Simple-F, Term-F}
use Rattle.edi_tree.specs.declared.expressions.Factor.TheOpen.{Variable-F}
use Rattle.edi_tree.specs.declared.expressions.Factor.TheFolds.{fold-Factor, fold-Selector, fold-Addend, fold-Args, fold-Comparison, fold-Expr}
use Rattle.edi_tree.specs.declared.expressions.Factor.TheFolds.{fold-Multiplier, fold-Simple, fold-Term, fold-Variable}
use Rattle.edi_tree.specs.declared.expressions.Factor as code_factor
use Rattle.edi_tree.specs.declared.expressions.Selector as code_selector
use Rattle.edi_tree.specs.declared.expressions.Addend as code_addend
use Rattle.edi_tree.specs.declared.expressions.Args as code_args
use Rattle.edi_tree.specs.declared.expressions.Comparison as code_comparison
use Rattle.edi_tree.specs.declared.expressions.Expr as code_expr
use Rattle.edi_tree.specs.declared.expressions.Multiplier as code_multiplier
use Rattle.edi_tree.specs.declared.expressions.Simple as code_simple
use Rattle.edi_tree.specs.declared.expressions.Term as code_term
use Rattle.edi_tree.specs.declared.expressions.Variable as code_variable
use Rattle.edi_tree.specs.declared.statements.Statement.TheOpen.{Statement-F, Branch-F, Cobegin-F, Condition-F, Conditions-F, List-F, When-F}
use Rattle.edi_tree.specs.declared.statements.Statement.TheFolds.{fold-Statement, fold-Branch, fold-Cobegin, fold-Condition, fold-Conditions, fold-List}
use Rattle.edi_tree.specs.declared.statements.Statement.TheFolds.{fold-When}
use Rattle.edi_tree.specs.declared.statements.Statement as code_statement
use Rattle.edi_tree.specs.declared.statements.Branch as code_branch
use Rattle.edi_tree.specs.declared.statements.Cobegin as code_cobegin
use Rattle.edi_tree.specs.declared.statements.Condition as code_condition
use Rattle.edi_tree.specs.declared.statements.Conditions as code_conditions
use Rattle.edi_tree.specs.declared.statements.List as code_list
use Rattle.edi_tree.specs.declared.statements.When as code_when
use Rattle.edi_tree.specs.declared.statements.Assignment as code_assignment
use Rattle.edi_tree.specs.declared.statements.Call as code_call
use Rattle.edi_tree.specs.declared.declarations.Declaration.TheOpen.{Declaration-F, Item-F, Member-F, Module-F, Procedure-F}
use Rattle.edi_tree.specs.declared.declarations.Declaration.TheFolds.{fold-Declaration, fold-Item, fold-Member, fold-Module, fold-Procedure}
use Rattle.edi_tree.specs.declared.declarations.Declaration as code_declaration
use Rattle.edi_tree.specs.declared.declarations.Item as code_item
use Rattle.edi_tree.specs.declared.declarations.Member as code_member
use Rattle.edi_tree.specs.declared.declarations.Module as code_module
use Rattle.edi_tree.specs.declared.declarations.Procedure as code_procedure
use Rattle.edi_tree.specs.declared.sequence.Sequence as code_sequence
use Rattle.edi_tree.specs.declared.programs.Global as code_global
use Rattle.edi_tree.specs.declared.programs.Global.TheVariants as global
use Rattle.edi_tree.specs.Tree.{Names, no_name, next_name, ConstDecls, no_const_decl, next_const_decl, ConstList, const_list, Group, group, Groups, no_group}
use Rattle.edi_tree.specs.Tree.{next_group, TypeDecl, enum_decl, record_decl, array_decl, set_decl, VarList, var_list, Heading, heading, Params, no_params}
use Rattle.edi_tree.specs.Tree.{params, MoreParams, no_param, next_param, Param, value_param, var_param, procedure_param, Expr, expr, Comparison}
use Rattle.edi_tree.specs.Tree.{no_comparison, compared, Exprs, no_expr, next_expr, Simple, simple, Addend, addend, Addends, no_addend, next_addend, Term}
use Rattle.edi_tree.specs.Tree.{term, Multiplier, multiplier, Multipliers, no_multiplier, next_multiplier, Factor, numeral, string, not_factor}
use Rattle.edi_tree.specs.Tree.{parenthesized, call_factor, variable_factor, Args, args, Variable, variable, Selector, field, index, Selectors, no_selector}
use Rattle.edi_tree.specs.Tree.{next_selector, StatementList, list, Statements, no_statement, next_statement, Statement, skip, assignment, call}
use Rattle.edi_tree.specs.Tree.{if_statement, while_statement, when_statement, cobegin, Conditions, conditions, Condition, condition, Else, no_else}
use Rattle.edi_tree.specs.Tree.{next_else, Branch, branch, Branches, no_branch, next_branch, Procedure, procedure, Item, const_item, type_item, var_item}
use Rattle.edi_tree.specs.Tree.{procedure_item, pre_item, post_item, Module, module_with, Member, item_member, exported_member, module_member, Members}
use Rattle.edi_tree.specs.Tree.{no_member, next_member, Declaration, item_declaration, module_declaration, Declarations, no_declaration, next_declaration}
use Rattle.edi_tree.specs.Tree.{Global, const_global, type_global, Globals, no_global, next_global, Program, program}

-- ---- names, constants, types, variables

abbrev pub names : List Name → Names
names [] = no_name
names (x ∷ xs) = next_name x (names xs)

abbrev pub const_decls : List ConstDecl → ConstDecls
const_decls [] = no_const_decl
const_decls (x ∷ xs) = next_const_decl x (const_decls xs)

abbrev pub const_list_of : code_const_list.ConstList → ConstList
const_list_of l = const_list l.first (const_decls (items_of l.more))

abbrev pub group_of : code_group.Group → Group
group_of g = group g.first (names (items_of g.more)) g.type_name

abbrev pub groups : List Group → Groups
groups [] = no_group
groups (x ∷ xs) = next_group x (groups xs)

abbrev pub groups_of : code_sequence.Sequence code_group.Group → Groups
groups_of gs = groups (map group_of (items_of gs))

abbrev pub type_decl_of : code_type_decl.TypeDecl → TypeDecl
type_decl_of (type_decl.Enum d) = enum_decl d.name d.first (names (items_of d.more))
type_decl_of (type_decl.Record d) = record_decl d.name (group_of d.first) (groups_of d.more)
type_decl_of (type_decl.Array d) = array_decl d.name d.line d.lower d.upper d.element
type_decl_of (type_decl.Set d) = set_decl d.name d.base

abbrev pub var_list_of : code_var_list.VarList → VarList
var_list_of l = var_list (group_of l.first) (groups_of l.more)

-- ---- headings; a step is one layer, whose parts have been seen already

abbrev pub more_params : List Param → MoreParams
more_params [] = no_param
more_params (x ∷ xs) = next_param x (more_params xs)

abbrev pub optional_params : List Param → Params
optional_params [] = no_params
optional_params (x ∷ xs) = params x (more_params xs)

abbrev pub param_step : Param-F Param Heading → Param
param_step (Param-F.Value g) = value_param (group_of g)
param_step (Param-F.Var g) = var_param (group_of g)
param_step (Param-F.Heading h) = procedure_param h

abbrev pub heading_step : Heading-F Param Heading → Heading
heading_step h = heading h.name (optional_params (items_of h.params)) h.result

abbrev pub heading_of : code_heading.Heading → Heading
heading_of = fold-Heading Param Heading param_step heading_step

abbrev pub param_of : code_param.Param → Param
param_of = fold-Param Param Heading param_step heading_step

abbrev pub params_of : code_sequence.Sequence code_param.Param → Params
params_of ps = optional_params (map param_of (items_of ps))

-- ---- expressions

abbrev pub exprs : List Expr → Exprs
exprs [] = no_expr
exprs (x ∷ xs) = next_expr x (exprs xs)

abbrev pub addends : List Addend → Addends
addends [] = no_addend
addends (x ∷ xs) = next_addend x (addends xs)

abbrev pub multipliers : List Multiplier → Multipliers
multipliers [] = no_multiplier
multipliers (x ∷ xs) = next_multiplier x (multipliers xs)

abbrev pub selectors : List Selector → Selectors
selectors [] = no_selector
selectors (x ∷ xs) = next_selector x (selectors xs)

abbrev pub optional_comparison : Option Comparison → Comparison
optional_comparison None = no_comparison
optional_comparison (Some c) = c

abbrev pub factor_step : Factor-F Factor Selector Addend Args Comparison Expr Multiplier Simple Term Variable → Factor
factor_step (Factor-F.Numeral v) = numeral v
factor_step (Factor-F.String s) = string s
factor_step (Factor-F.Not line f) = not_factor line f.value
factor_step (Factor-F.Parenthesized e) = parenthesized e.value
factor_step (Factor-F.Call n a) = call_factor n a
factor_step (Factor-F.Variable v) = variable_factor v

abbrev pub selector_step : Selector-F Factor Selector Addend Args Comparison Expr Multiplier Simple Term Variable → Selector
selector_step (Selector-F.Field line n) = field line n
selector_step (Selector-F.Index line e) = index line e.value

abbrev pub addend_step : Addend-F Factor Selector Addend Args Comparison Expr Multiplier Simple Term Variable → Addend
addend_step a = addend a.operator a.line a.term

abbrev pub args_step : Args-F Factor Selector Addend Args Comparison Expr Multiplier Simple Term Variable → Args
args_step a = args a.first.value (exprs (items_of a.more))

abbrev pub comparison_step : Comparison-F Factor Selector Addend Args Comparison Expr Multiplier Simple Term Variable → Comparison
comparison_step c = compared c.relation c.line c.right

abbrev pub expr_step : Expr-F Factor Selector Addend Args Comparison Expr Multiplier Simple Term Variable → Expr
expr_step e = expr e.left (optional_comparison e.comparison)

abbrev pub multiplier_step : Multiplier-F Factor Selector Addend Args Comparison Expr Multiplier Simple Term Variable → Multiplier
multiplier_step m = multiplier m.operator m.line m.factor

abbrev pub simple_step : Simple-F Factor Selector Addend Args Comparison Expr Multiplier Simple Term Variable → Simple
simple_step s = simple s.sign s.first (addends (items_of s.more))

abbrev pub term_step : Term-F Factor Selector Addend Args Comparison Expr Multiplier Simple Term Variable → Term
term_step t = term t.first (multipliers (items_of t.more))

abbrev pub variable_step : Variable-F Factor Selector Addend Args Comparison Expr Multiplier Simple Term Variable → Variable
variable_step v = variable v.root (selectors (items_of v.selectors))

abbrev pub factor_of : code_factor.Factor → Factor
factor_of = fold-Factor Factor Selector Addend Args Comparison Expr Multiplier Simple Term Variable factor_step
    selector_step addend_step args_step comparison_step expr_step multiplier_step simple_step term_step variable_step

abbrev pub selector_of : code_selector.Selector → Selector
selector_of = fold-Selector Factor Selector Addend Args Comparison Expr Multiplier Simple Term Variable factor_step
    selector_step addend_step args_step comparison_step expr_step multiplier_step simple_step term_step variable_step

abbrev pub addend_of : code_addend.Addend → Addend
addend_of = fold-Addend Factor Selector Addend Args Comparison Expr Multiplier Simple Term Variable factor_step
    selector_step addend_step args_step comparison_step expr_step multiplier_step simple_step term_step variable_step

abbrev pub args_of : code_args.Args → Args
args_of = fold-Args Factor Selector Addend Args Comparison Expr Multiplier Simple Term Variable factor_step
    selector_step addend_step args_step comparison_step expr_step multiplier_step simple_step term_step variable_step

abbrev pub comparison_of : code_comparison.Comparison → Comparison
comparison_of = fold-Comparison Factor Selector Addend Args Comparison Expr Multiplier Simple Term Variable factor_step
    selector_step addend_step args_step comparison_step expr_step multiplier_step simple_step term_step variable_step

abbrev pub expr_of : code_expr.Expr → Expr
expr_of = fold-Expr Factor Selector Addend Args Comparison Expr Multiplier Simple Term Variable factor_step
    selector_step addend_step args_step comparison_step expr_step multiplier_step simple_step term_step variable_step

abbrev pub multiplier_of : code_multiplier.Multiplier → Multiplier
multiplier_of = fold-Multiplier Factor Selector Addend Args Comparison Expr Multiplier Simple Term Variable factor_step
    selector_step addend_step args_step comparison_step expr_step multiplier_step simple_step term_step variable_step

abbrev pub simple_of : code_simple.Simple → Simple
simple_of = fold-Simple Factor Selector Addend Args Comparison Expr Multiplier Simple Term Variable factor_step
    selector_step addend_step args_step comparison_step expr_step multiplier_step simple_step term_step variable_step

abbrev pub term_of : code_term.Term → Term
term_of = fold-Term Factor Selector Addend Args Comparison Expr Multiplier Simple Term Variable factor_step
    selector_step addend_step args_step comparison_step expr_step multiplier_step simple_step term_step variable_step

abbrev pub variable_of : code_variable.Variable → Variable
variable_of = fold-Variable Factor Selector Addend Args Comparison Expr Multiplier Simple Term Variable factor_step
    selector_step addend_step args_step comparison_step expr_step multiplier_step simple_step term_step variable_step

abbrev pub exprs_of : code_sequence.Sequence code_expr.Expr → Exprs
exprs_of es = exprs (map expr_of (items_of es))

abbrev pub addends_of : code_sequence.Sequence code_addend.Addend → Addends
addends_of ts = addends (map addend_of (items_of ts))

abbrev pub multipliers_of : code_sequence.Sequence code_multiplier.Multiplier → Multipliers
multipliers_of fs = multipliers (map multiplier_of (items_of fs))

abbrev pub selectors_of : code_sequence.Sequence code_selector.Selector → Selectors
selectors_of ss = selectors (map selector_of (items_of ss))

-- ---- statements

abbrev pub statements : List Statement → Statements
statements [] = no_statement
statements (x ∷ xs) = next_statement x (statements xs)

abbrev pub else_list : List Condition → Else
else_list [] = no_else
else_list (x ∷ xs) = next_else x (else_list xs)

-- a branch, and the line on which it is closed
pub record ClosedBranch : Type 0 where
  pub opened : Branch
  pub end : ℕ

-- the branches behind one that is closed on this line
abbrev pub branches : ℕ → List ClosedBranch → Branches
branches end [] = no_branch end
branches end (x ∷ xs) = next_branch end x.opened (branches x.end xs)

abbrev pub assignment_of : code_assignment.Assignment → Statement
assignment_of a = assignment (variable_of a.variable) a.line (expr_of a.expr)

abbrev pub call_of : code_call.Call → Statement
call_of c = call c.name (option_map args_of c.args)

abbrev pub statement_step : Statement-F Statement ClosedBranch Statement Condition Conditions StatementList Statement → Statement
statement_step Statement-F.Skip = skip
statement_step (Statement-F.Assignment a) = assignment_of a
statement_step (Statement-F.Call c) = call_of c
statement_step (Statement-F.If cs) = if_statement cs
statement_step (Statement-F.While cs) = while_statement cs
statement_step (Statement-F.When s) = s
statement_step (Statement-F.Cobegin s) = s

abbrev pub branch_step : Branch-F Statement ClosedBranch Statement Condition Conditions StatementList Statement → ClosedBranch
branch_step b = record { opened = branch b.constant b.line b.list; end = b.end }

abbrev pub cobegin_step : Cobegin-F Statement ClosedBranch Statement Condition Conditions StatementList Statement → Statement
cobegin_step c = cobegin c.line c.first.opened (branches c.first.end (items_of c.more))

abbrev pub condition_step : Condition-F Statement ClosedBranch Statement Condition Conditions StatementList Statement → Condition
condition_step c = condition (expr_of c.expr) c.line c.list

abbrev pub conditions_step : Conditions-F Statement ClosedBranch Statement Condition Conditions StatementList Statement → Conditions
conditions_step c = conditions c.first (else_list (items_of c.more))

abbrev pub list_step : List-F Statement ClosedBranch Statement Condition Conditions StatementList Statement → StatementList
list_step l = list l.first.value (statements (items_of l.more))

abbrev pub when_step : When-F Statement ClosedBranch Statement Condition Conditions StatementList Statement → Statement
when_step w = when_statement w.line w.conditions

abbrev pub statement_of : code_statement.Statement → Statement
statement_of = fold-Statement Statement ClosedBranch Statement Condition Conditions StatementList Statement
    statement_step branch_step cobegin_step condition_step conditions_step list_step when_step

abbrev pub branch_of : code_branch.Branch → ClosedBranch
branch_of = fold-Branch Statement ClosedBranch Statement Condition Conditions StatementList Statement statement_step
    branch_step cobegin_step condition_step conditions_step list_step when_step

abbrev pub cobegin_of : code_cobegin.Cobegin → Statement
cobegin_of = fold-Cobegin Statement ClosedBranch Statement Condition Conditions StatementList Statement statement_step
    branch_step cobegin_step condition_step conditions_step list_step when_step

abbrev pub condition_of : code_condition.Condition → Condition
condition_of = fold-Condition Statement ClosedBranch Statement Condition Conditions StatementList Statement
    statement_step branch_step cobegin_step condition_step conditions_step list_step when_step

abbrev pub conditions_of : code_conditions.Conditions → Conditions
conditions_of = fold-Conditions Statement ClosedBranch Statement Condition Conditions StatementList Statement
    statement_step branch_step cobegin_step condition_step conditions_step list_step when_step

abbrev pub list_of : code_list.List → StatementList
list_of = fold-List Statement ClosedBranch Statement Condition Conditions StatementList Statement statement_step
    branch_step cobegin_step condition_step conditions_step list_step when_step

abbrev pub when_of : code_when.When → Statement
when_of = fold-When Statement ClosedBranch Statement Condition Conditions StatementList Statement statement_step
    branch_step cobegin_step condition_step conditions_step list_step when_step

abbrev pub statements_of : code_sequence.Sequence code_statement.Statement → Statements
statements_of ss = statements (map statement_of (items_of ss))

abbrev pub else_of : code_sequence.Sequence code_condition.Condition → Else
else_of cs = else_list (map condition_of (items_of cs))

abbrev pub branches_of : ℕ → code_sequence.Sequence code_branch.Branch → Branches
branches_of end bs = branches end (map branch_of (items_of bs))

-- ---- declarations

abbrev pub members : List Member → Members
members [] = no_member
members (x ∷ xs) = next_member x (members xs)

abbrev pub declarations : List Declaration → Declarations
declarations [] = no_declaration
declarations (x ∷ xs) = next_declaration x (declarations xs)

abbrev pub declaration_step : Declaration-F Declaration Item Member Module Procedure → Declaration
declaration_step (Declaration-F.Declaration::Item i) = item_declaration i
declaration_step (Declaration-F.Declaration::Module m) = module_declaration m

abbrev pub item_step : Item-F Declaration Item Member Module Procedure → Item
item_step (Item-F.ConstList l) = const_item (const_list_of l)
item_step (Item-F.TypeDecl d) = type_item (type_decl_of d)
item_step (Item-F.VarList l) = var_item (var_list_of l)
item_step (Item-F.Procedure p) = procedure_item p
item_step (Item-F.Pre h) = pre_item (heading_of h)
item_step (Item-F.Post p) = post_item p

abbrev pub member_step : Member-F Declaration Item Member Module Procedure → Member
member_step (Member-F.Member::Item i) = item_member i
member_step (Member-F.Exported i) = exported_member i
member_step (Member-F.Member::Module m) = module_member m

abbrev pub module_step : Module-F Declaration Item Member Module Procedure → Module
module_step m = module_with (members (items_of m.members)) (list_of m.list)

abbrev pub procedure_step : Procedure-F Declaration Item Member Module Procedure → Procedure
procedure_step p = procedure (heading_of p.heading) (declarations (items_of p.declarations)) (list_of p.list) p.end

abbrev pub declaration_of : code_declaration.Declaration → Declaration
declaration_of = fold-Declaration Declaration Item Member Module Procedure declaration_step item_step member_step module_step procedure_step

abbrev pub item_of : code_item.Item → Item
item_of = fold-Item Declaration Item Member Module Procedure declaration_step item_step member_step module_step procedure_step

abbrev pub member_of : code_member.Member → Member
member_of = fold-Member Declaration Item Member Module Procedure declaration_step item_step member_step module_step procedure_step

abbrev pub procedure_of : code_procedure.Procedure → Procedure
procedure_of = fold-Procedure Declaration Item Member Module Procedure declaration_step item_step member_step module_step procedure_step

abbrev pub module_of : code_module.Module → Module
module_of = fold-Module Declaration Item Member Module Procedure declaration_step item_step member_step module_step procedure_step

abbrev pub members_of : code_sequence.Sequence code_member.Member → Members
members_of ms = members (map member_of (items_of ms))

abbrev pub declarations_of : code_sequence.Sequence code_declaration.Declaration → Declarations
declarations_of ds = declarations (map declaration_of (items_of ds))

-- ---- programs

abbrev pub global_of : code_global.Global → Global
global_of (global.ConstList l) = const_global (const_list_of l)
global_of (global.TypeDecl d) = type_global (type_decl_of d)

abbrev pub globals : List Global → Globals
globals [] = no_global
globals (x ∷ xs) = next_global x (globals xs)

abbrev pub globals_of : code_sequence.Sequence code_global.Global → Globals
globals_of gs = globals (map global_of (items_of gs))

-- the program of these two parts
abbrev pub program_with : code_sequence.Sequence code_global.Global → code_procedure.Procedure → Program
program_with gs p = program (globals_of gs) (procedure_of p)
