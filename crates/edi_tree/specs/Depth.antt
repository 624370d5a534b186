-- Helper. The greatest number of levels that are open at once in a tree, part by part. What opens a level has one more than the greatest of its
-- parts; names, groups of names and lists of variables have none.
use Rattle.std.specs.Prelude.{ℕ, suc, max, min, Option, Some, None}
use Rattle.edi_tree.specs.declared.constants.Constant.{Constant}
use Rattle.edi_tree.specs.declared.constants.Constant.TheVariants as constant
use Rattle.edi_tree.specs.declared.constants.ConstDecl.{ConstDecl}
use Rattle.edi_tree.specs.Tree.{ConstDecls, no_const_decl, next_const_decl, ConstList, const_list, TypeDecl, enum_decl, record_decl, array_decl, set_decl}
use Rattle.edi_tree.specs.Tree.{Heading, heading, Params, no_params, params, MoreParams, no_param, next_param, Param, value_param, var_param}
use Rattle.edi_tree.specs.Tree.{procedure_param, Expr, expr, Comparison, no_comparison, compared, Exprs, no_expr, next_expr, Simple, simple, Addend, addend}
use Rattle.edi_tree.specs.Tree.{Addends, no_addend, next_addend, Term, term, Multiplier, multiplier, Multipliers, no_multiplier, next_multiplier, Factor}
use Rattle.edi_tree.specs.Tree.{numeral, string, not_factor, parenthesized, call_factor, variable_factor, Args, args, Variable, variable, Selector, field}
use Rattle.edi_tree.specs.Tree.{index, Selectors, no_selector, next_selector, StatementList, list, Statements, no_statement, next_statement, Statement, skip}
use Rattle.edi_tree.specs.Tree.{assignment, call, if_statement, while_statement, when_statement, cobegin, Conditions, conditions, Condition, condition, Else}
use Rattle.edi_tree.specs.Tree.{no_else, next_else, Branch, branch, Branches, no_branch, next_branch, Procedure, procedure, Item, const_item, type_item}
use Rattle.edi_tree.specs.Tree.{var_item, procedure_item, pre_item, post_item, Module, module_with, Member, item_member, exported_member, module_member}
use Rattle.edi_tree.specs.Tree.{Members, no_member, next_member, Declaration, item_declaration, module_declaration, Declarations, no_declaration}
use Rattle.edi_tree.specs.Tree.{next_declaration, Global, const_global, type_global, Globals, no_global, next_global, Program, program}

-- ---- constants and types

abbrev pub constant_depth : Constant → ℕ
constant_depth (constant.Numeral v) = 0
constant_depth (constant.Char c) = 0
constant_depth (constant.Name n None) = 0
constant_depth (constant.Name n (Some v)) = 1

abbrev pub const_decl_depth : ConstDecl → ℕ
const_decl_depth d = constant_depth d.constant

abbrev pub const_decls_depth : ConstDecls → ℕ
const_decls_depth no_const_decl = 0
const_decls_depth (next_const_decl d ds) = max (const_decl_depth d) (const_decls_depth ds)

abbrev pub const_list_depth : ConstList → ℕ
const_list_depth (const_list d ds) = max (const_decl_depth d) (const_decls_depth ds)

-- an array has its `[` and then its `(`
abbrev pub type_decl_depth : TypeDecl → ℕ
type_decl_depth (enum_decl n m ms) = 1
type_decl_depth (record_decl n g gs) = 1
type_decl_depth (array_decl n line lower upper e) = suc (max (constant_depth lower) (constant_depth upper))
type_decl_depth (set_decl n b) = 1

-- ---- headings

abbrev mutual
  pub heading_depth : Heading → ℕ
  heading_depth (heading n ps r) = suc (params_depth ps)

  pub params_depth : Params → ℕ
  params_depth no_params = 0
  params_depth (params p ps) = suc (max (param_depth p) (more_params_depth ps))

  pub more_params_depth : MoreParams → ℕ
  more_params_depth no_param = 0
  more_params_depth (next_param p ps) = max (param_depth p) (more_params_depth ps)

  pub param_depth : Param → ℕ
  param_depth (value_param g) = 0
  param_depth (var_param g) = 0
  param_depth (procedure_param h) = heading_depth h

-- ---- expressions

abbrev mutual
  pub expr_depth : Expr → ℕ
  expr_depth (expr s c) = max (simple_depth s) (comparison_depth c)

  pub comparison_depth : Comparison → ℕ
  comparison_depth no_comparison = 0
  comparison_depth (compared r line s) = simple_depth s

  pub exprs_depth : Exprs → ℕ
  exprs_depth no_expr = 0
  exprs_depth (next_expr e es) = max (expr_depth e) (exprs_depth es)

  pub simple_depth : Simple → ℕ
  simple_depth (simple s t ts) = max (term_depth t) (addends_depth ts)

  pub addend_depth : Addend → ℕ
  addend_depth (addend o line t) = term_depth t

  pub addends_depth : Addends → ℕ
  addends_depth no_addend = 0
  addends_depth (next_addend t ts) = max (addend_depth t) (addends_depth ts)

  pub term_depth : Term → ℕ
  term_depth (term f fs) = max (factor_depth f) (multipliers_depth fs)

  pub multiplier_depth : Multiplier → ℕ
  multiplier_depth (multiplier o line f) = factor_depth f

  pub multipliers_depth : Multipliers → ℕ
  multipliers_depth no_multiplier = 0
  multipliers_depth (next_multiplier f fs) = max (multiplier_depth f) (multipliers_depth fs)

  pub factor_depth : Factor → ℕ
  factor_depth (numeral v) = 0
  factor_depth (string s) = 0
  factor_depth (not_factor line f) = suc (factor_depth f)
  factor_depth (parenthesized e) = suc (expr_depth e)
  factor_depth (call_factor n a) = args_depth a
  factor_depth (variable_factor v) = variable_depth v

  pub args_depth : Args → ℕ
  args_depth (args e es) = suc (max (expr_depth e) (exprs_depth es))

  pub variable_depth : Variable → ℕ
  variable_depth (variable r ss) = selectors_depth ss

  pub selector_depth : Selector → ℕ
  selector_depth (field line n) = 0
  selector_depth (index line e) = suc (expr_depth e)

  pub selectors_depth : Selectors → ℕ
  selectors_depth no_selector = 0
  selectors_depth (next_selector s ss) = max (selector_depth s) (selectors_depth ss)

-- ---- statements

abbrev pub optional_args_depth : Option Args → ℕ
optional_args_depth None = 0
optional_args_depth (Some a) = args_depth a

abbrev mutual
  pub list_depth : StatementList → ℕ
  list_depth (list s ss) = max (statement_depth s) (statements_depth ss)

  pub statements_depth : Statements → ℕ
  statements_depth no_statement = 0
  statements_depth (next_statement s ss) = max (statement_depth s) (statements_depth ss)

  pub statement_depth : Statement → ℕ
  statement_depth skip = 0
  statement_depth (assignment v line e) = max (variable_depth v) (expr_depth e)
  statement_depth (call n a) = optional_args_depth a
  statement_depth (if_statement cs) = suc (conditions_depth cs)
  statement_depth (while_statement cs) = suc (conditions_depth cs)
  statement_depth (when_statement line cs) = suc (conditions_depth cs)
  statement_depth (cobegin line b bs) = suc (max (branch_depth b) (branches_depth bs))

  pub conditions_depth : Conditions → ℕ
  conditions_depth (conditions c cs) = max (condition_depth c) (else_depth cs)

  pub condition_depth : Condition → ℕ
  condition_depth (condition e line l) = max (expr_depth e) (list_depth l)

  pub else_depth : Else → ℕ
  else_depth no_else = 0
  else_depth (next_else c cs) = max (condition_depth c) (else_depth cs)

  pub branch_depth : Branch → ℕ
  branch_depth (branch c line l) = max (constant_depth c) (list_depth l)

  pub branches_depth : Branches → ℕ
  branches_depth (no_branch end) = 0
  branches_depth (next_branch also b bs) = max (branch_depth b) (branches_depth bs)

-- ---- declarations

abbrev mutual
  -- the level of the heading goes on to the `end`
  pub procedure_depth : Procedure → ℕ
  procedure_depth (procedure h ds l end) = max (heading_depth h) (suc (max (declarations_depth ds) (list_depth l)))

  pub item_depth : Item → ℕ
  item_depth (const_item l) = const_list_depth l
  item_depth (type_item d) = type_decl_depth d
  item_depth (var_item l) = 0
  item_depth (procedure_item p) = procedure_depth p
  item_depth (pre_item h) = heading_depth h
  item_depth (post_item p) = procedure_depth p

  pub module_depth : Module → ℕ
  module_depth (module_with ms l) = suc (max (members_depth ms) (list_depth l))

  pub member_depth : Member → ℕ
  member_depth (item_member i) = item_depth i
  member_depth (exported_member i) = item_depth i
  member_depth (module_member m) = module_depth m

  pub members_depth : Members → ℕ
  members_depth no_member = 0
  members_depth (next_member m ms) = max (member_depth m) (members_depth ms)

  pub declaration_depth : Declaration → ℕ
  declaration_depth (item_declaration i) = item_depth i
  declaration_depth (module_declaration m) = module_depth m

  pub declarations_depth : Declarations → ℕ
  declarations_depth no_declaration = 0
  declarations_depth (next_declaration d ds) = max (declaration_depth d) (declarations_depth ds)

-- ---- programs

abbrev pub global_depth : Global → ℕ
global_depth (const_global l) = const_list_depth l
global_depth (type_global d) = type_decl_depth d

abbrev pub globals_depth : Globals → ℕ
globals_depth no_global = 0
globals_depth (next_global g gs) = max (global_depth g) (globals_depth gs)

abbrev pub depth : Program → ℕ
depth (program gs p) = max (globals_depth gs) (procedure_depth p)

-- a depth, where every number above 64 counts as 65
abbrev pub limited : ℕ → ℕ
limited n = min n 65
