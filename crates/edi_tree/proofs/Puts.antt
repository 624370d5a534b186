-- The printer puts the marks that a tree spells, one after another.
use Rattle.std.proofs.Common.{◌≡◌, refl, ◌∙◌, sym, ap, true, false, List, [], ◌∷◌, ◌++◌, Option, Some, None}
use Rattle.std.proofs.lemmas.List.{append_assoc, append-nil}
use Rattle.edi_lex.specs.declared.symbol.Symbol.TheVariants as is
use Rattle.edi_tree.specs.declared.names.Name.{Name}
use Rattle.edi_tree.specs.declared.constants.Constant.{Constant}
use Rattle.edi_tree.specs.declared.constants.Constant.TheVariants as constant
use Rattle.edi_tree.specs.declared.constants.ConstDecl.{ConstDecl}
use Rattle.edi_tree.specs.declared.expressions.Sign.{Sign}
use Rattle.edi_tree.specs.declared.expressions.Sign.TheVariants as sign
use Rattle.edi_tree.specs.declared.expressions.Root.{Root}
use Rattle.edi_tree.specs.declared.expressions.Root.TheVariants as root
use Rattle.edi_tree.specs.Tree.{Names, no_name, next_name, ConstDecls, no_const_decl, next_const_decl, ConstList, const_list, Group, group, Groups, no_group}
use Rattle.edi_tree.specs.Tree.{next_group, TypeDecl, enum_decl, record_decl, array_decl, set_decl, VarList, var_list, Heading, heading, Params, no_params}
use Rattle.edi_tree.specs.Tree.{params, MoreParams, no_param, next_param, Param, value_param, var_param, procedure_param, Expr, expr, Comparison}
use Rattle.edi_tree.specs.Tree.{no_comparison, compared, Exprs, no_expr, next_expr, Simple, simple, Addend, addend, Addends, no_addend, next_addend, Term}
use Rattle.edi_tree.specs.Tree.{term, Multiplier, multiplier, Multipliers, no_multiplier, next_multiplier, Factor, numeral, string, not_factor}
use Rattle.edi_tree.specs.Tree.{parenthesized, call_factor, variable_factor, Args, args, Variable, variable, Selector, field, index, Selectors, no_selector}
use Rattle.edi_tree.specs.Tree.{next_selector, StatementList, list, Statements, no_statement, next_statement, Statement, skip, assignment, call}
use Rattle.edi_tree.specs.Tree.{if_statement, while_statement, when_statement, cobegin, Conditions, conditions, Condition, condition, Else, no_else}
use Rattle.edi_tree.specs.Tree.{next_else, Branch, branch, Branches, no_branch, next_branch, Procedure, procedure, Item, const_item, type_item, var_item}
use Rattle.edi_tree.specs.Tree.{procedure_item, pre_item, post_item, Module, module_with, Member, item_member, exported_member, module_member, Members}
use Rattle.edi_tree.specs.Tree.{no_member, next_member, Declaration, item_declaration, module_declaration, Declarations, no_declaration, next_declaration}
use Rattle.edi_tree.specs.Tree.{Global, const_global, type_global, Globals, no_global, next_global, Program, program}
use Rattle.edi_tree.specs.Stands.{Spelled, on, just, name_mark, relation_symbol, addition_symbol, multiplication_symbol}
use Rattle.edi_tree.specs.Spelled.{spelled, names_then, constant_then}
use Rattle.edi_tree.specs.Spelled.{const_decl_then, const_decls_then, const_list_then, group_then, groups_then, type_decl_then, var_list_then, result_then}
use Rattle.edi_tree.specs.Spelled.{heading_then, params_then, more_params_then, param_then, sign_then, root_then, expr_then, comparison_then, exprs_then}
use Rattle.edi_tree.specs.Spelled.{simple_then, addend_then, addends_then, term_then, multiplier_then, multipliers_then, factor_then, args_then}
use Rattle.edi_tree.specs.Spelled.{variable_then, selector_then, selectors_then, optional_args_then, list_then, statements_then, statement_then}
use Rattle.edi_tree.specs.Spelled.{conditions_then, condition_then, else_then, branch_then, branches_then, procedure_then, item_then, module_then}
use Rattle.edi_tree.specs.Spelled.{member_then, members_then, declaration_then, declarations_then, global_then, globals_then, program_then}
use Rattle.edi_tree.specs.Printed.{text_of, gap, line_at, printed_from, printed}
use Rattle.edi_tree.specs.Printing.{put, put_text, print_names, print_constant, print_const_decl, print_const_decls, print_const_list, print_group}
use Rattle.edi_tree.specs.Printing.{print_groups, print_type_decl, print_var_list, print_result, print_heading, print_params, print_more_params, print_param}
use Rattle.edi_tree.specs.Printing.{print_sign, print_root, print_expr, print_comparison, print_exprs, print_simple, print_addends, print_term}
use Rattle.edi_tree.specs.Printing.{print_multipliers, print_factor, print_args, print_variable, print_selector, print_selectors}
use Rattle.edi_tree.specs.Printing.{print_optional_args, print_list, print_statements, print_statement, print_conditions, print_condition, print_else}
use Rattle.edi_tree.specs.Printing.{print_branch, print_branches, print_procedure, print_item, print_module, print_member, print_members, print_declaration}
use Rattle.edi_tree.specs.Printing.{print_declarations, print_global, print_globals, print_program}
use Rattle.edi_tree.specs.declared.printer.Printer.{Printer}

abbrev pub put_all : Printer → List Spelled → Printer
put_all out [] = out
put_all out (s ∷ more) = put_all (put s out) more

-- ---- names, constants, types, variables

names_printed : (x : Names) (out : Printer) (more : List Spelled) → put_all (print_names x out) more ≡ put_all out (names_then x more)
names_printed no_name out more = refl
names_printed (next_name n ns) out more = names_printed ns (put (name_mark n) (put (just is.Comma) out)) more

constant_printed : (x : Constant) (out : Printer) (more : List Spelled) → put_all (print_constant x out) more ≡ put_all out (constant_then x more)
constant_printed (constant.Numeral v) out more = refl
constant_printed (constant.Char c) out more = refl
constant_printed (constant.Name n None) out more = refl
constant_printed (constant.Name n (Some v)) out more = refl

const_decl_printed : (x : ConstDecl) (out : Printer) (more : List Spelled) → put_all (print_const_decl x out) more ≡ put_all out (const_decl_then x more)
const_decl_printed d out more = constant_printed d.constant (put (just is.Equal) (put (name_mark d.name) out)) more

const_decls_printed : (x : ConstDecls) (out : Printer) (more : List Spelled) → put_all (print_const_decls x out) more ≡ put_all out (const_decls_then x more)
const_decls_printed no_const_decl out more = refl
const_decls_printed (next_const_decl d ds) out more = const_decls_printed ds (print_const_decl d (put (just is.Semicolon) out)) more
    ∙ const_decl_printed d (put (just is.Semicolon) out) (const_decls_then ds more)

const_list_printed : (x : ConstList) (out : Printer) (more : List Spelled) → put_all (print_const_list x out) more ≡ put_all out (const_list_then x more)
const_list_printed (const_list d ds) out more = const_decls_printed ds (print_const_decl d (put (just is.Const) out)) more
    ∙ const_decl_printed d (put (just is.Const) out) (const_decls_then ds more)

group_printed : (x : Group) (out : Printer) (more : List Spelled) → put_all (print_group x out) more ≡ put_all out (group_then x more)
group_printed (group n ns t) out more = names_printed ns (put (name_mark n) out) (just is.Colon ∷ name_mark t ∷ more)

groups_printed : (x : Groups) (out : Printer) (more : List Spelled) → put_all (print_groups x out) more ≡ put_all out (groups_then x more)
groups_printed no_group out more = refl
groups_printed (next_group g gs) out more = groups_printed gs (print_group g (put (just is.Semicolon) out)) more
    ∙ group_printed g (put (just is.Semicolon) out) (groups_then gs more)

type_decl_printed : (x : TypeDecl) (out : Printer) (more : List Spelled) → put_all (print_type_decl x out) more ≡ put_all out (type_decl_then x more)
type_decl_printed (enum_decl n m ms) out more = names_printed ms (put (name_mark m) (put (just is.Open) (put (name_mark n) (put (just is.Enum) out))))
    (just is.Close ∷ more)
type_decl_printed (record_decl n g gs) out more = groups_printed gs (print_group g (put (just is.Open) (put (name_mark n) (put (just is.Record) out))))
    (just is.Close ∷ more) ∙ group_printed g (put (just is.Open) (put (name_mark n) (put (just is.Record) out))) (groups_then gs (just is.Close ∷ more))
type_decl_printed (array_decl n line lower upper e) out more = constant_printed upper
    (put (just is.Colon) (print_constant lower (put (on is.OpenBracket line) (put (name_mark n) (put (just is.Array) out)))))
    (just is.CloseBracket ∷ just is.Open ∷ name_mark e ∷ just is.Close ∷ more)
    ∙ constant_printed lower (put (on is.OpenBracket line) (put (name_mark n) (put (just is.Array) out)))
    (just is.Colon ∷ constant_then upper (just is.CloseBracket ∷ just is.Open ∷ name_mark e ∷ just is.Close ∷ more))
type_decl_printed (set_decl n b) out more = refl

var_list_printed : (x : VarList) (out : Printer) (more : List Spelled) → put_all (print_var_list x out) more ≡ put_all out (var_list_then x more)
var_list_printed (var_list g gs) out more = groups_printed gs (print_group g (put (just is.Var) out)) more ∙ group_printed g (put (just is.Var) out)
    (groups_then gs more)

-- ---- headings

result_printed : (x : Option Name) (out : Printer) (more : List Spelled) → put_all (print_result x out) more ≡ put_all out (result_then x more)
result_printed None out more = refl
result_printed (Some n) out more = refl

mutual
  heading_printed : (x : Heading) (out : Printer) (more : List Spelled) → put_all (print_heading x out) more ≡ put_all out (heading_then x more)
  heading_printed (heading n ps r) out more = result_printed r (print_params ps (put (name_mark n) (put (just is.Proc) out))) more
      ∙ params_printed ps (put (name_mark n) (put (just is.Proc) out)) (result_then r more)

  params_printed : (x : Params) (out : Printer) (more : List Spelled) → put_all (print_params x out) more ≡ put_all out (params_then x more)
  params_printed no_params out more = refl
  params_printed (params p ps) out more = more_params_printed ps (print_param p (put (just is.Open) out)) (just is.Close ∷ more)
      ∙ param_printed p (put (just is.Open) out) (more_params_then ps (just is.Close ∷ more))

  more_params_printed : (x : MoreParams) (out : Printer) (more : List Spelled) → put_all (print_more_params x out) more ≡ put_all out (more_params_then x more)
  more_params_printed no_param out more = refl
  more_params_printed (next_param p ps) out more = more_params_printed ps (print_param p (put (just is.Semicolon) out)) more
      ∙ param_printed p (put (just is.Semicolon) out) (more_params_then ps more)

  param_printed : (x : Param) (out : Printer) (more : List Spelled) → put_all (print_param x out) more ≡ put_all out (param_then x more)
  param_printed (value_param g) out more = group_printed g out more
  param_printed (var_param g) out more = group_printed g (put (just is.Var) out) more
  param_printed (procedure_param h) out more = heading_printed h out more

-- ---- expressions

sign_printed : (x : Option Sign) (out : Printer) (more : List Spelled) → put_all (print_sign x out) more ≡ put_all out (sign_then x more)
sign_printed None out more = refl
sign_printed (Some (sign.Plus line)) out more = refl
sign_printed (Some (sign.Minus line)) out more = refl

root_printed : (x : Root) (out : Printer) (more : List Spelled) → put_all (print_root x out) more ≡ put_all out (root_then x more)
root_printed (root.Name n) out more = refl
root_printed (root.Val n) out more = refl

mutual
  expr_printed : (x : Expr) (out : Printer) (more : List Spelled) → put_all (print_expr x out) more ≡ put_all out (expr_then x more)
  expr_printed (expr s c) out more = comparison_printed c (print_simple s out) more ∙ simple_printed s out (comparison_then c more)

  comparison_printed : (x : Comparison) (out : Printer) (more : List Spelled) → put_all (print_comparison x out) more ≡ put_all out (comparison_then x more)
  comparison_printed no_comparison out more = refl
  comparison_printed (compared r line s) out more = simple_printed s (put (on (relation_symbol r) line) out) more

  exprs_printed : (x : Exprs) (out : Printer) (more : List Spelled) → put_all (print_exprs x out) more ≡ put_all out (exprs_then x more)
  exprs_printed no_expr out more = refl
  exprs_printed (next_expr e es) out more = exprs_printed es (print_expr e (put (just is.Comma) out)) more ∙ expr_printed e (put (just is.Comma) out)
      (exprs_then es more)

  simple_printed : (x : Simple) (out : Printer) (more : List Spelled) → put_all (print_simple x out) more ≡ put_all out (simple_then x more)
  simple_printed (simple s t ts) out more = addends_printed ts (print_term t (print_sign s out)) more ∙ term_printed t (print_sign s out)
      (addends_then ts more) ∙ sign_printed s out (term_then t (addends_then ts more))

  addends_printed : (x : Addends) (out : Printer) (more : List Spelled) → put_all (print_addends x out) more ≡ put_all out (addends_then x more)
  addends_printed no_addend out more = refl
  addends_printed (next_addend (addend o line t) ts) out more = addends_printed ts (print_term t (put (on (addition_symbol o) line) out)) more
      ∙ term_printed t (put (on (addition_symbol o) line) out) (addends_then ts more)

  term_printed : (x : Term) (out : Printer) (more : List Spelled) → put_all (print_term x out) more ≡ put_all out (term_then x more)
  term_printed (term f fs) out more = multipliers_printed fs (print_factor f out) more ∙ factor_printed f out (multipliers_then fs more)

  multipliers_printed : (x : Multipliers) (out : Printer) (more : List Spelled) → put_all (print_multipliers x out) more ≡ put_all out (multipliers_then x more)
  multipliers_printed no_multiplier out more = refl
  multipliers_printed (next_multiplier (multiplier o line f) fs) out more =
      multipliers_printed fs (print_factor f (put (on (multiplication_symbol o) line) out)) more
      ∙ factor_printed f (put (on (multiplication_symbol o) line) out) (multipliers_then fs more)

  factor_printed : (x : Factor) (out : Printer) (more : List Spelled) → put_all (print_factor x out) more ≡ put_all out (factor_then x more)
  factor_printed (numeral v) out more = refl
  factor_printed (string s) out more = refl
  factor_printed (not_factor line f) out more = factor_printed f (put (on is.Not line) out) more
  factor_printed (parenthesized e) out more = expr_printed e (put (just is.Open) out) (just is.Close ∷ more)
  factor_printed (call_factor n a) out more = args_printed a (put (name_mark n) out) more
  factor_printed (variable_factor v) out more = variable_printed v out more

  args_printed : (x : Args) (out : Printer) (more : List Spelled) → put_all (print_args x out) more ≡ put_all out (args_then x more)
  args_printed (args e es) out more = exprs_printed es (print_expr e (put (just is.Open) out)) (just is.Close ∷ more)
      ∙ expr_printed e (put (just is.Open) out) (exprs_then es (just is.Close ∷ more))

  variable_printed : (x : Variable) (out : Printer) (more : List Spelled) → put_all (print_variable x out) more ≡ put_all out (variable_then x more)
  variable_printed (variable r ss) out more = selectors_printed ss (print_root r out) more ∙ root_printed r out (selectors_then ss more)

  selector_printed : (x : Selector) (out : Printer) (more : List Spelled) → put_all (print_selector x out) more ≡ put_all out (selector_then x more)
  selector_printed (field line n) out more = refl
  selector_printed (index line e) out more = expr_printed e (put (on is.OpenBracket line) out) (just is.CloseBracket ∷ more)

  selectors_printed : (x : Selectors) (out : Printer) (more : List Spelled) → put_all (print_selectors x out) more ≡ put_all out (selectors_then x more)
  selectors_printed no_selector out more = refl
  selectors_printed (next_selector s ss) out more = selectors_printed ss (print_selector s out) more ∙ selector_printed s out (selectors_then ss more)

-- ---- statements

optional_args_printed : (x : Option Args) (out : Printer) (more : List Spelled) → put_all (print_optional_args x out) more ≡ put_all out
    (optional_args_then x more)
optional_args_printed None out more = refl
optional_args_printed (Some a) out more = args_printed a out more

mutual
  list_printed : (x : StatementList) (out : Printer) (more : List Spelled) → put_all (print_list x out) more ≡ put_all out (list_then x more)
  list_printed (list s ss) out more = statements_printed ss (print_statement s out) more ∙ statement_printed s out (statements_then ss more)

  statements_printed : (x : Statements) (out : Printer) (more : List Spelled) → put_all (print_statements x out) more ≡ put_all out (statements_then x more)
  statements_printed no_statement out more = refl
  statements_printed (next_statement s ss) out more = statements_printed ss (print_statement s (put (just is.Semicolon) out)) more
      ∙ statement_printed s (put (just is.Semicolon) out) (statements_then ss more)

  statement_printed : (x : Statement) (out : Printer) (more : List Spelled) → put_all (print_statement x out) more ≡ put_all out (statement_then x more)
  statement_printed skip out more = refl
  statement_printed (assignment v line e) out more = expr_printed e (put (on is.Becomes line) (print_variable v out)) more
      ∙ variable_printed v out (on is.Becomes line ∷ expr_then e more)
  statement_printed (call n a) out more = optional_args_printed a (put (name_mark n) out) more
  statement_printed (if_statement cs) out more = conditions_printed cs (put (just is.If) out) (just is.End ∷ more)
  statement_printed (while_statement cs) out more = conditions_printed cs (put (just is.While) out) (just is.End ∷ more)
  statement_printed (when_statement line cs) out more = conditions_printed cs (put (on is.When line) out) (just is.End ∷ more)
  statement_printed (cobegin line b bs) out more = branches_printed bs (print_branch b (put (on is.Cobegin line) out)) more
      ∙ branch_printed b (put (on is.Cobegin line) out) (branches_then bs more)

  conditions_printed : (x : Conditions) (out : Printer) (more : List Spelled) → put_all (print_conditions x out) more ≡ put_all out (conditions_then x more)
  conditions_printed (conditions c cs) out more = else_printed cs (print_condition c out) more ∙ condition_printed c out (else_then cs more)

  condition_printed : (x : Condition) (out : Printer) (more : List Spelled) → put_all (print_condition x out) more ≡ put_all out (condition_then x more)
  condition_printed (condition e line l) out more = list_printed l (put (on is.Do line) (print_expr e out)) more
      ∙ expr_printed e out (on is.Do line ∷ list_then l more)

  else_printed : (x : Else) (out : Printer) (more : List Spelled) → put_all (print_else x out) more ≡ put_all out (else_then x more)
  else_printed no_else out more = refl
  else_printed (next_else c cs) out more = else_printed cs (print_condition c (put (just is.Else) out)) more ∙ condition_printed c (put (just is.Else) out)
      (else_then cs more)

  branch_printed : (x : Branch) (out : Printer) (more : List Spelled) → put_all (print_branch x out) more ≡ put_all out (branch_then x more)
  branch_printed (branch c line l) out more = list_printed l (put (on is.Do line) (print_constant c out)) more
      ∙ constant_printed c out (on is.Do line ∷ list_then l more)

  branches_printed : (x : Branches) (out : Printer) (more : List Spelled) → put_all (print_branches x out) more ≡ put_all out (branches_then x more)
  branches_printed (no_branch end) out more = refl
  branches_printed (next_branch also b bs) out more = branches_printed bs (print_branch b (put (on is.Also also) out)) more
      ∙ branch_printed b (put (on is.Also also) out) (branches_then bs more)

-- ---- declarations

mutual
  procedure_printed : (x : Procedure) (out : Printer) (more : List Spelled) → put_all (print_procedure x out) more ≡ put_all out (procedure_then x more)
  procedure_printed (procedure h ds l end) out more = list_printed l (put (just is.Begin) (print_declarations ds (print_heading h out)))
      (on is.End end ∷ more) ∙ declarations_printed ds (print_heading h out) (just is.Begin ∷ list_then l (on is.End end ∷ more))
      ∙ heading_printed h out (declarations_then ds (just is.Begin ∷ list_then l (on is.End end ∷ more)))

  item_printed : (x : Item) (out : Printer) (more : List Spelled) → put_all (print_item x out) more ≡ put_all out (item_then x more)
  item_printed (const_item l) out more = const_list_printed l out more
  item_printed (type_item d) out more = type_decl_printed d out more
  item_printed (var_item l) out more = var_list_printed l out more
  item_printed (procedure_item p) out more = procedure_printed p out more
  item_printed (pre_item h) out more = heading_printed h (put (just is.Pre) out) more
  item_printed (post_item p) out more = procedure_printed p (put (just is.Post) out) more

  module_printed : (x : Module) (out : Printer) (more : List Spelled) → put_all (print_module x out) more ≡ put_all out (module_then x more)
  module_printed (module_with ms l) out more = list_printed l (put (just is.Begin) (print_members ms (put (just is.Module) out))) (just is.End ∷ more)
      ∙ members_printed ms (put (just is.Module) out) (just is.Begin ∷ list_then l (just is.End ∷ more))

  member_printed : (x : Member) (out : Printer) (more : List Spelled) → put_all (print_member x out) more ≡ put_all out (member_then x more)
  member_printed (item_member i) out more = item_printed i out more
  member_printed (exported_member i) out more = item_printed i (put (just is.Star) out) more
  member_printed (module_member m) out more = module_printed m out more

  members_printed : (x : Members) (out : Printer) (more : List Spelled) → put_all (print_members x out) more ≡ put_all out (members_then x more)
  members_printed no_member out more = refl
  members_printed (next_member m ms) out more = members_printed ms (print_member m out) more ∙ member_printed m out (members_then ms more)

  declaration_printed : (x : Declaration) (out : Printer) (more : List Spelled) → put_all (print_declaration x out) more ≡ put_all out (declaration_then x more)
  declaration_printed (item_declaration i) out more = item_printed i out more
  declaration_printed (module_declaration m) out more = module_printed m out more

  declarations_printed : (x : Declarations) (out : Printer) (more : List Spelled) → put_all (print_declarations x out) more ≡ put_all out
      (declarations_then x more)
  declarations_printed no_declaration out more = refl
  declarations_printed (next_declaration d ds) out more = declarations_printed ds (print_declaration d out) more
      ∙ declaration_printed d out (declarations_then ds more)

-- ---- programs

global_printed : (x : Global) (out : Printer) (more : List Spelled) → put_all (print_global x out) more ≡ put_all out (global_then x more)
global_printed (const_global l) out more = const_list_printed l out more
global_printed (type_global d) out more = type_decl_printed d out more

globals_printed : (x : Globals) (out : Printer) (more : List Spelled) → put_all (print_globals x out) more ≡ put_all out (globals_then x more)
globals_printed no_global out more = refl
globals_printed (next_global g gs) out more = globals_printed gs (print_global g out) more ∙ global_printed g out (globals_then gs more)

program_printed : (x : Program) (out : Printer) (more : List Spelled) → put_all (print_program x out) more ≡ put_all out (program_then x more)
program_printed (program gs p) out more = procedure_printed p (print_globals gs out) more ∙ globals_printed gs out (procedure_then p more)

-- ---- the text

-- what is printed stands behind what was printed before
put_text_of : (ss : List Spelled) (out : Printer) → (put_all out ss).text ≡ out.text ++ printed_from out.begun out.line ss
unfolding put_text
put_text_of [] out = sym (append-nil out.text)
put_text_of (s ∷ ss) out =
    let here = gap out.begun out.line s.line in
    let rest = printed_from true (line_at out.line s.line) ss in
    put_text_of ss (put s out) ∙ append_assoc out.text (here ++ text_of s.symbol) rest ∙ ap (λ x. out.text ++ x) (append_assoc here (text_of s.symbol) rest)

-- printing begins with nothing, on line 1
pub program_text : (tree : Program) (out : Printer) → out ≡ record { text = []; line = 1; begun = false } → (print_program tree out).text ≡ printed tree
program_text tree out empty = ap (λ p. p.text) (program_printed tree out []) ∙ put_text_of (spelled tree) out
    ∙ ap (λ p. p.text ++ printed_from p.begun p.line (spelled tree)) empty
