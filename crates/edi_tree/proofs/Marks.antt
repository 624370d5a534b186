-- The marks among the elements of a tree are the marks that it spells.
use Rattle.std.proofs.Common.{◌≡◌, refl, sym, subst, List, [], Option, Some, None, ◌∷◌}
use Rattle.edi_lex.specs.declared.symbol.Symbol.TheVariants as is
use Rattle.edi_lex.specs.declared.symbol.Mark.{Mark}
use Rattle.edi_tree.specs.declared.names.Name.{Name}
use Rattle.edi_tree.specs.declared.constants.Constant.{Constant}
use Rattle.edi_tree.specs.declared.constants.Constant.TheVariants as constant
use Rattle.edi_tree.specs.declared.constants.ConstDecl.{ConstDecl}
use Rattle.edi_tree.specs.declared.expressions.Sign.{Sign}
use Rattle.edi_tree.specs.declared.expressions.Sign.TheVariants as sign
use Rattle.edi_tree.specs.declared.expressions.Root.{Root}
use Rattle.edi_tree.specs.declared.expressions.Root.TheVariants as root
use Rattle.edi_tree.specs.Tree.{Names, no_name, next_name, ConstDecls, no_const_decl, next_const_decl, ConstList, const_list, Group, group, Groups, no_group}
use Rattle.edi_tree.specs.Tree.{next_group, TypeDecl, enum_decl, record_decl, array_decl, set_decl, VarList, var_list, Heading, heading, Params, no_params}
use Rattle.edi_tree.specs.Tree.{params, MoreParams, no_param, next_param, Param, value_param, var_param, procedure_param, Expr, expr, Comparison}
use Rattle.edi_tree.specs.Tree.{no_comparison, compared, Exprs, no_expr, next_expr, Simple, simple, Addend, addend, Addends, no_addend, next_addend, Term}
use Rattle.edi_tree.specs.Tree.{term, Multiplier, multiplier, Multipliers, no_multiplier, next_multiplier, Factor, numeral, string, not_factor}
use Rattle.edi_tree.specs.Tree.{parenthesized, call_factor, variable_factor, Args, args, Variable, variable, Selector, field, index, Selectors, no_selector}
use Rattle.edi_tree.specs.Tree.{next_selector, StatementList, list, Statements, no_statement, next_statement, Statement, skip, assignment, call}
use Rattle.edi_tree.specs.Tree.{if_statement, while_statement, when_statement, cobegin, Conditions, conditions, Condition, condition, Else, no_else}
use Rattle.edi_tree.specs.Tree.{next_else, Branch, branch, Branches, no_branch, next_branch, Procedure, procedure, Item, const_item, type_item, var_item}
use Rattle.edi_tree.specs.Tree.{procedure_item, pre_item, post_item, Module, module_with, Member, item_member, exported_member, module_member, Members}
use Rattle.edi_tree.specs.Tree.{no_member, next_member, Declaration, item_declaration, module_declaration, Declarations, no_declaration, next_declaration}
use Rattle.edi_tree.specs.Tree.{Global, const_global, type_global, Globals, no_global, next_global, Program, program}
use Rattle.edi_tree.specs.Stands.{Spelled, StandAsMarks}
use Rattle.edi_tree.specs.Spelled.{names_then, constant_then, const_decl_then, const_decls_then, const_list_then, group_then, groups_then, type_decl_then}
use Rattle.edi_tree.specs.Spelled.{var_list_then, result_then, heading_then, params_then, more_params_then, param_then, sign_then, root_then, expr_then}
use Rattle.edi_tree.specs.Spelled.{comparison_then, exprs_then, simple_then, addend_then, addends_then, term_then, multiplier_then, multipliers_then}
use Rattle.edi_tree.specs.Spelled.{factor_then, args_then, variable_then, selector_then, selectors_then, optional_args_then, list_then, statements_then}
use Rattle.edi_tree.specs.Spelled.{statement_then, conditions_then, condition_then, else_then, branch_then, branches_then, procedure_then, item_then}
use Rattle.edi_tree.specs.Spelled.{module_then, member_then, members_then, declaration_then, declarations_then, global_then, globals_then, program_then}
use Rattle.edi_tree.specs.Spelled.{spelled}
use Rattle.edi_tree.specs.Levels.{Element, level_end, word, kept, named, marks_among, names_elements, constant_elements, const_decl_elements}
use Rattle.edi_tree.specs.Levels.{const_decls_elements, const_list_elements, group_elements, groups_elements, type_decl_elements, var_list_elements}
use Rattle.edi_tree.specs.Levels.{result_elements, heading_elements, params_elements, more_params_elements, param_elements, sign_elements, root_elements}
use Rattle.edi_tree.specs.Levels.{expr_elements, comparison_elements, exprs_elements, simple_elements, addend_elements, addends_elements, term_elements}
use Rattle.edi_tree.specs.Levels.{multiplier_elements, multipliers_elements, factor_elements, args_elements, variable_elements, selector_elements}
use Rattle.edi_tree.specs.Levels.{selectors_elements, optional_args_elements, list_elements, statements_elements, statement_elements, conditions_elements}
use Rattle.edi_tree.specs.Levels.{condition_elements, else_elements, branch_elements, branches_elements, procedure_elements, item_elements, module_elements}
use Rattle.edi_tree.specs.Levels.{member_elements, members_elements, declaration_elements, declarations_elements, global_elements, globals_elements}
use Rattle.edi_tree.specs.Levels.{program_elements, elements}

-- in front of any others, the marks among these elements are these
abbrev Spells : (List Element → List Element) → (List Spelled → List Spelled) → Type 0
Spells part spells = (more : List Element) → marks_among (part more) ≡ spells (marks_among more)

names_marks : (x : Names) → Spells (names_elements x) (names_then x)
names_marks no_name more = refl
names_marks (next_name n ns) more = rw (names_marks ns more) refl

constant_marks : (x : Constant) → Spells (constant_elements x) (constant_then x)
constant_marks (constant.Numeral v) more = refl
constant_marks (constant.Char c) more = refl
constant_marks (constant.Name n None) more = refl
constant_marks (constant.Name n (Some v)) more = refl

const_decl_marks : (x : ConstDecl) → Spells (const_decl_elements x) (const_decl_then x)
const_decl_marks d more = rw (constant_marks d.constant more) refl

const_decls_marks : (x : ConstDecls) → Spells (const_decls_elements x) (const_decls_then x)
const_decls_marks no_const_decl more = refl
const_decls_marks (next_const_decl d ds) more = rw (const_decl_marks d (const_decls_elements ds more), const_decls_marks ds more) refl

const_list_marks : (x : ConstList) → Spells (const_list_elements x) (const_list_then x)
const_list_marks (const_list d ds) more = rw (const_decl_marks d (const_decls_elements ds more), const_decls_marks ds more) refl

group_marks : (x : Group) → Spells (group_elements x) (group_then x)
group_marks (group n ns t) more = rw (names_marks ns (word is.Colon ∷ named t ∷ more)) refl

groups_marks : (x : Groups) → Spells (groups_elements x) (groups_then x)
groups_marks no_group more = refl
groups_marks (next_group g gs) more = rw (group_marks g (groups_elements gs more), groups_marks gs more) refl

type_decl_marks : (x : TypeDecl) → Spells (type_decl_elements x) (type_decl_then x)
type_decl_marks (enum_decl n m ms) more = rw (names_marks ms (word is.Close ∷ level_end ∷ more)) refl
type_decl_marks (record_decl n g gs) more =
    rw (group_marks g (groups_elements gs (word is.Close ∷ level_end ∷ more)), groups_marks gs (word is.Close ∷ level_end ∷ more)) refl
type_decl_marks (array_decl n line lower upper e) more =
    rw (
      constant_marks lower (word is.Colon ∷ constant_elements upper
          (word is.CloseBracket ∷ level_end ∷ word is.Open ∷ named e ∷ word is.Close ∷ level_end ∷ more)),
      constant_marks upper (word is.CloseBracket ∷ level_end ∷ word is.Open ∷ named e ∷ word is.Close ∷ level_end ∷ more),
    ) refl
type_decl_marks (set_decl n b) more = refl

var_list_marks : (x : VarList) → Spells (var_list_elements x) (var_list_then x)
var_list_marks (var_list g gs) more = rw (group_marks g (groups_elements gs more), groups_marks gs more) refl

result_marks : (x : Option Name) → Spells (result_elements x) (result_then x)
result_marks None more = refl
result_marks (Some n) more = refl

mutual
  heading_marks : (x : Heading) → Spells (heading_elements x) (heading_then x)
  heading_marks (heading n ps r) more = rw (params_marks ps (result_elements r more), result_marks r more) refl

  params_marks : (x : Params) → Spells (params_elements x) (params_then x)
  params_marks no_params more = refl
  params_marks (params p ps) more = rw (
    param_marks p (more_params_elements ps (word is.Close ∷ level_end ∷ more)),
    more_params_marks ps (word is.Close ∷ level_end ∷ more),
  ) refl

  more_params_marks : (x : MoreParams) → Spells (more_params_elements x) (more_params_then x)
  more_params_marks no_param more = refl
  more_params_marks (next_param p ps) more = rw (param_marks p (more_params_elements ps more), more_params_marks ps more) refl

  param_marks : (x : Param) → Spells (param_elements x) (param_then x)
  param_marks (value_param g) more = rw (group_marks g more) refl
  param_marks (var_param g) more = rw (group_marks g more) refl
  param_marks (procedure_param h) more = rw (heading_marks h (level_end ∷ more)) refl

sign_marks : (x : Option Sign) → Spells (sign_elements x) (sign_then x)
sign_marks None more = refl
sign_marks (Some (sign.Plus line)) more = refl
sign_marks (Some (sign.Minus line)) more = refl

root_marks : (x : Root) → Spells (root_elements x) (root_then x)
root_marks (root.Name n) more = refl
root_marks (root.Val n) more = refl

mutual
  expr_marks : (x : Expr) → Spells (expr_elements x) (expr_then x)
  expr_marks (expr s c) more = rw (simple_marks s (comparison_elements c more), comparison_marks c more) refl

  comparison_marks : (x : Comparison) → Spells (comparison_elements x) (comparison_then x)
  comparison_marks no_comparison more = refl
  comparison_marks (compared r line s) more = rw (simple_marks s more) refl

  exprs_marks : (x : Exprs) → Spells (exprs_elements x) (exprs_then x)
  exprs_marks no_expr more = refl
  exprs_marks (next_expr e es) more = rw (expr_marks e (exprs_elements es more), exprs_marks es more) refl

  simple_marks : (x : Simple) → Spells (simple_elements x) (simple_then x)
  simple_marks (simple s t ts) more = rw (
    sign_marks s (term_elements t (addends_elements ts more)),
    term_marks t (addends_elements ts more),
    addends_marks ts more,
  ) refl

  addend_marks : (x : Addend) → Spells (addend_elements x) (addend_then x)
  addend_marks (addend o line t) more = rw (term_marks t more) refl

  addends_marks : (x : Addends) → Spells (addends_elements x) (addends_then x)
  addends_marks no_addend more = refl
  addends_marks (next_addend t ts) more = rw (addend_marks t (addends_elements ts more), addends_marks ts more) refl

  term_marks : (x : Term) → Spells (term_elements x) (term_then x)
  term_marks (term f fs) more = rw (factor_marks f (multipliers_elements fs more), multipliers_marks fs more) refl

  multiplier_marks : (x : Multiplier) → Spells (multiplier_elements x) (multiplier_then x)
  multiplier_marks (multiplier o line f) more = rw (factor_marks f more) refl

  multipliers_marks : (x : Multipliers) → Spells (multipliers_elements x) (multipliers_then x)
  multipliers_marks no_multiplier more = refl
  multipliers_marks (next_multiplier f fs) more = rw (multiplier_marks f (multipliers_elements fs more), multipliers_marks fs more) refl

  factor_marks : (x : Factor) → Spells (factor_elements x) (factor_then x)
  factor_marks (numeral v) more = refl
  factor_marks (string s) more = refl
  factor_marks (not_factor line f) more = rw (factor_marks f (level_end ∷ more)) refl
  factor_marks (parenthesized e) more = rw (expr_marks e (word is.Close ∷ level_end ∷ more)) refl
  factor_marks (call_factor n a) more = rw (args_marks a more) refl
  factor_marks (variable_factor v) more = rw (variable_marks v more) refl

  args_marks : (x : Args) → Spells (args_elements x) (args_then x)
  args_marks (args e es) more = rw (expr_marks e (exprs_elements es (word is.Close ∷ level_end ∷ more)), exprs_marks es (word is.Close ∷ level_end ∷ more)) refl

  variable_marks : (x : Variable) → Spells (variable_elements x) (variable_then x)
  variable_marks (variable r ss) more = rw (root_marks r (selectors_elements ss more), selectors_marks ss more) refl

  selector_marks : (x : Selector) → Spells (selector_elements x) (selector_then x)
  selector_marks (field line n) more = refl
  selector_marks (index line e) more = rw (expr_marks e (word is.CloseBracket ∷ level_end ∷ more)) refl

  selectors_marks : (x : Selectors) → Spells (selectors_elements x) (selectors_then x)
  selectors_marks no_selector more = refl
  selectors_marks (next_selector s ss) more = rw (selector_marks s (selectors_elements ss more), selectors_marks ss more) refl

optional_args_marks : (x : Option Args) → Spells (optional_args_elements x) (optional_args_then x)
optional_args_marks None more = refl
optional_args_marks (Some a) more = rw (args_marks a more) refl

mutual
  list_marks : (x : StatementList) → Spells (list_elements x) (list_then x)
  list_marks (list s ss) more = rw (statement_marks s (statements_elements ss more), statements_marks ss more) refl

  statements_marks : (x : Statements) → Spells (statements_elements x) (statements_then x)
  statements_marks no_statement more = refl
  statements_marks (next_statement s ss) more = rw (statement_marks s (statements_elements ss more), statements_marks ss more) refl

  statement_marks : (x : Statement) → Spells (statement_elements x) (statement_then x)
  statement_marks skip more = refl
  statement_marks (assignment v line e) more = rw (variable_marks v (kept is.Becomes line ∷ expr_elements e more), expr_marks e more) refl
  statement_marks (call n a) more = rw (optional_args_marks a more) refl
  statement_marks (if_statement cs) more = rw (conditions_marks cs (word is.End ∷ level_end ∷ more)) refl
  statement_marks (while_statement cs) more = rw (conditions_marks cs (word is.End ∷ level_end ∷ more)) refl
  statement_marks (when_statement line cs) more = rw (conditions_marks cs (word is.End ∷ level_end ∷ more)) refl
  statement_marks (cobegin line b bs) more = rw (branch_marks b (branches_elements bs more), branches_marks bs more) refl

  conditions_marks : (x : Conditions) → Spells (conditions_elements x) (conditions_then x)
  conditions_marks (conditions c cs) more = rw (condition_marks c (else_elements cs more), else_marks cs more) refl

  condition_marks : (x : Condition) → Spells (condition_elements x) (condition_then x)
  condition_marks (condition e line l) more = rw (expr_marks e (kept is.Do line ∷ list_elements l more), list_marks l more) refl

  else_marks : (x : Else) → Spells (else_elements x) (else_then x)
  else_marks no_else more = refl
  else_marks (next_else c cs) more = rw (condition_marks c (else_elements cs more), else_marks cs more) refl

  branch_marks : (x : Branch) → Spells (branch_elements x) (branch_then x)
  branch_marks (branch c line l) more = rw (constant_marks c (kept is.Do line ∷ list_elements l more), list_marks l more) refl

  branches_marks : (x : Branches) → Spells (branches_elements x) (branches_then x)
  branches_marks (no_branch end) more = refl
  branches_marks (next_branch also b bs) more = rw (branch_marks b (branches_elements bs more), branches_marks bs more) refl

mutual
  procedure_marks : (x : Procedure) → Spells (procedure_elements x) (procedure_then x)
  procedure_marks (procedure h ds l end) more =
      rw (
        heading_marks h (declarations_elements ds (word is.Begin ∷ list_elements l (kept is.End end ∷ level_end ∷ more))),
        declarations_marks ds (word is.Begin ∷ list_elements l (kept is.End end ∷ level_end ∷ more)),
        list_marks l (kept is.End end ∷ level_end ∷ more),
      ) refl

  item_marks : (x : Item) → Spells (item_elements x) (item_then x)
  item_marks (const_item l) more = rw (const_list_marks l more) refl
  item_marks (type_item d) more = rw (type_decl_marks d more) refl
  item_marks (var_item l) more = rw (var_list_marks l more) refl
  item_marks (procedure_item p) more = rw (procedure_marks p more) refl
  item_marks (pre_item h) more = rw (heading_marks h (level_end ∷ more)) refl
  item_marks (post_item p) more = rw (procedure_marks p more) refl

  module_marks : (x : Module) → Spells (module_elements x) (module_then x)
  module_marks (module_with ms l) more = rw (
    members_marks ms (word is.Begin ∷ list_elements l (word is.End ∷ level_end ∷ more)),
    list_marks l (word is.End ∷ level_end ∷ more),
  ) refl

  member_marks : (x : Member) → Spells (member_elements x) (member_then x)
  member_marks (item_member i) more = rw (item_marks i more) refl
  member_marks (exported_member i) more = rw (item_marks i more) refl
  member_marks (module_member m) more = rw (module_marks m more) refl

  members_marks : (x : Members) → Spells (members_elements x) (members_then x)
  members_marks no_member more = refl
  members_marks (next_member m ms) more = rw (member_marks m (members_elements ms more), members_marks ms more) refl

  declaration_marks : (x : Declaration) → Spells (declaration_elements x) (declaration_then x)
  declaration_marks (item_declaration i) more = rw (item_marks i more) refl
  declaration_marks (module_declaration m) more = rw (module_marks m more) refl

  declarations_marks : (x : Declarations) → Spells (declarations_elements x) (declarations_then x)
  declarations_marks no_declaration more = refl
  declarations_marks (next_declaration d ds) more = rw (declaration_marks d (declarations_elements ds more), declarations_marks ds more) refl

global_marks : (x : Global) → Spells (global_elements x) (global_then x)
global_marks (const_global l) more = rw (const_list_marks l more) refl
global_marks (type_global d) more = rw (type_decl_marks d more) refl

globals_marks : (x : Globals) → Spells (globals_elements x) (globals_then x)
globals_marks no_global more = refl
globals_marks (next_global g gs) more = rw (global_marks g (globals_elements gs more), globals_marks gs more) refl

program_marks : (x : Program) → Spells (program_elements x) (program_then x)
program_marks (program gs p) more = rw (globals_marks gs (procedure_elements p more), procedure_marks p more) refl

pub elements_marks : (tree : Program) → marks_among (elements tree) ≡ spelled tree
elements_marks tree = program_marks tree []

-- a program spells what its parts spell, one after another
pub parts_stand : (tree : Program) (marks : List Mark) → StandAsMarks (marks_among (elements tree)) marks → StandAsMarks (spelled tree) marks
parts_stand tree marks h = subst (λ l. StandAsMarks l marks) (elements_marks tree) h

pub parts_spell : (tree : Program) (marks : List Mark) → StandAsMarks (spelled tree) marks → StandAsMarks (marks_among (elements tree)) marks
parts_spell tree marks h = subst (λ l. StandAsMarks l marks) (sym (elements_marks tree)) h
