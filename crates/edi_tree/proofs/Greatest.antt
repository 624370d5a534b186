-- The greatest level among the elements of a tree is its depth.
use Rattle.std.proofs.Common.{◌≡◌, refl, subst, ℕ, suc, ◌+◌, ◌≤◌, max, arith, Bool, true, false, List, [], ◌∷◌, Option, Some, None, if◌then◌else◌}
use Rattle.std.proofs.Math.Nat.{le-max_left}
use Rattle.edi_tree.specs.declared.expressions.Relation.{Relation}
use Rattle.edi_tree.specs.declared.expressions.Relation.TheVariants as relation
use Rattle.edi_tree.specs.declared.expressions.Addition.{Addition}
use Rattle.edi_tree.specs.declared.expressions.Addition.TheVariants as addition
use Rattle.edi_tree.specs.declared.expressions.Multiplication.{Multiplication}
use Rattle.edi_tree.specs.declared.expressions.Multiplication.TheVariants as multiplication
use Rattle.edi_tree.specs.Stands.{relation_symbol, addition_symbol, multiplication_symbol}
use Rattle.edi_lex.specs.declared.symbol.Symbol.TheVariants as is
use Rattle.edi_tree.specs.declared.names.Name.{Name}
use Rattle.edi_tree.specs.declared.constants.Constant.{Constant}
use Rattle.edi_tree.specs.declared.constants.Constant.TheVariants as constant
use Rattle.edi_tree.specs.declared.constants.ConstDecl.{ConstDecl}
use Rattle.edi_tree.specs.declared.expressions.Sign.{Sign}
use Rattle.edi_tree.specs.declared.expressions.Sign.TheVariants as sign
use Rattle.edi_tree.specs.declared.expressions.Root.{Root}
use Rattle.edi_tree.specs.declared.expressions.Root.TheVariants as root
use Rattle.edi_tree.specs.Tree.{Names, no_name, next_name, ConstDecls, no_const_decl, next_const_decl, ConstList, const_list, Group, group, Groups, no_group}
use Rattle.edi_tree.specs.Tree.{next_group, TypeDecl, enum_decl, record_decl, array_decl, set_decl, VarList, var_list, Heading, heading, Params, no_params}
use Rattle.edi_tree.specs.Tree.{params, MoreParams, no_param, next_param, Param, value_param, var_param, procedure_param, Expr, expr, Comparison}
use Rattle.edi_tree.specs.Tree.{no_comparison, compared, Exprs, no_expr, next_expr, Simple, simple, Addend, addend, Addends, no_addend, next_addend, Term}
use Rattle.edi_tree.specs.Tree.{term, Multiplier, multiplier, Multipliers, no_multiplier, next_multiplier, Factor, numeral, string, not_factor}
use Rattle.edi_tree.specs.Tree.{parenthesized, call_factor, variable_factor, Args, args, Variable, variable, Selector, field, index, Selectors, no_selector}
use Rattle.edi_tree.specs.Tree.{next_selector, StatementList, list, Statements, no_statement, next_statement, Statement, skip, assignment, call}
use Rattle.edi_tree.specs.Tree.{if_statement, while_statement, when_statement, cobegin, Conditions, conditions, Condition, condition, Else, no_else}
use Rattle.edi_tree.specs.Tree.{next_else, Branch, branch, Branches, no_branch, next_branch, Procedure, procedure, Item, const_item, type_item, var_item}
use Rattle.edi_tree.specs.Tree.{procedure_item, pre_item, post_item, Module, module_with, Member, item_member, exported_member, module_member, Members}
use Rattle.edi_tree.specs.Tree.{no_member, next_member, Declaration, item_declaration, module_declaration, Declarations, no_declaration, next_declaration}
use Rattle.edi_tree.specs.Tree.{Global, const_global, type_global, Globals, no_global, next_global, Program, program}
use Rattle.edi_tree.specs.Depth.{constant_depth, const_decl_depth, const_decls_depth, const_list_depth, type_decl_depth, heading_depth, params_depth}
use Rattle.edi_tree.specs.Depth.{more_params_depth, param_depth, expr_depth, comparison_depth, exprs_depth, simple_depth, addend_depth, addends_depth}
use Rattle.edi_tree.specs.Depth.{term_depth, multiplier_depth, multipliers_depth, factor_depth, args_depth, variable_depth, selector_depth, selectors_depth}
use Rattle.edi_tree.specs.Depth.{optional_args_depth, list_depth, statements_depth, statement_depth, conditions_depth, condition_depth, else_depth}
use Rattle.edi_tree.specs.Depth.{branch_depth, branches_depth, procedure_depth, item_depth, module_depth, member_depth, members_depth, declaration_depth}
use Rattle.edi_tree.specs.Depth.{declarations_depth, global_depth, globals_depth, depth}
use Rattle.edi_tree.specs.Levels.{Element, mark, level_end, word, kept, named, opens, with_symbol, one_less, greatest_level, names_elements, most_levels}
use Rattle.edi_tree.specs.Levels.{constant_elements, const_decl_elements, const_decls_elements, const_list_elements, group_elements, groups_elements}
use Rattle.edi_tree.specs.Levels.{type_decl_elements, var_list_elements, result_elements, heading_elements, params_elements, more_params_elements}
use Rattle.edi_tree.specs.Levels.{param_elements, sign_elements, root_elements, expr_elements, comparison_elements, exprs_elements, simple_elements}
use Rattle.edi_tree.specs.Levels.{addend_elements, addends_elements, term_elements, multiplier_elements, multipliers_elements, factor_elements}
use Rattle.edi_tree.specs.Levels.{args_elements, variable_elements, selector_elements, selectors_elements, optional_args_elements, list_elements}
use Rattle.edi_tree.specs.Levels.{statements_elements, statement_elements, conditions_elements, condition_elements, else_elements, branch_elements}
use Rattle.edi_tree.specs.Levels.{branches_elements, procedure_elements, item_elements, module_elements, member_elements, members_elements}
use Rattle.edi_tree.specs.Levels.{declaration_elements, declarations_elements, global_elements, globals_elements, program_elements, elements}

-- the level is not below what it was
least_with : (more : List Element) (b : Bool) (k : ℕ) → ((k : ℕ) → k ≤ greatest_level k more) → k ≤ greatest_level (if b then suc k else k) more
least_with more true k h = let h1 = h (suc k) in omega (arith, h1)
least_with more false k h = h k

least : (more : List Element) (k : ℕ) → k ≤ greatest_level k more
least [] k = omega arith
least (mark s ∷ more) k = least_with more (opens s.symbol) k (least more)
least (level_end ∷ more) k = le-max_left k (greatest_level (one_less k) more)

-- in front of any others, what a part spells opens so many levels at once
abbrev Reaches : (List Element → List Element) → ℕ → Type 0
Reaches part depth = (k : ℕ) (more : List Element) → greatest_level k (part more) ≡ max (k + depth) (greatest_level k more)

-- or none
abbrev Stays : (List Element → List Element) → Type 0
Stays part = (k : ℕ) (more : List Element) → greatest_level k (part more) ≡ greatest_level k more

stays_relation : (k : ℕ) (r : Relation) → with_symbol k (relation_symbol r) ≡ k
stays_relation k relation.Equal = refl
stays_relation k relation.NotEqual = refl
stays_relation k relation.Less = refl
stays_relation k relation.AtMost = refl
stays_relation k relation.Greater = refl
stays_relation k relation.AtLeast = refl
stays_relation k relation.In = refl

stays_addition : (k : ℕ) (o : Addition) → with_symbol k (addition_symbol o) ≡ k
stays_addition k addition.Plus = refl
stays_addition k addition.Minus = refl
stays_addition k addition.Or = refl

stays_multiplication : (k : ℕ) (o : Multiplication) → with_symbol k (multiplication_symbol o) ≡ k
stays_multiplication k multiplication.Star = refl
stays_multiplication k multiplication.Div = refl
stays_multiplication k multiplication.Mod = refl
stays_multiplication k multiplication.And = refl

names_greatest : (x : Names) → Stays (names_elements x)
names_greatest no_name k more = refl
names_greatest (next_name n ns) k more = rw (names_greatest ns k more) refl

constant_greatest : (x : Constant) → Reaches (constant_elements x) (constant_depth x)
constant_greatest (constant.Numeral v) k more = grind (arith, least more k)
constant_greatest (constant.Char c) k more = grind (arith, least more k)
constant_greatest (constant.Name n None) k more = grind (arith, least more k)
constant_greatest (constant.Name n (Some v)) k more = grind (arith, least more k)

const_decl_greatest : (x : ConstDecl) → Reaches (const_decl_elements x) (const_decl_depth x)
const_decl_greatest d k more = let h1 = constant_greatest d.constant k more in grind (arith, h1, least more k)

const_decls_greatest : (x : ConstDecls) → Reaches (const_decls_elements x) (const_decls_depth x)
const_decls_greatest no_const_decl k more = grind (arith, least more k)
const_decls_greatest (next_const_decl d ds) k more = let h1 = const_decl_greatest d k (const_decls_elements ds more) in
    let h2 = const_decls_greatest ds k more in grind (arith, h1, h2, least more k)

const_list_greatest : (x : ConstList) → Reaches (const_list_elements x) (const_list_depth x)
const_list_greatest (const_list d ds) k more = let h1 = const_decl_greatest d k (const_decls_elements ds more) in let h2 = const_decls_greatest ds k more in
    grind (arith, h1, h2, least more k)

group_greatest : (x : Group) → Stays (group_elements x)
group_greatest (group n ns t) k more = rw (names_greatest ns k (word is.Colon ∷ named t ∷ more)) refl

groups_greatest : (x : Groups) → Stays (groups_elements x)
groups_greatest no_group k more = refl
groups_greatest (next_group g gs) k more = rw (group_greatest g k (groups_elements gs more), groups_greatest gs k more) refl

type_decl_greatest : (x : TypeDecl) → Reaches (type_decl_elements x) (type_decl_depth x)
type_decl_greatest (enum_decl n m ms) k more = let h1 = names_greatest ms (suc k) (word is.Close ∷ level_end ∷ more) in grind (arith, h1, least more k)
type_decl_greatest (record_decl n g gs) k more = let h1 = group_greatest g (suc k) (groups_elements gs (word is.Close ∷ level_end ∷ more)) in
    let h2 = groups_greatest gs (suc k) (word is.Close ∷ level_end ∷ more) in grind (arith, h1, h2, least more k)
type_decl_greatest (array_decl n line lower upper e) k more = let h1 = constant_greatest lower (suc k)
    (word is.Colon ∷ constant_elements upper (word is.CloseBracket ∷ level_end ∷ word is.Open ∷ named e ∷ word is.Close ∷ level_end ∷ more)) in
    let h2 = constant_greatest upper (suc k) (word is.CloseBracket ∷ level_end ∷ word is.Open ∷ named e ∷ word is.Close ∷ level_end ∷ more) in
    grind (arith, h1, h2, least more k)
type_decl_greatest (set_decl n b) k more = grind (arith, least more k)

var_list_greatest : (x : VarList) → Stays (var_list_elements x)
var_list_greatest (var_list g gs) k more = rw (group_greatest g k (groups_elements gs more), groups_greatest gs k more) refl

result_greatest : (x : Option Name) → Stays (result_elements x)
result_greatest None k more = refl
result_greatest (Some n) k more = refl

heading_opens : (h : Heading) → 1 ≤ heading_depth h
heading_opens (heading n ps r) = omega arith

mutual
  heading_greatest : (x : Heading) (k : ℕ) (more : List Element) → greatest_level k (heading_elements x more) ≡ max (k + heading_depth x)
      (greatest_level (suc k) more)
  heading_greatest (heading n ps r) k more = let h1 = params_greatest ps (suc k) (result_elements r more) in let h2 = result_greatest r (suc k) more in
      grind (arith, h1, h2, least more (suc k))

  params_greatest : (x : Params) → Reaches (params_elements x) (params_depth x)
  params_greatest no_params k more = grind (arith, least more k)
  params_greatest (params p ps) k more = let h1 = param_greatest p (suc k) (more_params_elements ps (word is.Close ∷ level_end ∷ more)) in
      let h2 = more_params_greatest ps (suc k) (word is.Close ∷ level_end ∷ more) in grind (arith, h1, h2, least more k)

  more_params_greatest : (x : MoreParams) → Reaches (more_params_elements x) (more_params_depth x)
  more_params_greatest no_param k more = grind (arith, least more k)
  more_params_greatest (next_param p ps) k more = let h1 = param_greatest p k (more_params_elements ps more) in let h2 = more_params_greatest ps k more in
      grind (arith, h1, h2, least more k)

  param_greatest : (x : Param) → Reaches (param_elements x) (param_depth x)
  param_greatest (value_param g) k more = let h1 = group_greatest g k more in grind (arith, h1, least more k)
  param_greatest (var_param g) k more = let h1 = group_greatest g k more in grind (arith, h1, least more k)
  param_greatest (procedure_param h) k more = let h1 = heading_greatest h k (level_end ∷ more) in grind (arith, h1, heading_opens h, least more k)

sign_greatest : (x : Option Sign) → Stays (sign_elements x)
sign_greatest None k more = refl
sign_greatest (Some (sign.Plus line)) k more = refl
sign_greatest (Some (sign.Minus line)) k more = refl

root_greatest : (x : Root) → Stays (root_elements x)
root_greatest (root.Name n) k more = refl
root_greatest (root.Val n) k more = refl

mutual
  expr_greatest : (x : Expr) → Reaches (expr_elements x) (expr_depth x)
  expr_greatest (expr s c) k more = let h1 = simple_greatest s k (comparison_elements c more) in let h2 = comparison_greatest c k more in
      grind (arith, h1, h2, least more k)

  comparison_greatest : (x : Comparison) → Reaches (comparison_elements x) (comparison_depth x)
  comparison_greatest no_comparison k more = grind (arith, least more k)
  comparison_greatest (compared r line s) k more = rw (stays_relation k r) (let h1 = simple_greatest s k more in grind (arith, h1, least more k))

  exprs_greatest : (x : Exprs) → Reaches (exprs_elements x) (exprs_depth x)
  exprs_greatest no_expr k more = grind (arith, least more k)
  exprs_greatest (next_expr e es) k more = let h1 = expr_greatest e k (exprs_elements es more) in let h2 = exprs_greatest es k more in
      grind (arith, h1, h2, least more k)

  simple_greatest : (x : Simple) → Reaches (simple_elements x) (simple_depth x)
  simple_greatest (simple s t ts) k more = let h1 = sign_greatest s k (term_elements t (addends_elements ts more)) in
      let h2 = term_greatest t k (addends_elements ts more) in let h3 = addends_greatest ts k more in grind (arith, h1, h2, h3, least more k)

  addend_greatest : (x : Addend) → Reaches (addend_elements x) (addend_depth x)
  addend_greatest (addend o line t) k more = rw (stays_addition k o) (let h1 = term_greatest t k more in grind (arith, h1, least more k))

  addends_greatest : (x : Addends) → Reaches (addends_elements x) (addends_depth x)
  addends_greatest no_addend k more = grind (arith, least more k)
  addends_greatest (next_addend t ts) k more = let h1 = addend_greatest t k (addends_elements ts more) in let h2 = addends_greatest ts k more in
      grind (arith, h1, h2, least more k)

  term_greatest : (x : Term) → Reaches (term_elements x) (term_depth x)
  term_greatest (term f fs) k more = let h1 = factor_greatest f k (multipliers_elements fs more) in let h2 = multipliers_greatest fs k more in
      grind (arith, h1, h2, least more k)

  multiplier_greatest : (x : Multiplier) → Reaches (multiplier_elements x) (multiplier_depth x)
  multiplier_greatest (multiplier o line f) k more = rw (stays_multiplication k o) (let h1 = factor_greatest f k more in grind (arith, h1, least more k))

  multipliers_greatest : (x : Multipliers) → Reaches (multipliers_elements x) (multipliers_depth x)
  multipliers_greatest no_multiplier k more = grind (arith, least more k)
  multipliers_greatest (next_multiplier f fs) k more = let h1 = multiplier_greatest f k (multipliers_elements fs more) in
      let h2 = multipliers_greatest fs k more in grind (arith, h1, h2, least more k)

  factor_greatest : (x : Factor) → Reaches (factor_elements x) (factor_depth x)
  factor_greatest (numeral v) k more = grind (arith, least more k)
  factor_greatest (string s) k more = grind (arith, least more k)
  factor_greatest (not_factor line f) k more = let h1 = factor_greatest f (suc k) (level_end ∷ more) in grind (arith, h1, least more k)
  factor_greatest (parenthesized e) k more = let h1 = expr_greatest e (suc k) (word is.Close ∷ level_end ∷ more) in grind (arith, h1, least more k)
  factor_greatest (call_factor n a) k more = let h1 = args_greatest a k more in grind (arith, h1, least more k)
  factor_greatest (variable_factor v) k more = let h1 = variable_greatest v k more in grind (arith, h1, least more k)

  args_greatest : (x : Args) → Reaches (args_elements x) (args_depth x)
  args_greatest (args e es) k more = let h1 = expr_greatest e (suc k) (exprs_elements es (word is.Close ∷ level_end ∷ more)) in
      let h2 = exprs_greatest es (suc k) (word is.Close ∷ level_end ∷ more) in grind (arith, h1, h2, least more k)

  variable_greatest : (x : Variable) → Reaches (variable_elements x) (variable_depth x)
  variable_greatest (variable r ss) k more = let h1 = root_greatest r k (selectors_elements ss more) in let h2 = selectors_greatest ss k more in
      grind (arith, h1, h2, least more k)

  selector_greatest : (x : Selector) → Reaches (selector_elements x) (selector_depth x)
  selector_greatest (field line n) k more = grind (arith, least more k)
  selector_greatest (index line e) k more = let h1 = expr_greatest e (suc k) (word is.CloseBracket ∷ level_end ∷ more) in grind (arith, h1, least more k)

  selectors_greatest : (x : Selectors) → Reaches (selectors_elements x) (selectors_depth x)
  selectors_greatest no_selector k more = grind (arith, least more k)
  selectors_greatest (next_selector s ss) k more = let h1 = selector_greatest s k (selectors_elements ss more) in let h2 = selectors_greatest ss k more in
      grind (arith, h1, h2, least more k)

optional_args_greatest : (x : Option Args) → Reaches (optional_args_elements x) (optional_args_depth x)
optional_args_greatest None k more = grind (arith, least more k)
optional_args_greatest (Some a) k more = let h1 = args_greatest a k more in grind (arith, h1, least more k)

mutual
  list_greatest : (x : StatementList) → Reaches (list_elements x) (list_depth x)
  list_greatest (list s ss) k more = let h1 = statement_greatest s k (statements_elements ss more) in let h2 = statements_greatest ss k more in
      grind (arith, h1, h2, least more k)

  statements_greatest : (x : Statements) → Reaches (statements_elements x) (statements_depth x)
  statements_greatest no_statement k more = grind (arith, least more k)
  statements_greatest (next_statement s ss) k more = let h1 = statement_greatest s k (statements_elements ss more) in
      let h2 = statements_greatest ss k more in grind (arith, h1, h2, least more k)

  statement_greatest : (x : Statement) → Reaches (statement_elements x) (statement_depth x)
  statement_greatest skip k more = grind (arith, least more k)
  statement_greatest (assignment v line e) k more = let h1 = variable_greatest v k (kept is.Becomes line ∷ expr_elements e more) in
      let h2 = expr_greatest e k more in grind (arith, h1, h2, least more k)
  statement_greatest (call n a) k more = let h1 = optional_args_greatest a k more in grind (arith, h1, least more k)
  statement_greatest (if_statement cs) k more = let h1 = conditions_greatest cs (suc k) (word is.End ∷ level_end ∷ more) in grind (arith, h1, least more k)
  statement_greatest (while_statement cs) k more = let h1 = conditions_greatest cs (suc k) (word is.End ∷ level_end ∷ more) in grind (arith, h1, least more k)
  statement_greatest (when_statement line cs) k more = let h1 = conditions_greatest cs (suc k) (word is.End ∷ level_end ∷ more) in
      grind (arith, h1, least more k)
  statement_greatest (cobegin line b bs) k more = let h1 = branch_greatest b (suc k) (branches_elements bs more) in let h2 = branches_greatest bs k more in
      grind (arith, h1, h2, least more k)

  conditions_greatest : (x : Conditions) → Reaches (conditions_elements x) (conditions_depth x)
  conditions_greatest (conditions c cs) k more = let h1 = condition_greatest c k (else_elements cs more) in let h2 = else_greatest cs k more in
      grind (arith, h1, h2, least more k)

  condition_greatest : (x : Condition) → Reaches (condition_elements x) (condition_depth x)
  condition_greatest (condition e line l) k more = let h1 = expr_greatest e k (kept is.Do line ∷ list_elements l more) in let h2 = list_greatest l k more in
      grind (arith, h1, h2, least more k)

  else_greatest : (x : Else) → Reaches (else_elements x) (else_depth x)
  else_greatest no_else k more = grind (arith, least more k)
  else_greatest (next_else c cs) k more = let h1 = condition_greatest c k (else_elements cs more) in let h2 = else_greatest cs k more in
      grind (arith, h1, h2, least more k)

  branch_greatest : (x : Branch) → Reaches (branch_elements x) (branch_depth x)
  branch_greatest (branch c line l) k more = let h1 = constant_greatest c k (kept is.Do line ∷ list_elements l more) in let h2 = list_greatest l k more in
      grind (arith, h1, h2, least more k)

  branches_greatest : (x : Branches) (k : ℕ) (more : List Element) → greatest_level (suc k) (branches_elements x more) ≡ max (suc k + branches_depth x)
      (greatest_level k more)
  branches_greatest (no_branch end) k more = grind (arith, least more k)
  branches_greatest (next_branch also b bs) k more = let h1 = branch_greatest b (suc k) (branches_elements bs more) in let h2 = branches_greatest bs k more in
      grind (arith, h1, h2, least more k)

mutual
  procedure_greatest : (x : Procedure) → Reaches (procedure_elements x) (procedure_depth x)
  procedure_greatest (procedure h ds l end) k more = let h1 = heading_greatest h k
      (declarations_elements ds (word is.Begin ∷ list_elements l (kept is.End end ∷ level_end ∷ more))) in
      let h2 = declarations_greatest ds (suc k) (word is.Begin ∷ list_elements l (kept is.End end ∷ level_end ∷ more)) in
      let h3 = list_greatest l (suc k) (kept is.End end ∷ level_end ∷ more) in grind (arith, h1, h2, h3, least more k)

  item_greatest : (x : Item) → Reaches (item_elements x) (item_depth x)
  item_greatest (const_item l) k more = let h1 = const_list_greatest l k more in grind (arith, h1, least more k)
  item_greatest (type_item d) k more = let h1 = type_decl_greatest d k more in grind (arith, h1, least more k)
  item_greatest (var_item l) k more = let h1 = var_list_greatest l k more in grind (arith, h1, least more k)
  item_greatest (procedure_item p) k more = let h1 = procedure_greatest p k more in grind (arith, h1, least more k)
  item_greatest (pre_item h) k more = let h1 = heading_greatest h k (level_end ∷ more) in grind (arith, h1, heading_opens h, least more k)
  item_greatest (post_item p) k more = let h1 = procedure_greatest p k more in grind (arith, h1, least more k)

  module_greatest : (x : Module) → Reaches (module_elements x) (module_depth x)
  module_greatest (module_with ms l) k more = let h1 = members_greatest ms (suc k) (word is.Begin ∷ list_elements l (word is.End ∷ level_end ∷ more)) in
      let h2 = list_greatest l (suc k) (word is.End ∷ level_end ∷ more) in grind (arith, h1, h2, least more k)

  member_greatest : (x : Member) → Reaches (member_elements x) (member_depth x)
  member_greatest (item_member i) k more = let h1 = item_greatest i k more in grind (arith, h1, least more k)
  member_greatest (exported_member i) k more = let h1 = item_greatest i k more in grind (arith, h1, least more k)
  member_greatest (module_member m) k more = let h1 = module_greatest m k more in grind (arith, h1, least more k)

  members_greatest : (x : Members) → Reaches (members_elements x) (members_depth x)
  members_greatest no_member k more = grind (arith, least more k)
  members_greatest (next_member m ms) k more = let h1 = member_greatest m k (members_elements ms more) in let h2 = members_greatest ms k more in
      grind (arith, h1, h2, least more k)

  declaration_greatest : (x : Declaration) → Reaches (declaration_elements x) (declaration_depth x)
  declaration_greatest (item_declaration i) k more = let h1 = item_greatest i k more in grind (arith, h1, least more k)
  declaration_greatest (module_declaration m) k more = let h1 = module_greatest m k more in grind (arith, h1, least more k)

  declarations_greatest : (x : Declarations) → Reaches (declarations_elements x) (declarations_depth x)
  declarations_greatest no_declaration k more = grind (arith, least more k)
  declarations_greatest (next_declaration d ds) k more = let h1 = declaration_greatest d k (declarations_elements ds more) in
      let h2 = declarations_greatest ds k more in grind (arith, h1, h2, least more k)

global_greatest : (x : Global) → Reaches (global_elements x) (global_depth x)
global_greatest (const_global l) k more = let h1 = const_list_greatest l k more in grind (arith, h1, least more k)
global_greatest (type_global d) k more = let h1 = type_decl_greatest d k more in grind (arith, h1, least more k)

globals_greatest : (x : Globals) → Reaches (globals_elements x) (globals_depth x)
globals_greatest no_global k more = grind (arith, least more k)
globals_greatest (next_global g gs) k more = let h1 = global_greatest g k (globals_elements gs more) in let h2 = globals_greatest gs k more in
    grind (arith, h1, h2, least more k)

program_greatest : (x : Program) → Reaches (program_elements x) (depth x)
program_greatest (program gs p) k more = let h1 = globals_greatest gs k (procedure_elements p more) in let h2 = procedure_greatest p k more in
    grind (arith, h1, h2, least more k)

pub greatest_is_depth : (tree : Program) → most_levels tree ≡ depth tree
greatest_is_depth tree = let h = program_greatest tree 0 [] in grind (arith, h)

-- at most so many levels are open at once, as the parts tell
pub levels_small : (tree : Program) (most : ℕ) → most_levels tree ≤ most → depth tree ≤ most
levels_small tree most h = subst (λ k. k ≤ most) (greatest_is_depth tree) h
