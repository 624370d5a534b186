-- Helper. What a tree spells, without the ends of its levels: one clause for each production. `X_then part more` is what the part spells, in front of `more`.
use Rattle.std.specs.Prelude.{ℕ, List, [], ◌∷◌, Option, Some, None}
use Rattle.edi_lex.specs.declared.symbol.Symbol.{Symbol}
use Rattle.edi_lex.specs.declared.symbol.Symbol.TheVariants as is
use Rattle.edi_tree.specs.declared.names.Name.{Name}
use Rattle.edi_tree.specs.declared.constants.Constant.{Constant}
use Rattle.edi_tree.specs.declared.constants.Constant.TheVariants as constant
use Rattle.edi_tree.specs.declared.constants.ConstDecl.{ConstDecl}
use Rattle.edi_tree.specs.declared.expressions.Sign.{Sign}
use Rattle.edi_tree.specs.declared.expressions.Sign.TheVariants as sign
use Rattle.edi_tree.specs.declared.expressions.Root.{Root}
use Rattle.edi_tree.specs.declared.expressions.Root.TheVariants as root
use Rattle.edi_tree.specs.Stands.{Spelled, on, just, name_mark, chars_mark, char_mark, relation_symbol, addition_symbol, multiplication_symbol}
use Rattle.edi_tree.specs.Tree.{Names, no_name, next_name, ConstDecls, no_const_decl, next_const_decl, ConstList, const_list, Group, group, Groups, no_group}
use Rattle.edi_tree.specs.Tree.{next_group, TypeDecl, enum_decl, record_decl, array_decl, set_decl, VarList, var_list, Heading, heading, Params, no_params}
use Rattle.edi_tree.specs.Tree.{params, MoreParams, no_param, next_param, Param, value_param, var_param, procedure_param, Expr, expr, Comparison}
use Rattle.edi_tree.specs.Tree.{no_comparison, compared, Exprs, no_expr, next_expr, Simple, simple, Addend, addend, Addends, no_addend, next_addend, Term}
use Rattle.edi_tree.specs.Tree.{term, Multiplier, multiplier, Multipliers, no_multiplier, next_multiplier, Factor, numeral, string, not_factor}
use Rattle.edi_tree.specs.Tree.{parenthesized, call_factor, variable_factor, Args, args, Variable, variable, Selector, field, index, Selectors, no_selector}
use Rattle.edi_tree.specs.Tree.{next_selector, StatementList, list, Statements, no_statement, next_statement, Statement, skip, assignment, call}
use Rattle.edi_tree.specs.Tree.{if_statement, while_statement, when_statement, cobegin, Conditions, conditions, Condition, condition, Else, no_else}
use Rattle.edi_tree.specs.Tree.{next_else, Branch, branch, Branches, no_branch, next_branch, Procedure, procedure, Item, const_item, type_item, var_item}
use Rattle.edi_tree.specs.Tree.{procedure_item, pre_item, post_item, Module, module_with, Member, item_member, exported_member, module_member, Members}
use Rattle.edi_tree.specs.Tree.{no_member, next_member, Declaration, item_declaration, module_declaration, Declarations, no_declaration, next_declaration}
use Rattle.edi_tree.specs.Tree.{Global, const_global, type_global, Globals, no_global, next_global, Program, program}

-- ---- names, constants, types, variables

-- { "," Name }
abbrev pub names_then : Names → List Spelled → List Spelled
names_then no_name more = more
names_then (next_name n ns) more = just is.Comma ∷ name_mark n ∷ names_then ns more

-- Constant = Numeral | Char | Name [ "(" Numeral ")" ]
abbrev pub constant_then : Constant → List Spelled → List Spelled
constant_then (constant.Numeral v) more = just (is.Numeral v) ∷ more
constant_then (constant.Char c) more = char_mark c ∷ more
constant_then (constant.Name n None) more = name_mark n ∷ more
constant_then (constant.Name n (Some v)) more = name_mark n ∷ just is.Open ∷ just (is.Numeral v) ∷ just is.Close ∷ more

-- ConstDecl = Name "=" Constant
abbrev pub const_decl_then : ConstDecl → List Spelled → List Spelled
const_decl_then d more = name_mark d.name ∷ just is.Equal ∷ constant_then d.constant more

-- { ";" ConstDecl }
abbrev pub const_decls_then : ConstDecls → List Spelled → List Spelled
const_decls_then no_const_decl more = more
const_decls_then (next_const_decl d ds) more = just is.Semicolon ∷ const_decl_then d (const_decls_then ds more)

-- ConstList = "const" ConstDecl { ";" ConstDecl }
abbrev pub const_list_then : ConstList → List Spelled → List Spelled
const_list_then (const_list d ds) more = just is.Const ∷ const_decl_then d (const_decls_then ds more)

-- Group = Name { "," Name } ":" Name
abbrev pub group_then : Group → List Spelled → List Spelled
group_then (group n ns t) more = name_mark n ∷ names_then ns (just is.Colon ∷ name_mark t ∷ more)

-- { ";" Group }
abbrev pub groups_then : Groups → List Spelled → List Spelled
groups_then no_group more = more
groups_then (next_group g gs) more = just is.Semicolon ∷ group_then g (groups_then gs more)

-- Enum = "enum" Name "(" Name { "," Name } ")"
-- Record = "record" Name "(" Group { ";" Group } ")"
-- Array = "array" Name "[" Constant ":" Constant "]" "(" Name ")"
-- Set = "set" Name "(" Name ")"
abbrev pub type_decl_then : TypeDecl → List Spelled → List Spelled
type_decl_then (enum_decl n m ms) more = just is.Enum ∷ name_mark n ∷ just is.Open ∷ name_mark m ∷ names_then ms (just is.Close ∷ more)
type_decl_then (record_decl n g gs) more = just is.Record ∷ name_mark n ∷ just is.Open ∷ group_then g (groups_then gs (just is.Close ∷ more))
type_decl_then (array_decl n line lower upper e) more = just is.Array ∷ name_mark n ∷ on is.OpenBracket line
    ∷ constant_then lower (just is.Colon ∷ constant_then upper (just is.CloseBracket ∷ just is.Open ∷ name_mark e ∷ just is.Close ∷ more))
type_decl_then (set_decl n b) more = just is.Set ∷ name_mark n ∷ just is.Open ∷ name_mark b ∷ just is.Close ∷ more

-- VarList = "var" Group { ";" Group }
abbrev pub var_list_then : VarList → List Spelled → List Spelled
var_list_then (var_list g gs) more = just is.Var ∷ group_then g (groups_then gs more)

-- ---- headings

-- [ ":" Name ]
abbrev pub result_then : Option Name → List Spelled → List Spelled
result_then None more = more
result_then (Some n) more = just is.Colon ∷ name_mark n ∷ more

abbrev mutual
  -- Heading = "proc" Name [ "(" Param { ";" Param } ")" ] [ ":" Name ]
  pub heading_then : Heading → List Spelled → List Spelled
  heading_then (heading n ps r) more = just is.Proc ∷ name_mark n ∷ params_then ps (result_then r more)

  pub params_then : Params → List Spelled → List Spelled
  params_then no_params more = more
  params_then (params p ps) more = just is.Open ∷ param_then p (more_params_then ps (just is.Close ∷ more))

  pub more_params_then : MoreParams → List Spelled → List Spelled
  more_params_then no_param more = more
  more_params_then (next_param p ps) more = just is.Semicolon ∷ param_then p (more_params_then ps more)

  -- Param = [ "var" ] Group | Heading
  pub param_then : Param → List Spelled → List Spelled
  param_then (value_param g) more = group_then g more
  param_then (var_param g) more = just is.Var ∷ group_then g more
  param_then (procedure_param h) more = heading_then h more

-- ---- expressions

-- [ "+" | "-" ]
abbrev pub sign_then : Option Sign → List Spelled → List Spelled
sign_then None more = more
sign_then (Some (sign.Plus line)) more = on is.Plus line ∷ more
sign_then (Some (sign.Minus line)) more = on is.Minus line ∷ more

-- Name | "val" Name
abbrev pub root_then : Root → List Spelled → List Spelled
root_then (root.Name n) more = name_mark n ∷ more
root_then (root.Val n) more = just is.Val ∷ name_mark n ∷ more

abbrev mutual
  -- Expr = Simple [ Relation Simple ]
  pub expr_then : Expr → List Spelled → List Spelled
  expr_then (expr s c) more = simple_then s (comparison_then c more)

  pub comparison_then : Comparison → List Spelled → List Spelled
  comparison_then no_comparison more = more
  comparison_then (compared r line s) more = on (relation_symbol r) line ∷ simple_then s more

  -- { "," Expr }
  pub exprs_then : Exprs → List Spelled → List Spelled
  exprs_then no_expr more = more
  exprs_then (next_expr e es) more = just is.Comma ∷ expr_then e (exprs_then es more)

  -- Simple = [ "+" | "-" ] Term { ( "+" | "-" | "or" ) Term }
  pub simple_then : Simple → List Spelled → List Spelled
  simple_then (simple s t ts) more = sign_then s (term_then t (addends_then ts more))

  pub addend_then : Addend → List Spelled → List Spelled
  addend_then (addend o line t) more = on (addition_symbol o) line ∷ term_then t more

  pub addends_then : Addends → List Spelled → List Spelled
  addends_then no_addend more = more
  addends_then (next_addend t ts) more = addend_then t (addends_then ts more)

  -- Term = Factor { ( "*" | "div" | "mod" | "and" ) Factor }
  pub term_then : Term → List Spelled → List Spelled
  term_then (term f fs) more = factor_then f (multipliers_then fs more)

  pub multiplier_then : Multiplier → List Spelled → List Spelled
  multiplier_then (multiplier o line f) more = on (multiplication_symbol o) line ∷ factor_then f more

  pub multipliers_then : Multipliers → List Spelled → List Spelled
  multipliers_then no_multiplier more = more
  multipliers_then (next_multiplier f fs) more = multiplier_then f (multipliers_then fs more)

  -- Factor = Numeral | String | "not" Factor | "(" Expr ")" | Name Args | Variable
  pub factor_then : Factor → List Spelled → List Spelled
  factor_then (numeral v) more = just (is.Numeral v) ∷ more
  factor_then (string s) more = chars_mark s ∷ more
  factor_then (not_factor line f) more = on is.Not line ∷ factor_then f more
  factor_then (parenthesized e) more = just is.Open ∷ expr_then e (just is.Close ∷ more)
  factor_then (call_factor n a) more = name_mark n ∷ args_then a more
  factor_then (variable_factor v) more = variable_then v more

  -- Args = "(" Expr { "," Expr } ")"
  pub args_then : Args → List Spelled → List Spelled
  args_then (args e es) more = just is.Open ∷ expr_then e (exprs_then es (just is.Close ∷ more))

  -- Variable = ( Name | "val" Name ) { "." Name | "[" Expr "]" }
  pub variable_then : Variable → List Spelled → List Spelled
  variable_then (variable r ss) more = root_then r (selectors_then ss more)

  pub selector_then : Selector → List Spelled → List Spelled
  selector_then (field line n) more = on is.Period line ∷ name_mark n ∷ more
  selector_then (index line e) more = on is.OpenBracket line ∷ expr_then e (just is.CloseBracket ∷ more)

  pub selectors_then : Selectors → List Spelled → List Spelled
  selectors_then no_selector more = more
  selectors_then (next_selector s ss) more = selector_then s (selectors_then ss more)

-- ---- statements

-- [ Args ]
abbrev pub optional_args_then : Option Args → List Spelled → List Spelled
optional_args_then None more = more
optional_args_then (Some a) more = args_then a more

abbrev mutual
  -- List = Statement { ";" Statement }
  pub list_then : StatementList → List Spelled → List Spelled
  list_then (list s ss) more = statement_then s (statements_then ss more)

  pub statements_then : Statements → List Spelled → List Spelled
  statements_then no_statement more = more
  statements_then (next_statement s ss) more = just is.Semicolon ∷ statement_then s (statements_then ss more)

  -- Statement = "skip" | Assignment | Call | If | While | When | Cobegin
  -- Assignment = Variable ":=" Expr
  -- Call = Name [ Args ]
  -- If = "if" Conditions "end", and so "while" and "when"
  -- Cobegin = "cobegin" Branch { "also" Branch } "end"
  pub statement_then : Statement → List Spelled → List Spelled
  statement_then skip more = just is.Skip ∷ more
  statement_then (assignment v line e) more = variable_then v (on is.Becomes line ∷ expr_then e more)
  statement_then (call n a) more = name_mark n ∷ optional_args_then a more
  statement_then (if_statement cs) more = just is.If ∷ conditions_then cs (just is.End ∷ more)
  statement_then (while_statement cs) more = just is.While ∷ conditions_then cs (just is.End ∷ more)
  statement_then (when_statement line cs) more = on is.When line ∷ conditions_then cs (just is.End ∷ more)
  statement_then (cobegin line b bs) more = on is.Cobegin line ∷ branch_then b (branches_then bs more)

  -- Conditions = Expr "do" List { "else" Expr "do" List }
  pub conditions_then : Conditions → List Spelled → List Spelled
  conditions_then (conditions c cs) more = condition_then c (else_then cs more)

  pub condition_then : Condition → List Spelled → List Spelled
  condition_then (condition e line l) more = expr_then e (on is.Do line ∷ list_then l more)

  pub else_then : Else → List Spelled → List Spelled
  else_then no_else more = more
  else_then (next_else c cs) more = just is.Else ∷ condition_then c (else_then cs more)

  -- Branch = Constant "do" List
  pub branch_then : Branch → List Spelled → List Spelled
  branch_then (branch c line l) more = constant_then c (on is.Do line ∷ list_then l more)

  pub branches_then : Branches → List Spelled → List Spelled
  branches_then (no_branch end) more = on is.End end ∷ more
  branches_then (next_branch also b bs) more = on is.Also also ∷ branch_then b (branches_then bs more)

-- ---- declarations

abbrev mutual
  -- Procedure = Heading { Declaration } "begin" List "end"
  pub procedure_then : Procedure → List Spelled → List Spelled
  procedure_then (procedure h ds l end) more = heading_then h (declarations_then ds (just is.Begin ∷ list_then l (on is.End end ∷ more)))

  -- Item = ConstList | TypeDecl | VarList | Procedure | Pre | Post
  -- Pre = "pre" Heading
  -- Post = "post" Procedure
  pub item_then : Item → List Spelled → List Spelled
  item_then (const_item l) more = const_list_then l more
  item_then (type_item d) more = type_decl_then d more
  item_then (var_item l) more = var_list_then l more
  item_then (procedure_item p) more = procedure_then p more
  item_then (pre_item h) more = just is.Pre ∷ heading_then h more
  item_then (post_item p) more = just is.Post ∷ procedure_then p more

  -- Module = "module" { [ "*" ] Item | Module } "begin" List "end"
  pub module_then : Module → List Spelled → List Spelled
  module_then (module_with ms l) more = just is.Module ∷ members_then ms (just is.Begin ∷ list_then l (just is.End ∷ more))

  -- [ "*" ] Item | Module
  pub member_then : Member → List Spelled → List Spelled
  member_then (item_member i) more = item_then i more
  member_then (exported_member i) more = just is.Star ∷ item_then i more
  member_then (module_member m) more = module_then m more

  pub members_then : Members → List Spelled → List Spelled
  members_then no_member more = more
  members_then (next_member m ms) more = member_then m (members_then ms more)

  -- Declaration = Item | Module
  pub declaration_then : Declaration → List Spelled → List Spelled
  declaration_then (item_declaration i) more = item_then i more
  declaration_then (module_declaration m) more = module_then m more

  pub declarations_then : Declarations → List Spelled → List Spelled
  declarations_then no_declaration more = more
  declarations_then (next_declaration d ds) more = declaration_then d (declarations_then ds more)

-- ---- programs

-- ConstList | TypeDecl
abbrev pub global_then : Global → List Spelled → List Spelled
global_then (const_global l) more = const_list_then l more
global_then (type_global d) more = type_decl_then d more

abbrev pub globals_then : Globals → List Spelled → List Spelled
globals_then no_global more = more
globals_then (next_global g gs) more = global_then g (globals_then gs more)

-- Program = { ConstList | TypeDecl } Procedure
abbrev pub program_then : Program → List Spelled → List Spelled
program_then (program gs p) more = globals_then gs (procedure_then p more)

-- the marks that a program spells
abbrev pub spelled : Program → List Spelled
spelled p = program_then p []
