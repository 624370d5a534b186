-- Definition. The levels of a tree. A level is opened by `proc`, `module`, `if`, `while`, `when`, `cobegin`, `(`, `[` and `not`, and is
-- closed where its construct ends: `(` and `[` at their `)` and `]`, a procedure at its `end`, a heading alone, which is a
-- parameter or stands after `pre`, at its last symbol, and `not` at the end of its factor. The elements of a tree are the
-- marks that it spells, with the ends of the levels between them.
use Rattle.std.specs.Prelude.{◌≡◌, ℕ, zero, suc, max, Bool, true, false, List, [], ◌∷◌, ◌++◌, Option, Some, None, if◌then◌else◌}
use Rattle.edi_lex.specs.declared.symbol.Symbol.{Symbol}
use Rattle.edi_lex.specs.declared.symbol.Symbol.TheVariants as is
use Rattle.edi_lex.specs.declared.symbol.Mark.{Mark}
use Rattle.edi_tree.specs.declared.names.Name.{Name}
use Rattle.edi_tree.specs.declared.constants.Constant.{Constant}
use Rattle.edi_tree.specs.declared.constants.Constant.TheVariants as constant
use Rattle.edi_tree.specs.declared.constants.ConstDecl.{ConstDecl}
use Rattle.edi_tree.specs.declared.expressions.Sign.{Sign}
use Rattle.edi_tree.specs.declared.expressions.Sign.TheVariants as sign
use Rattle.edi_tree.specs.declared.expressions.Root.{Root}
use Rattle.edi_tree.specs.declared.expressions.Root.TheVariants as root
use Rattle.edi_tree.specs.Tree.{Names, no_name, next_name, ConstDecls, no_const_decl, next_const_decl, ConstList, const_list, Group, group, Groups, no_group}
use Rattle.edi_tree.specs.Tree.{next_group, TypeDecl, enum_decl, record_decl, array_decl, set_decl, VarList, var_list, Heading, heading, Params, no_params}
use Rattle.edi_tree.specs.Tree.{params, MoreParams, no_param, next_param, Param, value_param, var_param, procedure_param, Expr, expr, Comparison}
use Rattle.edi_tree.specs.Tree.{no_comparison, compared, Exprs, no_expr, next_expr, Simple, simple, Addend, addend, Addends, no_addend, next_addend, Term}
use Rattle.edi_tree.specs.Tree.{term, Multiplier, multiplier, Multipliers, no_multiplier, next_multiplier, Factor, numeral, string, not_factor}
use Rattle.edi_tree.specs.Tree.{parenthesized, call_factor, variable_factor, Args, args, Variable, variable, Selector, field, index, Selectors, no_selector}
use Rattle.edi_tree.specs.Tree.{next_selector, StatementList, list, Statements, no_statement, next_statement, Statement, skip, assignment, call}
use Rattle.edi_tree.specs.Tree.{if_statement, while_statement, when_statement, cobegin, Conditions, conditions, Condition, condition, Else, no_else}
use Rattle.edi_tree.specs.Tree.{next_else, Branch, branch, Branches, no_branch, next_branch, Procedure, procedure, Item, const_item, type_item, var_item}
use Rattle.edi_tree.specs.Tree.{procedure_item, pre_item, post_item, Module, module_with, Member, item_member, exported_member, module_member, Members}
use Rattle.edi_tree.specs.Tree.{no_member, next_member, Declaration, item_declaration, module_declaration, Declarations, no_declaration, next_declaration}
use Rattle.edi_tree.specs.Tree.{Global, const_global, type_global, Globals, no_global, next_global, Program, program}
use Rattle.edi_tree.specs.Stands.{Spelled, on, just, name_mark, chars_mark, char_mark, relation_symbol, addition_symbol, multiplication_symbol, StandsAsMark}
use Rattle.edi_tree.specs.Stands.{StandAsMarks}

pub data Element : Type 0 where
  mark : Spelled → Element
  -- the level that was opened last is closed
  level_end : Element

abbrev pub word : Symbol → Element
word symbol = mark (just symbol)

abbrev pub kept : Symbol → ℕ → Element
kept symbol line = mark (on symbol line)

abbrev pub named : Name → Element
named n = mark (name_mark n)

abbrev pub opens : Symbol → Bool
opens is.Proc = true
opens is.Module = true
opens is.If = true
opens is.While = true
opens is.When = true
opens is.Cobegin = true
opens is.Open = true
opens is.OpenBracket = true
opens is.Not = true
opens _ = false

-- how many levels are open with a symbol, itself counted, where so many are open before it
abbrev pub with_symbol : ℕ → Symbol → ℕ
with_symbol level symbol = if opens symbol then suc level else level

-- how many levels are open behind the end of one
abbrev pub one_less : ℕ → ℕ
one_less zero = zero
one_less (suc level) = level

-- how many levels are open behind these elements, where so many are open before them
abbrev pub level_behind : ℕ → List Element → ℕ
level_behind level [] = level
level_behind level (mark s ∷ more) = level_behind (with_symbol level s.symbol) more
level_behind level (level_end ∷ more) = level_behind (one_less level) more

-- the greatest number of levels that are open at once in these elements, where so many are open before them
abbrev pub greatest_level : ℕ → List Element → ℕ
greatest_level level [] = level
greatest_level level (mark s ∷ more) = greatest_level (with_symbol level s.symbol) more
greatest_level level (level_end ∷ more) = max level (greatest_level (one_less level) more)

-- the marks among elements
abbrev pub marks_among : List Element → List Spelled
marks_among [] = []
marks_among (mark s ∷ more) = s ∷ marks_among more
marks_among (level_end ∷ more) = marks_among more

-- ---- names, constants, types, variables

-- { "," Name }
abbrev pub names_elements : Names → List Element → List Element
names_elements no_name more = more
names_elements (next_name n ns) more = word is.Comma ∷ named n ∷ names_elements ns more

-- Constant = Numeral | Char | Name [ "(" Numeral ")" ]
abbrev pub constant_elements : Constant → List Element → List Element
constant_elements (constant.Numeral v) more = word (is.Numeral v) ∷ more
constant_elements (constant.Char c) more = mark (char_mark c) ∷ more
constant_elements (constant.Name n None) more = named n ∷ more
constant_elements (constant.Name n (Some v)) more = named n ∷ word is.Open ∷ word (is.Numeral v) ∷ word is.Close ∷ level_end ∷ more

-- ConstDecl = Name "=" Constant
abbrev pub const_decl_elements : ConstDecl → List Element → List Element
const_decl_elements d more = named d.name ∷ word is.Equal ∷ constant_elements d.constant more

-- { ";" ConstDecl }
abbrev pub const_decls_elements : ConstDecls → List Element → List Element
const_decls_elements no_const_decl more = more
const_decls_elements (next_const_decl d ds) more = word is.Semicolon ∷ const_decl_elements d (const_decls_elements ds more)

-- ConstList = "const" ConstDecl { ";" ConstDecl }
abbrev pub const_list_elements : ConstList → List Element → List Element
const_list_elements (const_list d ds) more = word is.Const ∷ const_decl_elements d (const_decls_elements ds more)

-- Group = Name { "," Name } ":" Name
abbrev pub group_elements : Group → List Element → List Element
group_elements (group n ns t) more = named n ∷ names_elements ns (word is.Colon ∷ named t ∷ more)

-- { ";" Group }
abbrev pub groups_elements : Groups → List Element → List Element
groups_elements no_group more = more
groups_elements (next_group g gs) more = word is.Semicolon ∷ group_elements g (groups_elements gs more)

-- Enum = "enum" Name "(" Name { "," Name } ")"
-- Record = "record" Name "(" Group { ";" Group } ")"
-- Array = "array" Name "[" Constant ":" Constant "]" "(" Name ")"
-- Set = "set" Name "(" Name ")"
abbrev pub type_decl_elements : TypeDecl → List Element → List Element
type_decl_elements (enum_decl n m ms) more = word is.Enum ∷ named n ∷ word is.Open ∷ named m ∷ names_elements ms (word is.Close ∷ level_end ∷ more)
type_decl_elements (record_decl n g gs) more = word is.Record ∷ named n ∷ word is.Open
    ∷ group_elements g (groups_elements gs (word is.Close ∷ level_end ∷ more))
type_decl_elements (array_decl n line lower upper e) more = word is.Array ∷ named n ∷ kept is.OpenBracket line
    ∷ constant_elements lower (word is.Colon
    ∷ constant_elements upper (word is.CloseBracket ∷ level_end ∷ word is.Open ∷ named e ∷ word is.Close ∷ level_end ∷ more))
type_decl_elements (set_decl n b) more = word is.Set ∷ named n ∷ word is.Open ∷ named b ∷ word is.Close ∷ level_end ∷ more

-- VarList = "var" Group { ";" Group }
abbrev pub var_list_elements : VarList → List Element → List Element
var_list_elements (var_list g gs) more = word is.Var ∷ group_elements g (groups_elements gs more)

-- ---- headings

-- [ ":" Name ]
abbrev pub result_elements : Option Name → List Element → List Element
result_elements None more = more
result_elements (Some n) more = word is.Colon ∷ named n ∷ more

abbrev mutual
  -- Heading = "proc" Name [ "(" Param { ";" Param } ")" ] [ ":" Name ]
  pub heading_elements : Heading → List Element → List Element
  heading_elements (heading n ps r) more = word is.Proc ∷ named n ∷ params_elements ps (result_elements r more)

  pub params_elements : Params → List Element → List Element
  params_elements no_params more = more
  params_elements (params p ps) more = word is.Open ∷ param_elements p (more_params_elements ps (word is.Close ∷ level_end ∷ more))

  pub more_params_elements : MoreParams → List Element → List Element
  more_params_elements no_param more = more
  more_params_elements (next_param p ps) more = word is.Semicolon ∷ param_elements p (more_params_elements ps more)

  -- Param = [ "var" ] Group | Heading
  pub param_elements : Param → List Element → List Element
  param_elements (value_param g) more = group_elements g more
  param_elements (var_param g) more = word is.Var ∷ group_elements g more
  param_elements (procedure_param h) more = heading_elements h (level_end ∷ more)

-- ---- expressions

-- [ "+" | "-" ]
abbrev pub sign_elements : Option Sign → List Element → List Element
sign_elements None more = more
sign_elements (Some (sign.Plus line)) more = kept is.Plus line ∷ more
sign_elements (Some (sign.Minus line)) more = kept is.Minus line ∷ more

-- Name | "val" Name
abbrev pub root_elements : Root → List Element → List Element
root_elements (root.Name n) more = named n ∷ more
root_elements (root.Val n) more = word is.Val ∷ named n ∷ more

abbrev mutual
  -- Expr = Simple [ Relation Simple ]
  pub expr_elements : Expr → List Element → List Element
  expr_elements (expr s c) more = simple_elements s (comparison_elements c more)

  pub comparison_elements : Comparison → List Element → List Element
  comparison_elements no_comparison more = more
  comparison_elements (compared r line s) more = kept (relation_symbol r) line ∷ simple_elements s more

  -- { "," Expr }
  pub exprs_elements : Exprs → List Element → List Element
  exprs_elements no_expr more = more
  exprs_elements (next_expr e es) more = word is.Comma ∷ expr_elements e (exprs_elements es more)

  -- Simple = [ "+" | "-" ] Term { ( "+" | "-" | "or" ) Term }
  pub simple_elements : Simple → List Element → List Element
  simple_elements (simple s t ts) more = sign_elements s (term_elements t (addends_elements ts more))

  pub addend_elements : Addend → List Element → List Element
  addend_elements (addend o line t) more = kept (addition_symbol o) line ∷ term_elements t more

  pub addends_elements : Addends → List Element → List Element
  addends_elements no_addend more = more
  addends_elements (next_addend t ts) more = addend_elements t (addends_elements ts more)

  -- Term = Factor { ( "*" | "div" | "mod" | "and" ) Factor }
  pub term_elements : Term → List Element → List Element
  term_elements (term f fs) more = factor_elements f (multipliers_elements fs more)

  pub multiplier_elements : Multiplier → List Element → List Element
  multiplier_elements (multiplier o line f) more = kept (multiplication_symbol o) line ∷ factor_elements f more

  pub multipliers_elements : Multipliers → List Element → List Element
  multipliers_elements no_multiplier more = more
  multipliers_elements (next_multiplier f fs) more = multiplier_elements f (multipliers_elements fs more)

  -- Factor = Numeral | String | "not" Factor | "(" Expr ")" | Name Args | Variable
  pub factor_elements : Factor → List Element → List Element
  factor_elements (numeral v) more = word (is.Numeral v) ∷ more
  factor_elements (string s) more = mark (chars_mark s) ∷ more
  factor_elements (not_factor line f) more = kept is.Not line ∷ factor_elements f (level_end ∷ more)
  factor_elements (parenthesized e) more = word is.Open ∷ expr_elements e (word is.Close ∷ level_end ∷ more)
  factor_elements (call_factor n a) more = named n ∷ args_elements a more
  factor_elements (variable_factor v) more = variable_elements v more

  -- Args = "(" Expr { "," Expr } ")"
  pub args_elements : Args → List Element → List Element
  args_elements (args e es) more = word is.Open ∷ expr_elements e (exprs_elements es (word is.Close ∷ level_end ∷ more))

  -- Variable = ( Name | "val" Name ) { "." Name | "[" Expr "]" }
  pub variable_elements : Variable → List Element → List Element
  variable_elements (variable r ss) more = root_elements r (selectors_elements ss more)

  pub selector_elements : Selector → List Element → List Element
  selector_elements (field line n) more = kept is.Period line ∷ named n ∷ more
  selector_elements (index line e) more = kept is.OpenBracket line ∷ expr_elements e (word is.CloseBracket ∷ level_end ∷ more)

  pub selectors_elements : Selectors → List Element → List Element
  selectors_elements no_selector more = more
  selectors_elements (next_selector s ss) more = selector_elements s (selectors_elements ss more)

-- ---- statements

-- [ Args ]
abbrev pub optional_args_elements : Option Args → List Element → List Element
optional_args_elements None more = more
optional_args_elements (Some a) more = args_elements a more

abbrev mutual
  -- List = Statement { ";" Statement }
  pub list_elements : StatementList → List Element → List Element
  list_elements (list s ss) more = statement_elements s (statements_elements ss more)

  pub statements_elements : Statements → List Element → List Element
  statements_elements no_statement more = more
  statements_elements (next_statement s ss) more = word is.Semicolon ∷ statement_elements s (statements_elements ss more)

  -- Statement = "skip" | Assignment | Call | If | While | When | Cobegin
  -- Assignment = Variable ":=" Expr
  -- Call = Name [ Args ]
  -- If = "if" Conditions "end", and so "while" and "when"
  -- Cobegin = "cobegin" Branch { "also" Branch } "end"
  pub statement_elements : Statement → List Element → List Element
  statement_elements skip more = word is.Skip ∷ more
  statement_elements (assignment v line e) more = variable_elements v (kept is.Becomes line ∷ expr_elements e more)
  statement_elements (call n a) more = named n ∷ optional_args_elements a more
  statement_elements (if_statement cs) more = word is.If ∷ conditions_elements cs (word is.End ∷ level_end ∷ more)
  statement_elements (while_statement cs) more = word is.While ∷ conditions_elements cs (word is.End ∷ level_end ∷ more)
  statement_elements (when_statement line cs) more = kept is.When line ∷ conditions_elements cs (word is.End ∷ level_end ∷ more)
  statement_elements (cobegin line b bs) more = kept is.Cobegin line ∷ branch_elements b (branches_elements bs more)

  -- Conditions = Expr "do" List { "else" Expr "do" List }
  pub conditions_elements : Conditions → List Element → List Element
  conditions_elements (conditions c cs) more = condition_elements c (else_elements cs more)

  pub condition_elements : Condition → List Element → List Element
  condition_elements (condition e line l) more = expr_elements e (kept is.Do line ∷ list_elements l more)

  pub else_elements : Else → List Element → List Element
  else_elements no_else more = more
  else_elements (next_else c cs) more = word is.Else ∷ condition_elements c (else_elements cs more)

  -- Branch = Constant "do" List
  pub branch_elements : Branch → List Element → List Element
  branch_elements (branch c line l) more = constant_elements c (kept is.Do line ∷ list_elements l more)

  pub branches_elements : Branches → List Element → List Element
  branches_elements (no_branch end) more = kept is.End end ∷ level_end ∷ more
  branches_elements (next_branch also b bs) more = kept is.Also also ∷ branch_elements b (branches_elements bs more)

-- ---- declarations

abbrev mutual
  -- Procedure = Heading { Declaration } "begin" List "end"
  pub procedure_elements : Procedure → List Element → List Element
  procedure_elements (procedure h ds l end) more = heading_elements h
      (declarations_elements ds (word is.Begin ∷ list_elements l (kept is.End end ∷ level_end ∷ more)))

  -- Item = ConstList | TypeDecl | VarList | Procedure | Pre | Post
  -- Pre = "pre" Heading
  -- Post = "post" Procedure
  pub item_elements : Item → List Element → List Element
  item_elements (const_item l) more = const_list_elements l more
  item_elements (type_item d) more = type_decl_elements d more
  item_elements (var_item l) more = var_list_elements l more
  item_elements (procedure_item p) more = procedure_elements p more
  item_elements (pre_item h) more = word is.Pre ∷ heading_elements h (level_end ∷ more)
  item_elements (post_item p) more = word is.Post ∷ procedure_elements p more

  -- Module = "module" { [ "*" ] Item | Module } "begin" List "end"
  pub module_elements : Module → List Element → List Element
  module_elements (module_with ms l) more = word is.Module ∷ members_elements ms (word is.Begin ∷ list_elements l (word is.End ∷ level_end ∷ more))

  -- [ "*" ] Item | Module
  pub member_elements : Member → List Element → List Element
  member_elements (item_member i) more = item_elements i more
  member_elements (exported_member i) more = word is.Star ∷ item_elements i more
  member_elements (module_member m) more = module_elements m more

  pub members_elements : Members → List Element → List Element
  members_elements no_member more = more
  members_elements (next_member m ms) more = member_elements m (members_elements ms more)

  -- Declaration = Item | Module
  pub declaration_elements : Declaration → List Element → List Element
  declaration_elements (item_declaration i) more = item_elements i more
  declaration_elements (module_declaration m) more = module_elements m more

  pub declarations_elements : Declarations → List Element → List Element
  declarations_elements no_declaration more = more
  declarations_elements (next_declaration d ds) more = declaration_elements d (declarations_elements ds more)

-- ---- programs

-- ConstList | TypeDecl
abbrev pub global_elements : Global → List Element → List Element
global_elements (const_global l) more = const_list_elements l more
global_elements (type_global d) more = type_decl_elements d more

abbrev pub globals_elements : Globals → List Element → List Element
globals_elements no_global more = more
globals_elements (next_global g gs) more = global_elements g (globals_elements gs more)

-- Program = { ConstList | TypeDecl } Procedure
abbrev pub program_elements : Program → List Element → List Element
program_elements (program gs p) more = globals_elements gs (procedure_elements p more)

-- the marks that a program spells, and the ends of its levels
abbrev pub elements : Program → List Element
elements p = program_elements p []

-- the greatest number of levels that are open at once in a program
abbrev pub most_levels : Program → ℕ
most_levels p = greatest_level 0 (elements p)

-- some program spells marks that begin with these and then with this one, with which so many levels are open
abbrev pub Level : List Mark → Mark → ℕ → Type 0
Level front m level = (tree : Program) × (before : List Element) × (s : Spelled) × (after : List Element) × (elements tree ≡ before ++ mark s ∷ after)
    × StandAsMarks (marks_among before) front × StandsAsMark s m × (level ≡ level_behind 0 (before ++ mark s ∷ []))
