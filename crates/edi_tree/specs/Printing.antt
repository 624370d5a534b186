-- Helper. What the printer does for each production: it puts the marks of the parts behind what it has printed so far. No public
-- contract cites this.
use Rattle.std.specs.Prelude.{ℕ, true, List, ◌++◌, Option, Some, None}
use Rattle.edi_lex.specs.declared.symbol.Symbol.TheVariants as is
use Rattle.edi_tree.specs.declared.names.Name.{Name}
use Rattle.edi_tree.specs.declared.constants.Constant.{Constant}
use Rattle.edi_tree.specs.declared.constants.Constant.TheVariants as constant
use Rattle.edi_tree.specs.declared.constants.ConstDecl.{ConstDecl}
use Rattle.edi_tree.specs.declared.expressions.Sign.{Sign}
use Rattle.edi_tree.specs.declared.expressions.Sign.TheVariants as sign
use Rattle.edi_tree.specs.declared.expressions.Root.{Root}
use Rattle.edi_tree.specs.declared.expressions.Root.TheVariants as root
use Rattle.edi_tree.specs.Tree.{Names, no_name, next_name, ConstDecls, no_const_decl, next_const_decl, ConstList, const_list, Group, group, Groups, no_group}
use Rattle.edi_tree.specs.Tree.{next_group, TypeDecl, enum_decl, record_decl, array_decl, set_decl, VarList, var_list, Heading, heading, Params, no_params}
use Rattle.edi_tree.specs.Tree.{params, MoreParams, no_param, next_param, Param, value_param, var_param, procedure_param, Expr, expr, Comparison}
use Rattle.edi_tree.specs.Tree.{no_comparison, compared, Exprs, no_expr, next_expr, Simple, simple, Addend, addend, Addends, no_addend, next_addend, Term}
use Rattle.edi_tree.specs.Tree.{term, Multiplier, multiplier, Multipliers, no_multiplier, next_multiplier, Factor, numeral, string, not_factor}
use Rattle.edi_tree.specs.Tree.{parenthesized, call_factor, variable_factor, Args, args, Variable, variable, Selector, field, index, Selectors, no_selector}
use Rattle.edi_tree.specs.Tree.{next_selector, StatementList, list, Statements, no_statement, next_statement, Statement, skip, assignment, call}
use Rattle.edi_tree.specs.Tree.{if_statement, while_statement, when_statement, cobegin, Conditions, conditions, Condition, condition, Else, no_else}
use Rattle.edi_tree.specs.Tree.{next_else, Branch, branch, Branches, no_branch, next_branch, Procedure, procedure, Item, const_item, type_item, var_item}
use Rattle.edi_tree.specs.Tree.{procedure_item, pre_item, post_item, Module, module_with, Member, item_member, exported_member, module_member, Members}
use Rattle.edi_tree.specs.Tree.{no_member, next_member, Declaration, item_declaration, module_declaration, Declarations, no_declaration, next_declaration}
use Rattle.edi_tree.specs.Tree.{Global, const_global, type_global, Globals, no_global, next_global, Program, program}
use Rattle.edi_tree.specs.Stands.{Spelled, on, just, name_mark, chars_mark, char_mark, relation_symbol, addition_symbol, multiplication_symbol}
use Rattle.edi_tree.specs.Printed.{text_of, gap, line_at}
use Rattle.edi_tree.specs.declared.printer.Printer.{Printer}

-- a text that stands on this line, if its line is kept
unfoldable pub put_text : List ℕ → Option ℕ → Printer → Printer
put_text text line out = record { text = out.text ++ (gap out.begun out.line line ++ text); line = line_at out.line line; begun = true }

abbrev pub put : Spelled → Printer → Printer
put s out = put_text (text_of s.symbol) s.line out

-- ---- names, constants, types, variables

-- { "," Name }
abbrev pub print_names : Names → Printer → Printer
print_names no_name out = out
print_names (next_name n ns) out = print_names ns (put (name_mark n) (put (just is.Comma) out))

-- Constant = Numeral | Char | Name [ "(" Numeral ")" ]
abbrev pub print_constant : Constant → Printer → Printer
print_constant (constant.Numeral v) out = put (just (is.Numeral v)) out
print_constant (constant.Char c) out = put (char_mark c) out
print_constant (constant.Name n None) out = put (name_mark n) out
print_constant (constant.Name n (Some v)) out = put (just is.Close) (put (just (is.Numeral v)) (put (just is.Open) (put (name_mark n) out)))

-- ConstDecl = Name "=" Constant
abbrev pub print_const_decl : ConstDecl → Printer → Printer
print_const_decl d out = print_constant d.constant (put (just is.Equal) (put (name_mark d.name) out))

-- { ";" ConstDecl }
abbrev pub print_const_decls : ConstDecls → Printer → Printer
print_const_decls no_const_decl out = out
print_const_decls (next_const_decl d ds) out = print_const_decls ds (print_const_decl d (put (just is.Semicolon) out))

-- ConstList = "const" ConstDecl { ";" ConstDecl }
abbrev pub print_const_list : ConstList → Printer → Printer
print_const_list (const_list d ds) out = print_const_decls ds (print_const_decl d (put (just is.Const) out))

-- Group = Name { "," Name } ":" Name
abbrev pub print_group : Group → Printer → Printer
print_group (group n ns t) out = put (name_mark t) (put (just is.Colon) (print_names ns (put (name_mark n) out)))

-- { ";" Group }
abbrev pub print_groups : Groups → Printer → Printer
print_groups no_group out = out
print_groups (next_group g gs) out = print_groups gs (print_group g (put (just is.Semicolon) out))

-- Enum = "enum" Name "(" Name { "," Name } ")"
-- Record = "record" Name "(" Group { ";" Group } ")"
-- Array = "array" Name "[" Constant ":" Constant "]" "(" Name ")"
-- Set = "set" Name "(" Name ")"
abbrev pub print_type_decl : TypeDecl → Printer → Printer
print_type_decl (enum_decl n m ms) out = put (just is.Close)
    (print_names ms (put (name_mark m) (put (just is.Open) (put (name_mark n) (put (just is.Enum) out)))))
print_type_decl (record_decl n g gs) out = put (just is.Close)
    (print_groups gs (print_group g (put (just is.Open) (put (name_mark n) (put (just is.Record) out)))))
print_type_decl (array_decl n line lower upper e) out = put (just is.Close)
    (put (name_mark e) (put (just is.Open) (put (just is.CloseBracket)
    (print_constant upper (put (just is.Colon) (print_constant lower (put (on is.OpenBracket line) (put (name_mark n) (put (just is.Array) out)))))))))
print_type_decl (set_decl n b) out = put (just is.Close) (put (name_mark b) (put (just is.Open) (put (name_mark n) (put (just is.Set) out))))

-- VarList = "var" Group { ";" Group }
abbrev pub print_var_list : VarList → Printer → Printer
print_var_list (var_list g gs) out = print_groups gs (print_group g (put (just is.Var) out))

-- ---- headings

-- [ ":" Name ]
abbrev pub print_result : Option Name → Printer → Printer
print_result None out = out
print_result (Some n) out = put (name_mark n) (put (just is.Colon) out)

abbrev mutual
  -- Heading = "proc" Name [ "(" Param { ";" Param } ")" ] [ ":" Name ]
  pub print_heading : Heading → Printer → Printer
  print_heading (heading n ps r) out = print_result r (print_params ps (put (name_mark n) (put (just is.Proc) out)))

  pub print_params : Params → Printer → Printer
  print_params no_params out = out
  print_params (params p ps) out = put (just is.Close) (print_more_params ps (print_param p (put (just is.Open) out)))

  pub print_more_params : MoreParams → Printer → Printer
  print_more_params no_param out = out
  print_more_params (next_param p ps) out = print_more_params ps (print_param p (put (just is.Semicolon) out))

  -- Param = [ "var" ] Group | Heading
  pub print_param : Param → Printer → Printer
  print_param (value_param g) out = print_group g out
  print_param (var_param g) out = print_group g (put (just is.Var) out)
  print_param (procedure_param h) out = print_heading h out

-- ---- expressions

-- [ "+" | "-" ]
abbrev pub print_sign : Option Sign → Printer → Printer
print_sign None out = out
print_sign (Some (sign.Plus line)) out = put (on is.Plus line) out
print_sign (Some (sign.Minus line)) out = put (on is.Minus line) out

-- Name | "val" Name
abbrev pub print_root : Root → Printer → Printer
print_root (root.Name n) out = put (name_mark n) out
print_root (root.Val n) out = put (name_mark n) (put (just is.Val) out)

abbrev mutual
  -- Expr = Simple [ Relation Simple ]
  pub print_expr : Expr → Printer → Printer
  print_expr (expr s c) out = print_comparison c (print_simple s out)

  pub print_comparison : Comparison → Printer → Printer
  print_comparison no_comparison out = out
  print_comparison (compared r line s) out = print_simple s (put (on (relation_symbol r) line) out)

  -- { "," Expr }
  pub print_exprs : Exprs → Printer → Printer
  print_exprs no_expr out = out
  print_exprs (next_expr e es) out = print_exprs es (print_expr e (put (just is.Comma) out))

  -- Simple = [ "+" | "-" ] Term { ( "+" | "-" | "or" ) Term }
  pub print_simple : Simple → Printer → Printer
  print_simple (simple s t ts) out = print_addends ts (print_term t (print_sign s out))

  pub print_addends : Addends → Printer → Printer
  print_addends no_addend out = out
  print_addends (next_addend (addend o line t) ts) out = print_addends ts (print_term t (put (on (addition_symbol o) line) out))

  -- Term = Factor { ( "*" | "div" | "mod" | "and" ) Factor }
  pub print_term : Term → Printer → Printer
  print_term (term f fs) out = print_multipliers fs (print_factor f out)

  pub print_multipliers : Multipliers → Printer → Printer
  print_multipliers no_multiplier out = out
  print_multipliers (next_multiplier (multiplier o line f) fs) out = print_multipliers fs (print_factor f (put (on (multiplication_symbol o) line) out))

  -- Factor = Numeral | String | "not" Factor | "(" Expr ")" | Name Args | Variable
  pub print_factor : Factor → Printer → Printer
  print_factor (numeral v) out = put (just (is.Numeral v)) out
  print_factor (string s) out = put (chars_mark s) out
  print_factor (not_factor line f) out = print_factor f (put (on is.Not line) out)
  print_factor (parenthesized e) out = put (just is.Close) (print_expr e (put (just is.Open) out))
  print_factor (call_factor n a) out = print_args a (put (name_mark n) out)
  print_factor (variable_factor v) out = print_variable v out

  -- Args = "(" Expr { "," Expr } ")"
  pub print_args : Args → Printer → Printer
  print_args (args e es) out = put (just is.Close) (print_exprs es (print_expr e (put (just is.Open) out)))

  -- Variable = ( Name | "val" Name ) { "." Name | "[" Expr "]" }
  pub print_variable : Variable → Printer → Printer
  print_variable (variable r ss) out = print_selectors ss (print_root r out)

  pub print_selector : Selector → Printer → Printer
  print_selector (field line n) out = put (name_mark n) (put (on is.Period line) out)
  print_selector (index line e) out = put (just is.CloseBracket) (print_expr e (put (on is.OpenBracket line) out))

  pub print_selectors : Selectors → Printer → Printer
  print_selectors no_selector out = out
  print_selectors (next_selector s ss) out = print_selectors ss (print_selector s out)

-- ---- statements

-- [ Args ]
abbrev pub print_optional_args : Option Args → Printer → Printer
print_optional_args None out = out
print_optional_args (Some a) out = print_args a out

abbrev mutual
  -- List = Statement { ";" Statement }
  pub print_list : StatementList → Printer → Printer
  print_list (list s ss) out = print_statements ss (print_statement s out)

  pub print_statements : Statements → Printer → Printer
  print_statements no_statement out = out
  print_statements (next_statement s ss) out = print_statements ss (print_statement s (put (just is.Semicolon) out))

  -- Statement = "skip" | Assignment | Call | If | While | When | Cobegin
  -- Assignment = Variable ":=" Expr
  -- Call = Name [ Args ]
  -- If = "if" Conditions "end", and so "while" and "when"
  -- Cobegin = "cobegin" Branch { "also" Branch } "end"
  pub print_statement : Statement → Printer → Printer
  print_statement skip out = put (just is.Skip) out
  print_statement (assignment v line e) out = print_expr e (put (on is.Becomes line) (print_variable v out))
  print_statement (call n a) out = print_optional_args a (put (name_mark n) out)
  print_statement (if_statement cs) out = put (just is.End) (print_conditions cs (put (just is.If) out))
  print_statement (while_statement cs) out = put (just is.End) (print_conditions cs (put (just is.While) out))
  print_statement (when_statement line cs) out = put (just is.End) (print_conditions cs (put (on is.When line) out))
  print_statement (cobegin line b bs) out = print_branches bs (print_branch b (put (on is.Cobegin line) out))

  -- Conditions = Expr "do" List { "else" Expr "do" List }
  pub print_conditions : Conditions → Printer → Printer
  print_conditions (conditions c cs) out = print_else cs (print_condition c out)

  pub print_condition : Condition → Printer → Printer
  print_condition (condition e line l) out = print_list l (put (on is.Do line) (print_expr e out))

  pub print_else : Else → Printer → Printer
  print_else no_else out = out
  print_else (next_else c cs) out = print_else cs (print_condition c (put (just is.Else) out))

  -- Branch = Constant "do" List
  pub print_branch : Branch → Printer → Printer
  print_branch (branch c line l) out = print_list l (put (on is.Do line) (print_constant c out))

  pub print_branches : Branches → Printer → Printer
  print_branches (no_branch end) out = put (on is.End end) out
  print_branches (next_branch also b bs) out = print_branches bs (print_branch b (put (on is.Also also) out))

-- ---- declarations

abbrev mutual
  -- Procedure = Heading { Declaration } "begin" List "end"
  pub print_procedure : Procedure → Printer → Printer
  print_procedure (procedure h ds l end) out = put (on is.End end) (print_list l (put (just is.Begin) (print_declarations ds (print_heading h out))))

  -- Item = ConstList | TypeDecl | VarList | Procedure | Pre | Post
  -- Pre = "pre" Heading
  -- Post = "post" Procedure
  pub print_item : Item → Printer → Printer
  print_item (const_item l) out = print_const_list l out
  print_item (type_item d) out = print_type_decl d out
  print_item (var_item l) out = print_var_list l out
  print_item (procedure_item p) out = print_procedure p out
  print_item (pre_item h) out = print_heading h (put (just is.Pre) out)
  print_item (post_item p) out = print_procedure p (put (just is.Post) out)

  -- Module = "module" { [ "*" ] Item | Module } "begin" List "end"
  pub print_module : Module → Printer → Printer
  print_module (module_with ms l) out = put (just is.End) (print_list l (put (just is.Begin) (print_members ms (put (just is.Module) out))))

  -- [ "*" ] Item | Module
  pub print_member : Member → Printer → Printer
  print_member (item_member i) out = print_item i out
  print_member (exported_member i) out = print_item i (put (just is.Star) out)
  print_member (module_member m) out = print_module m out

  pub print_members : Members → Printer → Printer
  print_members no_member out = out
  print_members (next_member m ms) out = print_members ms (print_member m out)

  -- Declaration = Item | Module
  pub print_declaration : Declaration → Printer → Printer
  print_declaration (item_declaration i) out = print_item i out
  print_declaration (module_declaration m) out = print_module m out

  pub print_declarations : Declarations → Printer → Printer
  print_declarations no_declaration out = out
  print_declarations (next_declaration d ds) out = print_declarations ds (print_declaration d out)

-- ---- programs

-- ConstList | TypeDecl
abbrev pub print_global : Global → Printer → Printer
print_global (const_global l) out = print_const_list l out
print_global (type_global d) out = print_type_decl d out

abbrev pub print_globals : Globals → Printer → Printer
print_globals no_global out = out
print_globals (next_global g gs) out = print_globals gs (print_global g out)

-- Program = { ConstList | TypeDecl } Procedure
abbrev pub print_program : Program → Printer → Printer
print_program (program gs p) out = print_procedure p (print_globals gs out)

-- "(" Name ")"
abbrev pub print_name_in_parentheses : Name → Printer → Printer
print_name_in_parentheses n out = put (just is.Close) (put (name_mark n) (put (just is.Open) out))

-- "[" Constant ":" Constant "]"
abbrev pub print_bounds : ℕ → Constant → Constant → Printer → Printer
print_bounds line lower upper out = put (just is.CloseBracket)
    (print_constant upper (put (just is.Colon) (print_constant lower (put (on is.OpenBracket line) out))))
