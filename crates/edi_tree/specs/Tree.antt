-- Definition. The syntax tree as plain data: a type for each production of the grammar, a constructor for each of its alternatives,
-- and a list for each part that braces repeat. A number beside the parts is the line of a symbol that the tree keeps. The
-- smallest parts (names, strings, constants, operators) are those of the code, which have no memory in them.
use Rattle.std.specs.Prelude.{ℕ, ℤ, Option}
use Rattle.edi_tree.specs.declared.names.Name.{Name}
use Rattle.edi_tree.specs.declared.names.Chars.{Chars}
use Rattle.edi_tree.specs.declared.constants.Constant.{Constant}
use Rattle.edi_tree.specs.declared.constants.ConstDecl.{ConstDecl}
use Rattle.edi_tree.specs.declared.expressions.Relation.{Relation}
use Rattle.edi_tree.specs.declared.expressions.Sign.{Sign}
use Rattle.edi_tree.specs.declared.expressions.Addition.{Addition}
use Rattle.edi_tree.specs.declared.expressions.Multiplication.{Multiplication}
use Rattle.edi_tree.specs.declared.expressions.Root.{Root}

-- ---- names, constants, types, variables

-- { "," Name }
pub data Names : Type 0 where
  no_name : Names
  next_name : Name → Names → Names

-- { ";" ConstDecl }
pub data ConstDecls : Type 0 where
  no_const_decl : ConstDecls
  next_const_decl : ConstDecl → ConstDecls → ConstDecls

-- ConstList = "const" ConstDecl { ";" ConstDecl }
pub data ConstList : Type 0 where
  const_list : ConstDecl → ConstDecls → ConstList

-- Group = Name { "," Name } ":" Name
pub data Group : Type 0 where
  group : Name → Names → (type_name : Name) → Group

-- { ";" Group }
pub data Groups : Type 0 where
  no_group : Groups
  next_group : Group → Groups → Groups

-- TypeDecl = Enum | Record | Array | Set
pub data TypeDecl : Type 0 where
  -- Enum = "enum" Name "(" Name { "," Name } ")"
  enum_decl : Name → Name → Names → TypeDecl
  -- Record = "record" Name "(" Group { ";" Group } ")"
  record_decl : Name → Group → Groups → TypeDecl
  -- Array = "array" Name "[" Constant ":" Constant "]" "(" Name ")"
  array_decl : Name → (line : ℕ) → Constant → Constant → Name → TypeDecl
  -- Set = "set" Name "(" Name ")"
  set_decl : Name → Name → TypeDecl

-- VarList = "var" Group { ";" Group }
pub data VarList : Type 0 where
  var_list : Group → Groups → VarList

-- ---- headings

mutual
  -- Heading = "proc" Name [ "(" Param { ";" Param } ")" ] [ ":" Name ]
  pub data Heading : Type 0 where
    heading : Name → Params → (result : Option Name) → Heading

  -- [ "(" Param { ";" Param } ")" ]
  pub data Params : Type 0 where
    no_params : Params
    params : Param → MoreParams → Params

  -- { ";" Param }
  pub data MoreParams : Type 0 where
    no_param : MoreParams
    next_param : Param → MoreParams → MoreParams

  -- Param = [ "var" ] Group | Heading
  pub data Param : Type 0 where
    value_param : Group → Param
    var_param : Group → Param
    procedure_param : Heading → Param

-- ---- expressions

mutual
  -- Expr = Simple [ Relation Simple ]
  pub data Expr : Type 0 where
    expr : Simple → Comparison → Expr

  -- [ Relation Simple ]
  pub data Comparison : Type 0 where
    no_comparison : Comparison
    compared : Relation → (line : ℕ) → Simple → Comparison

  -- { "," Expr }
  pub data Exprs : Type 0 where
    no_expr : Exprs
    next_expr : Expr → Exprs → Exprs

  -- Simple = [ "+" | "-" ] Term { ( "+" | "-" | "or" ) Term }
  pub data Simple : Type 0 where
    simple : Option Sign → Term → Addends → Simple

  -- ( "+" | "-" | "or" ) Term
  pub data Addend : Type 0 where
    addend : Addition → (line : ℕ) → Term → Addend

  pub data Addends : Type 0 where
    no_addend : Addends
    next_addend : Addend → Addends → Addends

  -- Term = Factor { ( "*" | "div" | "mod" | "and" ) Factor }
  pub data Term : Type 0 where
    term : Factor → Multipliers → Term

  -- ( "*" | "div" | "mod" | "and" ) Factor
  pub data Multiplier : Type 0 where
    multiplier : Multiplication → (line : ℕ) → Factor → Multiplier

  pub data Multipliers : Type 0 where
    no_multiplier : Multipliers
    next_multiplier : Multiplier → Multipliers → Multipliers

  -- Factor = Numeral | String | "not" Factor | "(" Expr ")" | Name Args | Variable
  pub data Factor : Type 0 where
    numeral : ℤ → Factor
    string : Chars → Factor
    not_factor : (line : ℕ) → Factor → Factor
    parenthesized : Expr → Factor
    call_factor : Name → Args → Factor
    variable_factor : Variable → Factor

  -- Args = "(" Expr { "," Expr } ")"
  pub data Args : Type 0 where
    args : Expr → Exprs → Args

  -- Variable = ( Name | "val" Name ) { "." Name | "[" Expr "]" }
  pub data Variable : Type 0 where
    variable : Root → Selectors → Variable

  -- "." Name | "[" Expr "]"
  pub data Selector : Type 0 where
    field : (line : ℕ) → Name → Selector
    index : (line : ℕ) → Expr → Selector

  pub data Selectors : Type 0 where
    no_selector : Selectors
    next_selector : Selector → Selectors → Selectors

-- ---- statements

mutual
  -- List = Statement { ";" Statement }
  pub data StatementList : Type 0 where
    list : Statement → Statements → StatementList

  -- { ";" Statement }
  pub data Statements : Type 0 where
    no_statement : Statements
    next_statement : Statement → Statements → Statements

  -- Statement = "skip" | Assignment | Call | If | While | When | Cobegin
  pub data Statement : Type 0 where
    skip : Statement
    -- Assignment = Variable ":=" Expr
    assignment : Variable → (line : ℕ) → Expr → Statement
    -- Call = Name [ Args ]
    call : Name → Option Args → Statement
    -- If = "if" Conditions "end"
    if_statement : Conditions → Statement
    -- While = "while" Conditions "end"
    while_statement : Conditions → Statement
    -- When = "when" Conditions "end"
    when_statement : (line : ℕ) → Conditions → Statement
    -- Cobegin = "cobegin" Branch { "also" Branch } "end"
    cobegin : (line : ℕ) → Branch → Branches → Statement

  -- Conditions = Expr "do" List { "else" Expr "do" List }
  pub data Conditions : Type 0 where
    conditions : Condition → Else → Conditions

  -- Expr "do" List
  pub data Condition : Type 0 where
    condition : Expr → (line : ℕ) → StatementList → Condition

  -- { "else" Expr "do" List }
  pub data Else : Type 0 where
    no_else : Else
    next_else : Condition → Else → Else

  -- Branch = Constant "do" List
  pub data Branch : Type 0 where
    branch : Constant → (line : ℕ) → StatementList → Branch

  -- { "also" Branch } "end", each symbol with its line, on which the branch before it is closed
  pub data Branches : Type 0 where
    no_branch : (end : ℕ) → Branches
    next_branch : (also : ℕ) → Branch → Branches → Branches

-- ---- declarations

mutual
  -- Procedure = Heading { Declaration } "begin" List "end"
  pub data Procedure : Type 0 where
    procedure : Heading → Declarations → StatementList → (end : ℕ) → Procedure

  -- Item = ConstList | TypeDecl | VarList | Procedure | Pre | Post
  pub data Item : Type 0 where
    const_item : ConstList → Item
    type_item : TypeDecl → Item
    var_item : VarList → Item
    procedure_item : Procedure → Item
    -- Pre = "pre" Heading
    pre_item : Heading → Item
    -- Post = "post" Procedure
    post_item : Procedure → Item

  -- Module = "module" { [ "*" ] Item | Module } "begin" List "end"
  pub data Module : Type 0 where
    module_with : Members → StatementList → Module

  -- [ "*" ] Item | Module
  pub data Member : Type 0 where
    item_member : Item → Member
    exported_member : Item → Member
    module_member : Module → Member

  pub data Members : Type 0 where
    no_member : Members
    next_member : Member → Members → Members

  -- Declaration = Item | Module
  pub data Declaration : Type 0 where
    item_declaration : Item → Declaration
    module_declaration : Module → Declaration

  pub data Declarations : Type 0 where
    no_declaration : Declarations
    next_declaration : Declaration → Declarations → Declarations

-- ---- programs

-- ConstList | TypeDecl
pub data Global : Type 0 where
  const_global : ConstList → Global
  type_global : TypeDecl → Global

pub data Globals : Type 0 where
  no_global : Globals
  next_global : Global → Globals → Globals

-- Program = { ConstList | TypeDecl } Procedure
pub data Program : Type 0 where
  program : Globals → Procedure → Program
