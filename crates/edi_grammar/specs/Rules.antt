-- Words of contracts. The grammar of Edison as data, factored so that one symbol in hand decides. Braces have become parts of their own, and so
-- has what may stand behind a name. A level ends where its construct ends. Nobody has to believe this table: it is tied
-- to the definition of what a syntax tree spells, one line for each rule.
use Rattle.std.specs.Prelude.{ℕ, List, [], ◌∷◌, Bool, ◌==◌, ◌||◌}
use Rattle.edi_grammar.specs.Grammar.{Part, token, level_end, part}
use Rattle.edi_grammar.specs.Kinds as kind

pub data Sort : Type 0 where
  Program : Sort
  Globals : Sort
  Global : Sort
  ConstList : Sort
  ConstDecls : Sort
  ConstDecl : Sort
  Constant : Sort
  Code : Sort
  TypeDecl : Sort
  Names : Sort
  Group : Sort
  Groups : Sort
  VarList : Sort
  Head : Sort
  Params : Sort
  MoreParams : Sort
  Result : Sort
  Param : Sort
  Procedure : Sort
  Item : Sort
  Module : Sort
  Member : Sort
  Members : Sort
  Declaration : Sort
  Declarations : Sort
  StatementList : Sort
  Statements : Sort
  Statement : Sort
  After : Sort
  Args : Sort
  Exprs : Sort
  Selectors : Sort
  Selector : Sort
  Conditions : Sort
  Condition : Sort
  Else : Sort
  Branch : Sort
  Branches : Sort
  Expr : Sort
  Comparison : Sort
  Relation : Sort
  Simple : Sort
  Sign : Sort
  Addends : Sort
  Addend : Sort
  Addition : Sort
  Term : Sort
  Multipliers : Sort
  Multiplier : Sort
  Multiplication : Sort
  Factor : Sort
  Behind : Sort

-- the symbols that open a level
abbrev pub opens : ℕ → Bool
opens a = a == kind.Proc || a == kind.Module || a == kind.If || a == kind.While || a == kind.When || a == kind.Cobegin || a == kind.Open || a ==
    kind.OpenBracket || a == kind.Not

abbrev pub rules : Sort → List (List (Part Sort))
rules Program = (part Globals ∷ part Procedure ∷ []) ∷ []
rules Globals = (part Global ∷ part Globals ∷ []) ∷ ([]) ∷ []
rules Global = (part ConstList ∷ []) ∷ (part TypeDecl ∷ []) ∷ []
rules ConstList = (token kind.Const ∷ part ConstDecl ∷ part ConstDecls ∷ []) ∷ []
rules ConstDecls = (token kind.Semicolon ∷ part ConstDecl ∷ part ConstDecls ∷ []) ∷ ([]) ∷ []
rules ConstDecl = (token kind.Name ∷ token kind.Equal ∷ part Constant ∷ []) ∷ []
rules Constant = (token kind.Numeral ∷ []) ∷ (token kind.Char ∷ []) ∷ (token kind.Name ∷ part Code ∷ []) ∷ []
rules Code = (token kind.Open ∷ token kind.Numeral ∷ token kind.Close ∷ level_end ∷ []) ∷ ([]) ∷ []
rules TypeDecl = (token kind.Enum ∷ token kind.Name ∷ token kind.Open ∷ token kind.Name ∷ part Names ∷ token kind.Close ∷ level_end ∷ [])
    ∷ (token kind.Record ∷ token kind.Name ∷ token kind.Open ∷ part Group ∷ part Groups ∷ token kind.Close ∷ level_end ∷ [])
    ∷ (token kind.Array ∷ token kind.Name ∷ token kind.OpenBracket ∷ part Constant ∷ token kind.Colon ∷ part Constant ∷ token kind.CloseBracket ∷ level_end
    ∷ token kind.Open ∷ token kind.Name ∷ token kind.Close ∷ level_end ∷ [])
    ∷ (token kind.Set ∷ token kind.Name ∷ token kind.Open ∷ token kind.Name ∷ token kind.Close ∷ level_end ∷ []) ∷ []
rules Names = (token kind.Comma ∷ token kind.Name ∷ part Names ∷ []) ∷ ([]) ∷ []
rules Group = (token kind.Name ∷ part Names ∷ token kind.Colon ∷ token kind.Name ∷ []) ∷ []
rules Groups = (token kind.Semicolon ∷ part Group ∷ part Groups ∷ []) ∷ ([]) ∷ []
rules VarList = (token kind.Var ∷ part Group ∷ part Groups ∷ []) ∷ []
rules Head = (token kind.Name ∷ part Params ∷ part Result ∷ []) ∷ []
rules Params = (token kind.Open ∷ part Param ∷ part MoreParams ∷ token kind.Close ∷ level_end ∷ []) ∷ ([]) ∷ []
rules MoreParams = (token kind.Semicolon ∷ part Param ∷ part MoreParams ∷ []) ∷ ([]) ∷ []
rules Result = (token kind.Colon ∷ token kind.Name ∷ []) ∷ ([]) ∷ []
rules Param = (token kind.Var ∷ part Group ∷ []) ∷ (token kind.Proc ∷ part Head ∷ level_end ∷ []) ∷ (part Group ∷ []) ∷ []
rules Procedure = (token kind.Proc ∷ part Head ∷ part Declarations ∷ token kind.Begin ∷ part StatementList ∷ token kind.End ∷ level_end ∷ []) ∷ []
rules Item = (part ConstList ∷ []) ∷ (part TypeDecl ∷ []) ∷ (part VarList ∷ []) ∷ (token kind.Pre ∷ token kind.Proc ∷ part Head ∷ level_end ∷ [])
    ∷ (token kind.Post ∷ part Procedure ∷ []) ∷ (part Procedure ∷ []) ∷ []
rules Module = (token kind.Module ∷ part Members ∷ token kind.Begin ∷ part StatementList ∷ token kind.End ∷ level_end ∷ []) ∷ []
rules Member = (token kind.Star ∷ part Item ∷ []) ∷ (part Module ∷ []) ∷ (part Item ∷ []) ∷ []
rules Members = (part Member ∷ part Members ∷ []) ∷ ([]) ∷ []
rules Declaration = (part Module ∷ []) ∷ (part Item ∷ []) ∷ []
rules Declarations = (part Declaration ∷ part Declarations ∷ []) ∷ ([]) ∷ []
rules StatementList = (part Statement ∷ part Statements ∷ []) ∷ []
rules Statements = (token kind.Semicolon ∷ part Statement ∷ part Statements ∷ []) ∷ ([]) ∷ []
rules Statement = (token kind.Skip ∷ []) ∷ (token kind.Name ∷ part After ∷ [])
    ∷ (token kind.Val ∷ token kind.Name ∷ part Selectors ∷ token kind.Becomes ∷ part Expr ∷ [])
    ∷ (token kind.If ∷ part Conditions ∷ token kind.End ∷ level_end ∷ []) ∷ (token kind.While ∷ part Conditions ∷ token kind.End ∷ level_end ∷ [])
    ∷ (token kind.When ∷ part Conditions ∷ token kind.End ∷ level_end ∷ []) ∷ (token kind.Cobegin ∷ part Branch ∷ part Branches ∷ level_end ∷ []) ∷ []
rules After = (part Args ∷ []) ∷ (part Selectors ∷ token kind.Becomes ∷ part Expr ∷ []) ∷ ([]) ∷ []
rules Args = (token kind.Open ∷ part Expr ∷ part Exprs ∷ token kind.Close ∷ level_end ∷ []) ∷ []
rules Exprs = (token kind.Comma ∷ part Expr ∷ part Exprs ∷ []) ∷ ([]) ∷ []
rules Selectors = (part Selector ∷ part Selectors ∷ []) ∷ ([]) ∷ []
rules Selector = (token kind.Period ∷ token kind.Name ∷ []) ∷ (token kind.OpenBracket ∷ part Expr ∷ token kind.CloseBracket ∷ level_end ∷ []) ∷ []
rules Conditions = (part Condition ∷ part Else ∷ []) ∷ []
rules Condition = (part Expr ∷ token kind.Do ∷ part StatementList ∷ []) ∷ []
rules Else = (token kind.Else ∷ part Condition ∷ part Else ∷ []) ∷ ([]) ∷ []
rules Branch = (part Constant ∷ token kind.Do ∷ part StatementList ∷ []) ∷ []
rules Branches = (token kind.Also ∷ part Branch ∷ part Branches ∷ []) ∷ (token kind.End ∷ []) ∷ []
rules Expr = (part Simple ∷ part Comparison ∷ []) ∷ []
rules Comparison = (part Relation ∷ part Simple ∷ []) ∷ ([]) ∷ []
rules Relation = (token kind.Equal ∷ []) ∷ (token kind.NotEqual ∷ []) ∷ (token kind.Less ∷ []) ∷ (token kind.AtMost ∷ []) ∷ (token kind.Greater ∷ [])
    ∷ (token kind.AtLeast ∷ []) ∷ (token kind.In ∷ []) ∷ []
rules Simple = (part Sign ∷ part Term ∷ part Addends ∷ []) ∷ []
rules Sign = (token kind.Plus ∷ []) ∷ (token kind.Minus ∷ []) ∷ ([]) ∷ []
rules Addends = (part Addend ∷ part Addends ∷ []) ∷ ([]) ∷ []
rules Addend = (part Addition ∷ part Term ∷ []) ∷ []
rules Addition = (token kind.Plus ∷ []) ∷ (token kind.Minus ∷ []) ∷ (token kind.Or ∷ []) ∷ []
rules Term = (part Factor ∷ part Multipliers ∷ []) ∷ []
rules Multipliers = (part Multiplier ∷ part Multipliers ∷ []) ∷ ([]) ∷ []
rules Multiplier = (part Multiplication ∷ part Factor ∷ []) ∷ []
rules Multiplication = (token kind.Star ∷ []) ∷ (token kind.Div ∷ []) ∷ (token kind.Mod ∷ []) ∷ (token kind.And ∷ []) ∷ []
rules Factor = (token kind.Numeral ∷ []) ∷ (token kind.Char ∷ []) ∷ (token kind.Text ∷ []) ∷ (token kind.Not ∷ part Factor ∷ level_end ∷ [])
    ∷ (token kind.Open ∷ part Expr ∷ token kind.Close ∷ level_end ∷ []) ∷ (token kind.Name ∷ part Behind ∷ [])
    ∷ (token kind.Val ∷ token kind.Name ∷ part Selectors ∷ []) ∷ []
rules Behind = (part Args ∷ []) ∷ (part Selectors ∷ []) ∷ []
