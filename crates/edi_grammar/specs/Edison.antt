-- Words of contracts. What is tested against the rules: which parts may be empty, what may begin and follow each, and rules that lead to an end.
use Rattle.std.specs.Prelude.{ℕ, List, [], ◌∷◌, Bool, true, false, Option}
use Rattle.edi_lex.specs.declared.symbol.Mark.{Mark}
use Rattle.edi_grammar.specs.Grammar.{Part, token, part, Grammar}
use Rattle.edi_grammar.specs.Kinds as kind
use Rattle.edi_grammar.specs.Kind.{kind_at, sample}
use Rattle.edi_grammar.specs.Rules.{Sort, Program, Globals, Global, ConstList, ConstDecls, ConstDecl, Constant, Code, TypeDecl, Names, Group, Groups}
use Rattle.edi_grammar.specs.Rules.{VarList, Head, Params, MoreParams, Result, Param, Procedure, Item, Module, Member, Members, Declaration, Declarations}
use Rattle.edi_grammar.specs.Rules.{StatementList, Statements, Statement, After, Args, Exprs, Selectors, Selector, Conditions, Condition, Else, Branch}
use Rattle.edi_grammar.specs.Rules.{Branches, Expr, Comparison, Relation, Simple, Sign, Addends, Addend, Addition, Term, Multipliers, Multiplier}
use Rattle.edi_grammar.specs.Rules.{Multiplication, Factor, Behind, opens, rules}

abbrev pub null : Sort → Bool
null Program = false
null Globals = true
null Global = false
null ConstList = false
null ConstDecls = true
null ConstDecl = false
null Constant = false
null Code = true
null TypeDecl = false
null Names = true
null Group = false
null Groups = true
null VarList = false
null Head = false
null Params = true
null MoreParams = true
null Result = true
null Param = false
null Procedure = false
null Item = false
null Module = false
null Member = false
null Members = true
null Declaration = false
null Declarations = true
null StatementList = false
null Statements = true
null Statement = false
null After = true
null Args = false
null Exprs = true
null Selectors = true
null Selector = false
null Conditions = false
null Condition = false
null Else = true
null Branch = false
null Branches = false
null Expr = false
null Comparison = true
null Relation = false
null Simple = false
null Sign = true
null Addends = true
null Addend = false
null Addition = false
null Term = false
null Multipliers = true
null Multiplier = false
null Multiplication = false
null Factor = false
null Behind = true

abbrev pub first : Sort → List ℕ
first Program = kind.Array ∷ kind.Const ∷ kind.Enum ∷ kind.Proc ∷ kind.Record ∷ kind.Set ∷ []
first Globals = kind.Array ∷ kind.Const ∷ kind.Enum ∷ kind.Record ∷ kind.Set ∷ []
first Global = kind.Array ∷ kind.Const ∷ kind.Enum ∷ kind.Record ∷ kind.Set ∷ []
first ConstList = kind.Const ∷ []
first ConstDecls = kind.Semicolon ∷ []
first ConstDecl = kind.Name ∷ []
first Constant = kind.Name ∷ kind.Numeral ∷ kind.Char ∷ []
first Code = kind.Open ∷ []
first TypeDecl = kind.Array ∷ kind.Enum ∷ kind.Record ∷ kind.Set ∷ []
first Names = kind.Comma ∷ []
first Group = kind.Name ∷ []
first Groups = kind.Semicolon ∷ []
first VarList = kind.Var ∷ []
first Head = kind.Name ∷ []
first Params = kind.Open ∷ []
first MoreParams = kind.Semicolon ∷ []
first Result = kind.Colon ∷ []
first Param = kind.Name ∷ kind.Proc ∷ kind.Var ∷ []
first Procedure = kind.Proc ∷ []
first Item = kind.Array ∷ kind.Const ∷ kind.Enum ∷ kind.Post ∷ kind.Pre ∷ kind.Proc ∷ kind.Record ∷ kind.Set ∷ kind.Var ∷ []
first Module = kind.Module ∷ []
first Member = kind.Array ∷ kind.Const ∷ kind.Enum ∷ kind.Module ∷ kind.Post ∷ kind.Pre ∷ kind.Proc ∷ kind.Record ∷ kind.Set ∷ kind.Var ∷ kind.Star ∷ []
first Members = kind.Array ∷ kind.Const ∷ kind.Enum ∷ kind.Module ∷ kind.Post ∷ kind.Pre ∷ kind.Proc ∷ kind.Record ∷ kind.Set ∷ kind.Var ∷ kind.Star ∷ []
first Declaration = kind.Array ∷ kind.Const ∷ kind.Enum ∷ kind.Module ∷ kind.Post ∷ kind.Pre ∷ kind.Proc ∷ kind.Record ∷ kind.Set ∷ kind.Var ∷ []
first Declarations = kind.Array ∷ kind.Const ∷ kind.Enum ∷ kind.Module ∷ kind.Post ∷ kind.Pre ∷ kind.Proc ∷ kind.Record ∷ kind.Set ∷ kind.Var ∷ []
first StatementList = kind.Name ∷ kind.Cobegin ∷ kind.If ∷ kind.Skip ∷ kind.Val ∷ kind.When ∷ kind.While ∷ []
first Statements = kind.Semicolon ∷ []
first Statement = kind.Name ∷ kind.Cobegin ∷ kind.If ∷ kind.Skip ∷ kind.Val ∷ kind.When ∷ kind.While ∷ []
first After = kind.Becomes ∷ kind.Period ∷ kind.Open ∷ kind.OpenBracket ∷ []
first Args = kind.Open ∷ []
first Exprs = kind.Comma ∷ []
first Selectors = kind.Period ∷ kind.OpenBracket ∷ []
first Selector = kind.Period ∷ kind.OpenBracket ∷ []
first Conditions = kind.Name ∷ kind.Numeral ∷ kind.Char ∷ kind.Text ∷ kind.Not ∷ kind.Val ∷ kind.Plus ∷ kind.Minus ∷ kind.Open ∷ []
first Condition = kind.Name ∷ kind.Numeral ∷ kind.Char ∷ kind.Text ∷ kind.Not ∷ kind.Val ∷ kind.Plus ∷ kind.Minus ∷ kind.Open ∷ []
first Else = kind.Else ∷ []
first Branch = kind.Name ∷ kind.Numeral ∷ kind.Char ∷ []
first Branches = kind.Also ∷ kind.End ∷ []
first Expr = kind.Name ∷ kind.Numeral ∷ kind.Char ∷ kind.Text ∷ kind.Not ∷ kind.Val ∷ kind.Plus ∷ kind.Minus ∷ kind.Open ∷ []
first Comparison = kind.In ∷ kind.Equal ∷ kind.NotEqual ∷ kind.Less ∷ kind.AtMost ∷ kind.Greater ∷ kind.AtLeast ∷ []
first Relation = kind.In ∷ kind.Equal ∷ kind.NotEqual ∷ kind.Less ∷ kind.AtMost ∷ kind.Greater ∷ kind.AtLeast ∷ []
first Simple = kind.Name ∷ kind.Numeral ∷ kind.Char ∷ kind.Text ∷ kind.Not ∷ kind.Val ∷ kind.Plus ∷ kind.Minus ∷ kind.Open ∷ []
first Sign = kind.Plus ∷ kind.Minus ∷ []
first Addends = kind.Or ∷ kind.Plus ∷ kind.Minus ∷ []
first Addend = kind.Or ∷ kind.Plus ∷ kind.Minus ∷ []
first Addition = kind.Or ∷ kind.Plus ∷ kind.Minus ∷ []
first Term = kind.Name ∷ kind.Numeral ∷ kind.Char ∷ kind.Text ∷ kind.Not ∷ kind.Val ∷ kind.Open ∷ []
first Multipliers = kind.And ∷ kind.Div ∷ kind.Mod ∷ kind.Star ∷ []
first Multiplier = kind.And ∷ kind.Div ∷ kind.Mod ∷ kind.Star ∷ []
first Multiplication = kind.And ∷ kind.Div ∷ kind.Mod ∷ kind.Star ∷ []
first Factor = kind.Name ∷ kind.Numeral ∷ kind.Char ∷ kind.Text ∷ kind.Not ∷ kind.Val ∷ kind.Open ∷ []
first Behind = kind.Period ∷ kind.Open ∷ kind.OpenBracket ∷ []

abbrev pub follow : Sort → List ℕ
follow Program = kind.End_of_text ∷ []
follow Globals = kind.Proc ∷ []
follow Global = kind.Array ∷ kind.Const ∷ kind.Enum ∷ kind.Proc ∷ kind.Record ∷ kind.Set ∷ []
follow ConstList = kind.Array ∷ kind.Begin ∷ kind.Const ∷ kind.Enum ∷ kind.Module ∷ kind.Post ∷ kind.Pre ∷ kind.Proc ∷ kind.Record ∷ kind.Set ∷ kind.Var
    ∷ kind.Star ∷ []
follow ConstDecls = kind.Array ∷ kind.Begin ∷ kind.Const ∷ kind.Enum ∷ kind.Module ∷ kind.Post ∷ kind.Pre ∷ kind.Proc ∷ kind.Record ∷ kind.Set ∷ kind.Var
    ∷ kind.Star ∷ []
follow ConstDecl = kind.Array ∷ kind.Begin ∷ kind.Const ∷ kind.Enum ∷ kind.Module ∷ kind.Post ∷ kind.Pre ∷ kind.Proc ∷ kind.Record ∷ kind.Set ∷ kind.Var
    ∷ kind.Star ∷ kind.Semicolon ∷ []
follow Constant = kind.Array ∷ kind.Begin ∷ kind.Const ∷ kind.Do ∷ kind.Enum ∷ kind.Module ∷ kind.Post ∷ kind.Pre ∷ kind.Proc ∷ kind.Record ∷ kind.Set
    ∷ kind.Var ∷ kind.Star ∷ kind.Colon ∷ kind.Semicolon ∷ kind.CloseBracket ∷ []
follow Code = kind.Array ∷ kind.Begin ∷ kind.Const ∷ kind.Do ∷ kind.Enum ∷ kind.Module ∷ kind.Post ∷ kind.Pre ∷ kind.Proc ∷ kind.Record ∷ kind.Set ∷ kind.Var
    ∷ kind.Star ∷ kind.Colon ∷ kind.Semicolon ∷ kind.CloseBracket ∷ []
follow TypeDecl = kind.Array ∷ kind.Begin ∷ kind.Const ∷ kind.Enum ∷ kind.Module ∷ kind.Post ∷ kind.Pre ∷ kind.Proc ∷ kind.Record ∷ kind.Set ∷ kind.Var
    ∷ kind.Star ∷ []
follow Names = kind.Colon ∷ kind.Close ∷ []
follow Group = kind.Array ∷ kind.Begin ∷ kind.Const ∷ kind.Enum ∷ kind.Module ∷ kind.Post ∷ kind.Pre ∷ kind.Proc ∷ kind.Record ∷ kind.Set ∷ kind.Var
    ∷ kind.Star ∷ kind.Semicolon ∷ kind.Close ∷ []
follow Groups = kind.Array ∷ kind.Begin ∷ kind.Const ∷ kind.Enum ∷ kind.Module ∷ kind.Post ∷ kind.Pre ∷ kind.Proc ∷ kind.Record ∷ kind.Set ∷ kind.Var
    ∷ kind.Star ∷ kind.Close ∷ []
follow VarList = kind.Array ∷ kind.Begin ∷ kind.Const ∷ kind.Enum ∷ kind.Module ∷ kind.Post ∷ kind.Pre ∷ kind.Proc ∷ kind.Record ∷ kind.Set ∷ kind.Var
    ∷ kind.Star ∷ []
follow Head = kind.Array ∷ kind.Begin ∷ kind.Const ∷ kind.Enum ∷ kind.Module ∷ kind.Post ∷ kind.Pre ∷ kind.Proc ∷ kind.Record ∷ kind.Set ∷ kind.Var
    ∷ kind.Star ∷ kind.Semicolon ∷ kind.Close ∷ []
follow Params = kind.Array ∷ kind.Begin ∷ kind.Const ∷ kind.Enum ∷ kind.Module ∷ kind.Post ∷ kind.Pre ∷ kind.Proc ∷ kind.Record ∷ kind.Set ∷ kind.Var
    ∷ kind.Star ∷ kind.Colon ∷ kind.Semicolon ∷ kind.Close ∷ []
follow MoreParams = kind.Close ∷ []
follow Result = kind.Array ∷ kind.Begin ∷ kind.Const ∷ kind.Enum ∷ kind.Module ∷ kind.Post ∷ kind.Pre ∷ kind.Proc ∷ kind.Record ∷ kind.Set ∷ kind.Var
    ∷ kind.Star ∷ kind.Semicolon ∷ kind.Close ∷ []
follow Param = kind.Semicolon ∷ kind.Close ∷ []
follow Procedure = kind.End_of_text ∷ kind.Array ∷ kind.Begin ∷ kind.Const ∷ kind.Enum ∷ kind.Module ∷ kind.Post ∷ kind.Pre ∷ kind.Proc ∷ kind.Record
    ∷ kind.Set ∷ kind.Var ∷ kind.Star ∷ []
follow Item = kind.Array ∷ kind.Begin ∷ kind.Const ∷ kind.Enum ∷ kind.Module ∷ kind.Post ∷ kind.Pre ∷ kind.Proc ∷ kind.Record ∷ kind.Set ∷ kind.Var
    ∷ kind.Star ∷ []
follow Module = kind.Array ∷ kind.Begin ∷ kind.Const ∷ kind.Enum ∷ kind.Module ∷ kind.Post ∷ kind.Pre ∷ kind.Proc ∷ kind.Record ∷ kind.Set ∷ kind.Var
    ∷ kind.Star ∷ []
follow Member = kind.Array ∷ kind.Begin ∷ kind.Const ∷ kind.Enum ∷ kind.Module ∷ kind.Post ∷ kind.Pre ∷ kind.Proc ∷ kind.Record ∷ kind.Set ∷ kind.Var
    ∷ kind.Star ∷ []
follow Members = kind.Begin ∷ []
follow Declaration = kind.Array ∷ kind.Begin ∷ kind.Const ∷ kind.Enum ∷ kind.Module ∷ kind.Post ∷ kind.Pre ∷ kind.Proc ∷ kind.Record ∷ kind.Set ∷ kind.Var ∷ []
follow Declarations = kind.Begin ∷ []
follow StatementList = kind.Also ∷ kind.Else ∷ kind.End ∷ []
follow Statements = kind.Also ∷ kind.Else ∷ kind.End ∷ []
follow Statement = kind.Also ∷ kind.Else ∷ kind.End ∷ kind.Semicolon ∷ []
follow After = kind.Also ∷ kind.Else ∷ kind.End ∷ kind.Semicolon ∷ []
follow Args = kind.Also ∷ kind.And ∷ kind.Div ∷ kind.Do ∷ kind.Else ∷ kind.End ∷ kind.In ∷ kind.Mod ∷ kind.Or ∷ kind.Equal ∷ kind.NotEqual ∷ kind.Less
    ∷ kind.AtMost ∷ kind.Greater ∷ kind.AtLeast ∷ kind.Plus ∷ kind.Minus ∷ kind.Star ∷ kind.Comma ∷ kind.Semicolon ∷ kind.Close ∷ kind.CloseBracket ∷ []
follow Exprs = kind.Close ∷ []
follow Selectors = kind.Also ∷ kind.And ∷ kind.Div ∷ kind.Do ∷ kind.Else ∷ kind.End ∷ kind.In ∷ kind.Mod ∷ kind.Or ∷ kind.Equal ∷ kind.NotEqual ∷ kind.Less
    ∷ kind.AtMost ∷ kind.Greater ∷ kind.AtLeast ∷ kind.Plus ∷ kind.Minus ∷ kind.Star ∷ kind.Becomes ∷ kind.Comma ∷ kind.Semicolon ∷ kind.Close
    ∷ kind.CloseBracket ∷ []
follow Selector = kind.Also ∷ kind.And ∷ kind.Div ∷ kind.Do ∷ kind.Else ∷ kind.End ∷ kind.In ∷ kind.Mod ∷ kind.Or ∷ kind.Equal ∷ kind.NotEqual ∷ kind.Less
    ∷ kind.AtMost ∷ kind.Greater ∷ kind.AtLeast ∷ kind.Plus ∷ kind.Minus ∷ kind.Star ∷ kind.Becomes ∷ kind.Comma ∷ kind.Semicolon ∷ kind.Period ∷ kind.Close
    ∷ kind.OpenBracket ∷ kind.CloseBracket ∷ []
follow Conditions = kind.End ∷ []
follow Condition = kind.Else ∷ kind.End ∷ []
follow Else = kind.End ∷ []
follow Branch = kind.Also ∷ kind.End ∷ []
follow Branches = kind.Also ∷ kind.Else ∷ kind.End ∷ kind.Semicolon ∷ []
follow Expr = kind.Also ∷ kind.Do ∷ kind.Else ∷ kind.End ∷ kind.Comma ∷ kind.Semicolon ∷ kind.Close ∷ kind.CloseBracket ∷ []
follow Comparison = kind.Also ∷ kind.Do ∷ kind.Else ∷ kind.End ∷ kind.Comma ∷ kind.Semicolon ∷ kind.Close ∷ kind.CloseBracket ∷ []
follow Relation = kind.Name ∷ kind.Numeral ∷ kind.Char ∷ kind.Text ∷ kind.Not ∷ kind.Val ∷ kind.Plus ∷ kind.Minus ∷ kind.Open ∷ []
follow Simple = kind.Also ∷ kind.Do ∷ kind.Else ∷ kind.End ∷ kind.In ∷ kind.Equal ∷ kind.NotEqual ∷ kind.Less ∷ kind.AtMost ∷ kind.Greater ∷ kind.AtLeast
    ∷ kind.Comma ∷ kind.Semicolon ∷ kind.Close ∷ kind.CloseBracket ∷ []
follow Sign = kind.Name ∷ kind.Numeral ∷ kind.Char ∷ kind.Text ∷ kind.Not ∷ kind.Val ∷ kind.Open ∷ []
follow Addends = kind.Also ∷ kind.Do ∷ kind.Else ∷ kind.End ∷ kind.In ∷ kind.Equal ∷ kind.NotEqual ∷ kind.Less ∷ kind.AtMost ∷ kind.Greater ∷ kind.AtLeast
    ∷ kind.Comma ∷ kind.Semicolon ∷ kind.Close ∷ kind.CloseBracket ∷ []
follow Addend = kind.Also ∷ kind.Do ∷ kind.Else ∷ kind.End ∷ kind.In ∷ kind.Or ∷ kind.Equal ∷ kind.NotEqual ∷ kind.Less ∷ kind.AtMost ∷ kind.Greater
    ∷ kind.AtLeast ∷ kind.Plus ∷ kind.Minus ∷ kind.Comma ∷ kind.Semicolon ∷ kind.Close ∷ kind.CloseBracket ∷ []
follow Addition = kind.Name ∷ kind.Numeral ∷ kind.Char ∷ kind.Text ∷ kind.Not ∷ kind.Val ∷ kind.Open ∷ []
follow Term = kind.Also ∷ kind.Do ∷ kind.Else ∷ kind.End ∷ kind.In ∷ kind.Or ∷ kind.Equal ∷ kind.NotEqual ∷ kind.Less ∷ kind.AtMost ∷ kind.Greater
    ∷ kind.AtLeast ∷ kind.Plus ∷ kind.Minus ∷ kind.Comma ∷ kind.Semicolon ∷ kind.Close ∷ kind.CloseBracket ∷ []
follow Multipliers = kind.Also ∷ kind.Do ∷ kind.Else ∷ kind.End ∷ kind.In ∷ kind.Or ∷ kind.Equal ∷ kind.NotEqual ∷ kind.Less ∷ kind.AtMost ∷ kind.Greater
    ∷ kind.AtLeast ∷ kind.Plus ∷ kind.Minus ∷ kind.Comma ∷ kind.Semicolon ∷ kind.Close ∷ kind.CloseBracket ∷ []
follow Multiplier = kind.Also ∷ kind.And ∷ kind.Div ∷ kind.Do ∷ kind.Else ∷ kind.End ∷ kind.In ∷ kind.Mod ∷ kind.Or ∷ kind.Equal ∷ kind.NotEqual ∷ kind.Less
    ∷ kind.AtMost ∷ kind.Greater ∷ kind.AtLeast ∷ kind.Plus ∷ kind.Minus ∷ kind.Star ∷ kind.Comma ∷ kind.Semicolon ∷ kind.Close ∷ kind.CloseBracket ∷ []
follow Multiplication = kind.Name ∷ kind.Numeral ∷ kind.Char ∷ kind.Text ∷ kind.Not ∷ kind.Val ∷ kind.Open ∷ []
follow Factor = kind.Also ∷ kind.And ∷ kind.Div ∷ kind.Do ∷ kind.Else ∷ kind.End ∷ kind.In ∷ kind.Mod ∷ kind.Or ∷ kind.Equal ∷ kind.NotEqual ∷ kind.Less
    ∷ kind.AtMost ∷ kind.Greater ∷ kind.AtLeast ∷ kind.Plus ∷ kind.Minus ∷ kind.Star ∷ kind.Comma ∷ kind.Semicolon ∷ kind.Close ∷ kind.CloseBracket ∷ []
follow Behind = kind.Also ∷ kind.And ∷ kind.Div ∷ kind.Do ∷ kind.Else ∷ kind.End ∷ kind.In ∷ kind.Mod ∷ kind.Or ∷ kind.Equal ∷ kind.NotEqual ∷ kind.Less
    ∷ kind.AtMost ∷ kind.Greater ∷ kind.AtLeast ∷ kind.Plus ∷ kind.Minus ∷ kind.Star ∷ kind.Comma ∷ kind.Semicolon ∷ kind.Close ∷ kind.CloseBracket ∷ []

-- the number of a short rule of the part, and a rank above those of all parts in this rule
abbrev pub shortest : Sort → ℕ × ℕ
shortest Program = (0, 3)
shortest Globals = (1, 0)
shortest Global = (1, 1)
shortest ConstList = (0, 2)
shortest ConstDecls = (1, 0)
shortest ConstDecl = (0, 1)
shortest Constant = (0, 0)
shortest Code = (0, 0)
shortest TypeDecl = (3, 0)
shortest Names = (1, 0)
shortest Group = (0, 1)
shortest Groups = (1, 0)
shortest VarList = (0, 2)
shortest Head = (0, 1)
shortest Params = (1, 0)
shortest MoreParams = (1, 0)
shortest Result = (0, 0)
shortest Param = (0, 2)
shortest Procedure = (0, 2)
shortest Item = (1, 1)
shortest Module = (0, 2)
shortest Member = (0, 2)
shortest Members = (1, 0)
shortest Declaration = (1, 2)
shortest Declarations = (1, 0)
shortest StatementList = (0, 1)
shortest Statements = (1, 0)
shortest Statement = (0, 0)
shortest After = (2, 0)
shortest Args = (0, 4)
shortest Exprs = (1, 0)
shortest Selectors = (1, 0)
shortest Selector = (0, 0)
shortest Conditions = (0, 5)
shortest Condition = (0, 4)
shortest Else = (1, 0)
shortest Branch = (0, 2)
shortest Branches = (1, 0)
shortest Expr = (0, 3)
shortest Comparison = (1, 0)
shortest Relation = (0, 0)
shortest Simple = (0, 2)
shortest Sign = (0, 0)
shortest Addends = (1, 0)
shortest Addend = (0, 2)
shortest Addition = (0, 0)
shortest Term = (0, 1)
shortest Multipliers = (1, 0)
shortest Multiplier = (0, 1)
shortest Multiplication = (0, 0)
shortest Factor = (0, 0)
shortest Behind = (1, 1)

abbrev pub edison : Grammar Sort (Option Mark)
edison = record {
  kind = kind_at;
  sample = sample;
  opens = opens;
  rules = rules;
  null = null;
  first = first;
  follow = follow;
  short = λ k. (shortest k).0;
  rank = λ k. (shortest k).1;
}

-- a whole program, and then the end of the text
abbrev pub start : List (Part Sort)
start = part Program ∷ token kind.End_of_text ∷ []
