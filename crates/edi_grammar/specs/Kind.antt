-- Definition. The kind of each symbol.
use Rattle.std.specs.Prelude.{ℕ, zero, suc, ℤ, pos, List, [], ◌∷◌, Option, Some, None, codes}
use Rattle.edi_lex.specs.declared.symbol.Symbol.{Symbol}
use Rattle.edi_lex.specs.declared.symbol.Symbol.TheVariants as is
use Rattle.edi_lex.specs.declared.symbol.Mark.{Mark}
use Rattle.edi_grammar.specs.Kinds as kind

abbrev pub kind_of : Symbol → ℕ
kind_of (is.Name name) = kind.Name
kind_of (is.Numeral value) = kind.Numeral
kind_of (is.Chars (c ∷ [])) = kind.Char
kind_of (is.Chars string) = kind.Text
kind_of is.Also = kind.Also
kind_of is.And = kind.And
kind_of is.Array = kind.Array
kind_of is.Begin = kind.Begin
kind_of is.Cobegin = kind.Cobegin
kind_of is.Const = kind.Const
kind_of is.Div = kind.Div
kind_of is.Do = kind.Do
kind_of is.Else = kind.Else
kind_of is.End = kind.End
kind_of is.Enum = kind.Enum
kind_of is.If = kind.If
kind_of is.In = kind.In
kind_of is.Lib = kind.Lib
kind_of is.Mod = kind.Mod
kind_of is.Module = kind.Module
kind_of is.Not = kind.Not
kind_of is.Or = kind.Or
kind_of is.Post = kind.Post
kind_of is.Pre = kind.Pre
kind_of is.Proc = kind.Proc
kind_of is.Record = kind.Record
kind_of is.Set = kind.Set
kind_of is.Skip = kind.Skip
kind_of is.Val = kind.Val
kind_of is.Var = kind.Var
kind_of is.When = kind.When
kind_of is.While = kind.While
kind_of is.Equal = kind.Equal
kind_of is.NotEqual = kind.NotEqual
kind_of is.Less = kind.Less
kind_of is.AtMost = kind.AtMost
kind_of is.Greater = kind.Greater
kind_of is.AtLeast = kind.AtLeast
kind_of is.Plus = kind.Plus
kind_of is.Minus = kind.Minus
kind_of is.Star = kind.Star
kind_of is.Colon = kind.Colon
kind_of is.Becomes = kind.Becomes
kind_of is.Comma = kind.Comma
kind_of is.Semicolon = kind.Semicolon
kind_of is.Period = kind.Period
kind_of is.Open = kind.Open
kind_of is.Close = kind.Close
kind_of is.OpenBracket = kind.OpenBracket
kind_of is.CloseBracket = kind.CloseBracket

-- the kind of the symbol in hand; None is the end of the text
abbrev pub kind_at : Option Mark → ℕ
kind_at None = kind.End_of_text
kind_at (Some m) = kind_of m.symbol

-- the kind of the first of the marks
abbrev pub front : List Mark → ℕ
front [] = kind.End_of_text
front (m ∷ marks) = kind_of m.symbol

-- some symbol of each kind, with these values
abbrev pub symbols_with : List ℕ → ℕ → ℤ → List (Option Symbol)
symbols_with text c value = None ∷ Some (is.Name text) ∷ Some (is.Numeral value) ∷ Some (is.Chars (c ∷ [])) ∷ Some (is.Chars text) ∷ Some is.Also
    ∷ Some is.And ∷ Some is.Array ∷ Some is.Begin ∷ Some is.Cobegin ∷ Some is.Const ∷ Some is.Div ∷ Some is.Do ∷ Some is.Else ∷ Some is.End ∷ Some is.Enum
    ∷ Some is.If ∷ Some is.In ∷ Some is.Lib ∷ Some is.Mod ∷ Some is.Module ∷ Some is.Not ∷ Some is.Or ∷ Some is.Post ∷ Some is.Pre ∷ Some is.Proc
    ∷ Some is.Record ∷ Some is.Set ∷ Some is.Skip ∷ Some is.Val ∷ Some is.Var ∷ Some is.When ∷ Some is.While ∷ Some is.Equal ∷ Some is.NotEqual ∷ Some is.Less
    ∷ Some is.AtMost ∷ Some is.Greater ∷ Some is.AtLeast ∷ Some is.Plus ∷ Some is.Minus ∷ Some is.Star ∷ Some is.Colon ∷ Some is.Becomes ∷ Some is.Comma
    ∷ Some is.Semicolon ∷ Some is.Period ∷ Some is.Open ∷ Some is.Close ∷ Some is.OpenBracket ∷ Some is.CloseBracket ∷ []

abbrev pub symbol_no : List (Option Symbol) → ℕ → Option Symbol
symbol_no [] i = None
symbol_no (s ∷ more) zero = s
symbol_no (s ∷ more) (suc i) = symbol_no more i

abbrev pub on_line : ℕ → Option Symbol → Option Mark
on_line line None = None
on_line line (Some s) = Some (record { symbol = s; line = line })

-- some mark of each kind
abbrev pub sample : ℕ → Option Mark
sample a = on_line 1 (symbol_no (symbols_with (codes "aa") 97 (pos 0)) a)
