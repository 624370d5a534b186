-- Words of contracts. The text that is printed for a tree: its symbols with a blank between two of them. Where the line of a symbol is kept and
-- is greater than the present one, as many line feeds as lead there stand in place of the blank.
use Rattle.std.specs.Prelude.{ℕ, ◌-◌, max, nat_lt, Bool, true, false, List, [], ◌∷◌, ◌++◌, replicate, Option, Some, None, if◌then◌else◌, codes, decimal}
use Rattle.std.specs.Prelude.{unsigned_abs}
use Rattle.edi_lex.specs.declared.symbol.Symbol.{Symbol}
use Rattle.edi_lex.specs.declared.symbol.Symbol.TheVariants as is
use Rattle.edi_tree.specs.Tree.{Program}
use Rattle.edi_tree.specs.Stands.{Spelled}
use Rattle.edi_tree.specs.Spelled.{spelled}

-- how a symbol is written; a numeral, which is not negative, in decimal digits
abbrev pub text_of : Symbol → List ℕ
text_of (is.Name text) = text
text_of (is.Numeral value) = decimal (unsigned_abs value)
text_of (is.Chars text) = 39 ∷ (text ++ 39 ∷ [])
text_of is.Also = codes "also"
text_of is.And = codes "and"
text_of is.Array = codes "array"
text_of is.Begin = codes "begin"
text_of is.Cobegin = codes "cobegin"
text_of is.Const = codes "const"
text_of is.Div = codes "div"
text_of is.Do = codes "do"
text_of is.Else = codes "else"
text_of is.End = codes "end"
text_of is.Enum = codes "enum"
text_of is.If = codes "if"
text_of is.In = codes "in"
text_of is.Lib = codes "lib"
text_of is.Mod = codes "mod"
text_of is.Module = codes "module"
text_of is.Not = codes "not"
text_of is.Or = codes "or"
text_of is.Post = codes "post"
text_of is.Pre = codes "pre"
text_of is.Proc = codes "proc"
text_of is.Record = codes "record"
text_of is.Set = codes "set"
text_of is.Skip = codes "skip"
text_of is.Val = codes "val"
text_of is.Var = codes "var"
text_of is.When = codes "when"
text_of is.While = codes "while"
text_of is.Equal = codes "="
text_of is.NotEqual = codes "<>"
text_of is.Less = codes "<"
text_of is.AtMost = codes "<="
text_of is.Greater = codes ">"
text_of is.AtLeast = codes ">="
text_of is.Plus = codes "+"
text_of is.Minus = codes "-"
text_of is.Star = codes "*"
text_of is.Colon = codes ":"
text_of is.Becomes = codes ":="
text_of is.Comma = codes ","
text_of is.Semicolon = codes ";"
text_of is.Period = codes "."
text_of is.Open = codes "("
text_of is.Close = codes ")"
text_of is.OpenBracket = codes "["
text_of is.CloseBracket = codes "]"

-- a blank, but nothing before the first symbol
abbrev pub separator : Bool → List ℕ
separator begun = if begun then 32 ∷ [] else []

-- what stands on this line before a symbol whose line is this, if it is kept
abbrev pub gap : Bool → ℕ → Option ℕ → List ℕ
gap begun line None = separator begun
gap begun line (Some kept) = if nat_lt line kept then replicate (kept - line) 10 else separator begun

-- the line of that symbol in the text
abbrev pub line_at : ℕ → Option ℕ → ℕ
line_at line None = line
line_at line (Some kept) = max line kept

-- marks on this line and behind it, of which the first is the first of the text or not
abbrev pub printed_from : Bool → ℕ → List Spelled → List ℕ
printed_from begun line [] = []
printed_from begun line (s ∷ more) = gap begun line s.line ++ (text_of s.symbol ++ printed_from true (line_at line s.line) more)

-- a text begins on line 1
abbrev pub printed : Program → List ℕ
printed tree = printed_from false 1 (spelled tree)
