-- Definition. The word symbols. All are reserved: none is a name.
use Rattle.std.specs.Prelude.{ℕ, List, [], ◌∷◌, Option, Some, None, if◌then◌else◌, codes}
use Rattle.std.specs.Str.{bytes_eq}
use Rattle.edi_lex.specs.declared.symbol.Symbol.{Symbol}
use Rattle.edi_lex.specs.declared.symbol.Symbol.TheVariants as is

-- the symbol beside this spelling, if a row has the spelling
abbrev pub symbol_beside : List (List ℕ × Symbol) → List ℕ → Option Symbol
symbol_beside [] name = None
symbol_beside (row ∷ rows) name = if bytes_eq name row.0 then Some row.1 else symbol_beside rows name

abbrev pub word_symbols : List (List ℕ × Symbol)
word_symbols =
    (codes "also", is.Also) ∷
    (codes "and", is.And) ∷
    (codes "array", is.Array) ∷
    (codes "begin", is.Begin) ∷
    (codes "cobegin", is.Cobegin) ∷
    (codes "const", is.Const) ∷
    (codes "div", is.Div) ∷
    (codes "do", is.Do) ∷
    (codes "else", is.Else) ∷
    (codes "end", is.End) ∷
    (codes "enum", is.Enum) ∷
    (codes "if", is.If) ∷
    (codes "in", is.In) ∷
    (codes "lib", is.Lib) ∷
    (codes "mod", is.Mod) ∷
    (codes "module", is.Module) ∷
    (codes "not", is.Not) ∷
    (codes "or", is.Or) ∷
    (codes "post", is.Post) ∷
    (codes "pre", is.Pre) ∷
    (codes "proc", is.Proc) ∷
    (codes "record", is.Record) ∷
    (codes "set", is.Set) ∷
    (codes "skip", is.Skip) ∷
    (codes "val", is.Val) ∷
    (codes "var", is.Var) ∷
    (codes "when", is.When) ∷
    (codes "while", is.While) ∷
    []

-- the word symbol that is spelled so
abbrev pub word_of : List ℕ → Option Symbol
word_of name = symbol_beside word_symbols name
