-- Definition. The symbols that a tree spells, with the lines that it keeps of them, and when marks are such symbols.
use Rattle.std.specs.Prelude.{◌≡◌, ℕ, List, [], ◌∷◌, Option, Some, None}
use Rattle.edi_lex.specs.declared.symbol.Symbol.{Symbol}
use Rattle.edi_lex.specs.declared.symbol.Symbol.TheVariants as is
use Rattle.edi_lex.specs.declared.symbol.Mark.{Mark}
use Rattle.edi_tree.specs.declared.names.Name.{Name}
use Rattle.edi_tree.specs.declared.names.Char.{Char}
use Rattle.edi_tree.specs.declared.names.Chars.{Chars}
use Rattle.edi_tree.specs.declared.expressions.Relation.{Relation}
use Rattle.edi_tree.specs.declared.expressions.Relation.TheVariants as relation
use Rattle.edi_tree.specs.declared.expressions.Addition.{Addition}
use Rattle.edi_tree.specs.declared.expressions.Addition.TheVariants as addition
use Rattle.edi_tree.specs.declared.expressions.Multiplication.{Multiplication}
use Rattle.edi_tree.specs.declared.expressions.Multiplication.TheVariants as multiplication

-- a symbol, and its line where the tree keeps it; else the symbol may stand on any line
pub record Spelled : Type 0 where
  pub symbol : Symbol
  pub line : Option ℕ

-- a symbol on a line that is kept
abbrev pub on : Symbol → ℕ → Spelled
on symbol line = record { symbol = symbol; line = Some line }

-- a symbol whose line is not kept
abbrev pub just : Symbol → Spelled
just symbol = record { symbol = symbol; line = None }

abbrev pub name_mark : Name → Spelled
name_mark n = on (is.Name n.text) n.line

abbrev pub chars_mark : Chars → Spelled
chars_mark s = on (is.Chars s.text) s.line

-- a string of one character
abbrev pub char_mark : Char → Spelled
char_mark c = on (is.Chars (c.character ∷ [])) c.line

-- Relation = "=" | "<>" | "<" | "<=" | ">" | ">=" | "in"
abbrev pub relation_symbol : Relation → Symbol
relation_symbol relation.Equal = is.Equal
relation_symbol relation.NotEqual = is.NotEqual
relation_symbol relation.Less = is.Less
relation_symbol relation.AtMost = is.AtMost
relation_symbol relation.Greater = is.Greater
relation_symbol relation.AtLeast = is.AtLeast
relation_symbol relation.In = is.In

-- "+" | "-" | "or"
abbrev pub addition_symbol : Addition → Symbol
addition_symbol addition.Plus = is.Plus
addition_symbol addition.Minus = is.Minus
addition_symbol addition.Or = is.Or

-- "*" | "div" | "mod" | "and"
abbrev pub multiplication_symbol : Multiplication → Symbol
multiplication_symbol multiplication.Star = is.Star
multiplication_symbol multiplication.Div = is.Div
multiplication_symbol multiplication.Mod = is.Mod
multiplication_symbol multiplication.And = is.And

-- a line that is kept is this one; one that is not kept is any
abbrev pub IsOn : Option ℕ → ℕ → Type 0
IsOn None line = Unit {0}
IsOn (Some kept) line = line ≡ kept

-- the symbol of a mark, on its line where the tree keeps it
abbrev pub StandsAsMark : Spelled → Mark → Type 0
StandsAsMark s m = (m.symbol ≡ s.symbol) × IsOn s.line m.line

-- as many marks, one after another
abbrev pub StandAsMarks : List Spelled → List Mark → Type 0
StandAsMarks [] [] = Unit {0}
StandAsMarks [] (m ∷ marks) = ⊥
StandAsMarks (s ∷ ss) [] = ⊥
StandAsMarks (s ∷ ss) (m ∷ marks) = StandsAsMark s m × StandAsMarks ss marks
