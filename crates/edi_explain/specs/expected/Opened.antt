-- Definition. What is open after marks: the symbols that wait for another one that closes them, the innermost last.
use Rattle.std.specs.Prelude.{ℕ, ◌-◌, Bool, true, false, List, [], ◌∷◌, ◌++◌, length, take, nat_lt, if◌then◌else◌}
use Rattle.edi_lex.specs.declared.symbol.Symbol.{Symbol}
use Rattle.edi_lex.specs.declared.symbol.Symbol.TheVariants as is
use Rattle.edi_lex.specs.declared.symbol.Mark.{Mark}
use Rattle.edi_grammar.specs.Kinds as kind
use Rattle.edi_explain.specs.declared.expected.waiting.Held.{Held}

-- the kind of a symbol that waits; 0 for all others. An `end` closes the first five.
abbrev pub opener : Symbol → ℕ
opener is.Begin = kind.Begin
opener is.If = kind.If
opener is.While = kind.While
opener is.When = kind.When
opener is.Cobegin = kind.Cobegin
opener is.Open = kind.Open
opener is.OpenBracket = kind.OpenBracket
opener _ = 0

abbrev pub closes : Symbol → Bool
closes is.End = true
closes is.Close = true
closes is.CloseBracket = true
closes _ = false

abbrev pub held_by : Mark → Held
held_by m = record { kind = opener m.symbol; line = m.line }

-- After one mark more.
abbrev pub held_with : Mark → List Held → List Held
held_with m held = if nat_lt 0 (opener m.symbol) then held ++ held_by m ∷ [] else if closes m.symbol then take (length held - 1) held else held

abbrev pub held_from : List Held → List Mark → List Held
held_from held [] = held
held_from held (m ∷ marks) = held_from (held_with m held) marks

abbrev pub opened : List Mark → List Held
opened marks = held_from [] marks
