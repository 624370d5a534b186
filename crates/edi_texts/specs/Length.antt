-- Definition. How many symbols a text has.
use Rattle.std.specs.Prelude.{ℕ, List, Result, Ok, Err}
use Rattle.edi_lex.specs.declared.symbol.Mark.{Mark}
use Rattle.edi_lex.specs.declared.fault.LexFault.{LexFault}
use Rattle.edi_lex.specs.Order.{extent}
use Rattle.edi_lex.specs.Symbols.{symbols_of}

abbrev pub extent_of : Result (List Mark × ℕ) LexFault → ℕ
extent_of (Ok known) = extent known.0
extent_of (Err fault) = 0

-- the number of symbols of a text, a string counting its characters; 0 for a text that has a lexical fault
abbrev pub symbol_count : List ℕ → ℕ
symbol_count text = extent_of (symbols_of text)
