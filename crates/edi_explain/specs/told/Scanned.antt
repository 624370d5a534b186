-- Words of contracts. What is known of a text whose symbols, or the place of whose fault, are asked for.
use Rattle.std.specs.Prelude.{◌≡◌, ℕ, List, Ok, Err}
use Rattle.edi_lex.specs.declared.symbol.Mark.{Mark}
use Rattle.edi_lex.specs.declared.fault.LexFault.{LexFault}
use Rattle.edi_lex.specs.Symbols.{symbols_from}

-- it is cut into symbols
abbrev pub HasSymbols : List ℕ → Type 0
HasSymbols text = (found : List Mark × ℕ) × (symbols_from text 0 1 ≡ Ok found)

-- it has a place at which no piece stands
abbrev pub HasStray : List ℕ → Type 0
HasStray text = (fault : LexFault) × (symbols_from text 0 1 ≡ Err fault)
