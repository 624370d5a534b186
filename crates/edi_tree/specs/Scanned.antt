-- Words of contracts. What the printed text of a tree scans to.
use Rattle.std.specs.Prelude.{ℕ, List, Result, Ok, Err}
use Rattle.edi_lex.specs.declared.symbol.Mark.{Mark}
use Rattle.edi_lex.specs.declared.fault.LexFault.{LexFault}
use Rattle.edi_tree.specs.Tree.{Program}
use Rattle.edi_tree.specs.Spells.{Spells}

-- the symbols of a text are marks that the tree spells
abbrev pub ScansTo : Program → Result (List Mark × ℕ) LexFault → Type 0
ScansTo tree (Ok found) = Spells tree found.0
ScansTo tree (Err fault) = ⊥
