-- Words of contracts. The lines on which branches are closed.
use Rattle.std.specs.Prelude.{ℕ, List, [], ◌∷◌}
use Rattle.edi_lex.specs.declared.symbol.Mark.{Mark}

-- the line of the symbol in front, and 0 where the text ends
abbrev pub front_line : List Mark → ℕ
front_line [] = 0
front_line (m ∷ more) = m.line
