-- Helper. The items of a text that fit the elements of a tree.
use Rattle.std.specs.Prelude.{◌≡◌, List, [], ◌∷◌, Option, Some, None}
use Rattle.edi_lex.specs.declared.symbol.Mark.{Mark}
use Rattle.edi_tree.specs.Stands.{StandsAsMark}
use Rattle.edi_tree.specs.Levels.{Element, mark, level_end}
use Rattle.edi_grammar.specs.Grammar as item
use Rattle.edi_grammar.specs.Grammar.{closing}

abbrev pub Items : Type 0
Items = List (item.Item (Option Mark))

-- the items are marks as the elements say, with the ends of levels between them, and then the end of the text
abbrev pub Fit : List Element → Items → Type 0
Fit [] items = items ≡ item.mark None ∷ []
Fit (mark s ∷ es) items = (m : Mark) × (rest : Items) × (items ≡ item.mark (Some m) ∷ rest) × StandsAsMark s m × Fit es rest
Fit (level_end ∷ es) items = (rest : Items) × (items ≡ closing ∷ rest) × Fit es rest
