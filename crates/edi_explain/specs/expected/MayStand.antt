-- Definition. What may stand after marks, in the words of syntax trees alone.
use Rattle.std.specs.Prelude.{◌≡◌, ℕ, zero, suc, ◌≤◌, List, [], ◌∷◌, ◌++◌}
use Rattle.edi_lex.specs.declared.symbol.Mark.{Mark}
use Rattle.edi_tree.specs.Tree.{Program}
use Rattle.edi_tree.specs.Spells.{Spells, ProgramBegins}
use Rattle.edi_tree.specs.Levels.{most_levels}
use Rattle.edi_grammar.specs.Kind.{kind_of}
use Rattle.edi_grammar.specs.derivation.Faults.{somes, AreShallow}

-- these marks begin a program in which none of them opens more than 64 levels
pub record Begin (marks : List Mark) : Type 0 where
  pub begins : ProgramBegins (somes marks)
  pub shallow : AreShallow marks

-- these marks are a whole program, in which at most 64 levels are open
abbrev pub IsWhole : List Mark → Type 0
IsWhole marks = (tree : Program) × Spells tree marks × (most_levels tree ≤ 64)

-- after these marks some symbol of this kind may stand; the kind 0 is the end of the text
abbrev pub MayStand : List Mark → ℕ → Type 0
MayStand before zero = IsWhole before
MayStand before (suc a) = (m : Mark) × (kind_of m.symbol ≡ suc a) × Begin (before ++ m ∷ [])
