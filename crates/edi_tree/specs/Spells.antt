-- Definition. When a tree spells the marks of a text, and when marks begin a program.
use Rattle.std.specs.Prelude.{◌≡◌, ℕ, ◌≤◌, ◌<◌, ◌^◌, true, List, [], ◌∷◌, ◌++◌, Option, Some, None}
use Rattle.edi_lex.specs.Order.{is_orderly, extent}
use Rattle.edi_lex.specs.Spelled.{are_spelled}
use Rattle.edi_lex.specs.declared.symbol.Mark.{Mark}
use Rattle.edi_tree.specs.Tree.{Program}
use Rattle.edi_tree.specs.Stands.{StandAsMarks}
use Rattle.edi_tree.specs.Levels.{elements, marks_among}

-- a tree spells the marks among its elements
abbrev pub Spells : Program → List Mark → Type 0
Spells tree marks = StandAsMarks (marks_among (elements tree)) marks

-- marks, and the line of the end of their text, as `Symbols` holds them: each symbol is one that the language spells, the
-- lines are at least 1 and never fall, and the symbols, a string counting its characters, number at most 262,144
pub record AreBounded (marks : List Mark) (last : ℕ) : Type 0 where
  pub spelled : are_spelled marks ≡ true
  pub orderly : is_orderly 1 marks last ≡ true
  pub few : extent marks ≤ 262144
  pub bounded : last < 2 ^ 16

-- a tree spells marks that `Symbols` can hold
pub record IsBounded (tree : Program) : Type 0 where
  pub marks : List Mark
  pub last : ℕ
  pub spells : Spells tree marks
  pub is_bounded : AreBounded marks last

-- the marks of a text, and behind them the end of the text, which is a mark of its own
abbrev pub to_end : List Mark → List (Option Mark)
to_end [] = None ∷ []
to_end (m ∷ marks) = Some m ∷ to_end marks

-- some program, of any size and depth, spells marks that begin with these; the end of the text follows a whole program only
abbrev pub ProgramBegins : List (Option Mark) → Type 0
ProgramBegins front = (tree : Program) × (marks : List Mark) × (behind : List (Option Mark)) × Spells tree marks × (to_end marks ≡ front ++ behind)
