-- Definition. The first fault of marks, in the words of syntax trees alone.
use Rattle.std.specs.Prelude.{◌≡◌, ℕ, ◌<◌, ◌≤◌, true, List, [], ◌∷◌, ◌++◌, Option, Some}
use Rattle.edi_lex.specs.declared.symbol.Mark.{Mark}
use Rattle.edi_tree.specs.Tree.{Program}
use Rattle.edi_tree.specs.Spells.{Spells, to_end, ProgramBegins}
use Rattle.edi_tree.specs.Levels.{Level, opens, most_levels}

abbrev pub somes : List Mark → List (Option Mark)
somes [] = []
somes (m ∷ marks) = Some m ∷ somes marks

-- the marks up to this place are these, and there stands this one, or the end of the text
abbrev pub IsPosition : List Mark → List Mark → Option Mark → Type 0
IsPosition marks before here = (behind : List (Option Mark)) × (to_end marks ≡ somes before ++ here ∷ behind)

-- none of these marks, where it opens a level in a program that begins with those before it, opens more than 64
abbrev pub AreShallow : List Mark → Type 0
AreShallow marks = (front behind : List Mark) (m : Mark) (level : ℕ) → marks ≡ front ++ m ∷ behind → opens m.symbol ≡ true → Level front m level → level ≤ 64

-- The marks before the place begin a program, none of them is too deep, and with what stands at the place they begin none.
pub record IsMisplaced (marks before : List Mark) (here : Option Mark) : Type 0 where
  pub position : IsPosition marks before here
  pub begins : ProgramBegins (somes before)
  pub shallow : AreShallow before
  pub fails : ProgramBegins (somes before ++ here ∷ []) → ⊥

-- The marks with the one at the place begin a program, and it opens more than 64 levels in each, which none before it does.
pub record IsTooDeepAt (marks before : List Mark) (m : Mark) : Type 0 where
  pub position : IsPosition marks before (Some m)
  pub begins : ProgramBegins (somes before ++ Some m ∷ [])
  pub shallow : AreShallow before
  pub opens_level : opens m.symbol ≡ true
  pub deep : (level : ℕ) → Level before m level → 64 < level

-- The tree spells the marks, at most 64 levels are open in it, and no other tree spells them.
pub record IsTheTree (marks : List Mark) (tree : Program) : Type 0 where
  pub spells : Spells tree marks
  pub shallow : most_levels tree ≤ 64
  pub one : (other : Program) → Spells other marks → other ≡ tree
