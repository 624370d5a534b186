-- Helper. The steps back that are kept in place of the earlier texts.
use Rattle.std.specs.Prelude.{◌≡◌, ℕ, ◌<◌, ◌≤◌, List, [], ◌∷◌, length, map, insert, remove, slice_set}
use Rattle.std.specs.Prelude.{Vec, ◌+◌}
use Rattle.edi_edit.specs.declared.TheConstants.{ROOM, UNDOS}
use Rattle.edi_edit.specs.Lines.{size_of_lines, HaveNoFeed}
use Rattle.edi_edit.specs.declared.list.Step.{Step}
use Rattle.edi_edit.specs.declared.list.Step.TheVariants.{Remove, Put, Insert}

-- the lines that are kept, as lists
abbrev pub plain : {A : Type 0} → List (Vec ℕ A) → List (List ℕ)
plain lines = map (λ line. line.items) lines

-- the text one step back
abbrev pub step_back : Step → List (List ℕ) → List (List ℕ)
step_back (Remove at) lines = remove lines at
step_back (Put at line) lines = slice_set lines at line.items
step_back (Insert at line) lines = insert lines at line.items

-- the line that the step speaks of is there
abbrev pub CanStep : Step → List (List ℕ) → Type 0
CanStep (Remove at) lines = at < length lines
CanStep (Put at line) lines = at < length lines
CanStep (Insert at line) lines = at ≤ length lines

-- the text before all of these steps' changes; the last step comes first
abbrev pub back : List Step → List (List ℕ) → List (List ℕ)
back [] lines = lines
back (step ∷ steps) lines = step_back step (back steps lines)

-- the texts to which the steps lead back, the oldest first
abbrev pub earlier : List Step → List (List ℕ) → List (List (List ℕ))
earlier [] lines = []
earlier (step ∷ steps) lines = back (step ∷ steps) lines ∷ earlier steps lines

-- each step can be taken where it leads from, and leads to lines with no line feed, which are no larger than those of a first text may be
abbrev pub CanGoBack : List Step → List (List ℕ) → Type 0
CanGoBack [] lines = Unit {0}
CanGoBack (step ∷ steps) lines =
    CanStep step (back steps lines) × (size_of_lines (back (step ∷ steps) lines) ≤ ROOM + 1) × HaveNoFeed (back (step ∷ steps) lines) × CanGoBack steps lines

-- what is kept beside the lines: the steps back, and room for no more than can be undone
pub record StepsAreKept (steps : List Step) (capacity : ℕ) (lines : List (List ℕ)) : Type 0 where
  pub room : capacity ≡ UNDOS
  pub few : length steps ≤ UNDOS
  pub can : CanGoBack steps lines
  pub small : size_of_lines lines ≤ ROOM + 1
  pub whole : HaveNoFeed lines
