-- Definition. The `when`s of a line, each with its place among those of its block.
use Rattle.std.specs.Prelude.{ℕ, ◌==◌, if◌then◌else◌, List, [], ◌∷◌, ◌++◌, length, filter}
use Rattle.edi_tree.specs.Tree as text
use Rattle.edi_sights.specs.declared.awaits.Await.{Await}
use Rattle.edi_sights.specs.declared.answer.Sight.{Sight}
use Rattle.edi_sights.specs.Awaits.{awaits_of}

-- how many of these stand in a block
abbrev pub count_in : (block : ℕ) → List Await → ℕ
count_in block awaits = length (filter (λ a. a.block == block) awaits)

-- a `when` behind these others
abbrev pub sight_behind : (before : List Await) → Await → Sight
sight_behind before a = record { block = a.block; index = count_in a.block before; slot = a.slot }

-- the `when`s on a line among some that stand behind others
abbrev pub sights_on : (line : ℕ) → (before : List Await) → List Await → List Sight
sights_on line before [] = []
sights_on line before (a ∷ awaits) =
    (if a.line == line then sight_behind before a ∷ [] else []) ++ sights_on line (before ++ a ∷ []) awaits

-- SIGHTS: the `when`s on a line of a program, in the order of the text, each with what the name means there
abbrev pub sights_of : text.Program → (line : ℕ) → (name : List ℕ) → List Sight
sights_of tree line name = sights_on line [] (awaits_of name tree)
