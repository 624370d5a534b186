-- Words of contracts. What sights tell of a program's unit: they are the `when`s of their line, and the variables that they name are there.
use Rattle.std.specs.Prelude.{◌≡◌, ◌⊎◌, ℕ, ◌<◌, Bool, true, ◌&&◌, ◌==◌, IsTrue, List, length, All, Option, Some, None, ⊤, slice_get}
use Rattle.std.specs.List.{list_any}
use Rattle.edi_tree.specs.Tree as text
use Rattle.edi_unit.specs.declared.units.Parameter.TheVariants as slot
use Rattle.edi_unit.specs.Types.{Shape, is_elementary}
use Rattle.edi_unit.specs.Tree.{Block, ProgramUnit}
use Rattle.edi_unit.specs.Need.{slot_at}
use Rattle.edi_static.specs.Programs.{Resolved, Sound}
use Rattle.edi_sights.specs.declared.answer.Sight.{Sight}
use Rattle.edi_sights.specs.declared.answer.Sighted.{Sighted}
use Rattle.edi_sights.specs.Sights.{sights_of}
use Rattle.edi_sights.specs.Whens.{block_lines}

module _ (types : List Shape) (blocks : List Block) where
  -- as a block sees it, a variable of an elementary type, or a `var` parameter of one
  pub record IsElementary (b : ℕ) (s : Sighted) : Type 0 where
    pub of : ℕ
    pub holds : (slot_at blocks b s.levels s.variable ≡ Some (slot.Value of)) ⊎ (slot_at blocks b s.levels s.variable ≡ Some (slot.Var of))
    pub known : of < length types
    pub elementary : IsTrue (is_elementary types of)

  abbrev pub IsElementaryIfAny : (b : ℕ) → Option Sighted → Type 0
  IsElementaryIfAny b None = ⊤
  IsElementaryIfAny b (Some s) = IsElementary b s

module _ (unit : ProgramUnit) (line : ℕ) where
  -- the `when` with this number in its block stands on the line, and the name means such a variable at it, or none
  pub record IsWhen (s : Sight) : Type 0 where
    pub there : s.block < length unit.blocks
    pub on_line : slice_get (block_lines unit.blocks s.block) s.index ≡ Some line
    pub slot_fits : IsElementaryIfAny unit.types unit.blocks s.block s.slot

  abbrev pub is_of : (block index : ℕ) → Sight → Bool
  is_of block index s = s.block == block && s.index == index

  -- each `when` on the line is seen
  abbrev pub AllAreSeen : List Sight → Type 0
  AllAreSeen sights =
      (block index : ℕ) → slice_get (block_lines unit.blocks block) index ≡ Some line → list_any (is_of block index) sights ≡ true

-- SIGHTS ARE THE `WHEN`S OF THE LINE, in the unit of each sound program: each is one, and none is left out
abbrev pub SightsAreWhens : Type 0
SightsAreWhens =
    (tree : text.Program) (unit : ProgramUnit) → Sound tree → Resolved tree unit → (line : ℕ) (name : List ℕ) →
    All (IsWhen unit line) (sights_of tree line name) × AllAreSeen unit line (sights_of tree line name)
