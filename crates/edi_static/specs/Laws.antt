-- Words of contracts. What is true of every sound program.
use Rattle.std.specs.Prelude.{◌≡◌, ℕ, ◌<◌, ◌≤◌, ◌^◌, length, All}
use Rattle.edi_tree.specs.Tree.{Program}
use Rattle.edi_tree.specs.Depth.{depth}
use Rattle.edi_unit.specs.Types.{greatest_size}
use Rattle.edi_unit.specs.Tree.{Block, ProgramUnit}
use Rattle.edi_unit.specs.Fits.{Fits, greatest_levels}
use Rattle.edi_static.specs.declared.faults.StaticKind.{StaticKind}
use Rattle.edi_static.specs.InRange.{ProgramInRange}
use Rattle.edi_static.specs.Programs.{FirstStatic, Resolved, IsUnsound}

-- a block that needs at most 65,535 words
abbrev pub IsSmall : Block → Type 0
IsSmall block = block.need ≤ greatest_size

-- each block of a sound program needs at most so many
abbrev pub NeedsAreSmall : Type 0
NeedsAreSmall = (tree : Program) (unit : ProgramUnit) → Resolved tree unit → All IsSmall unit.blocks

-- The resolved unit of a sound program fits, where the tree is no deeper than 64 levels, its numerals and characters are in
-- range and each `cobegin` has fewer than 65,536 branches, as is so in a tree that spells marks that `Symbols` can hold, and
-- the unit has fewer than 2^32 types.
abbrev pub UnitsFit : Type 0
UnitsFit =
    (tree : Program) (unit : ProgramUnit) → depth tree ≤ greatest_levels → ProgramInRange tree → length unit.types < 2 ^ 32 → Resolved tree unit → Fits unit

-- no tree has two static faults
abbrev pub OneStaticFault : Type 0
OneStaticFault =
    (tree : Program) (why other : StaticKind) (line at : ℕ) → FirstStatic tree why line → FirstStatic tree other at → (why ≡ other) × (line ≡ at)

-- a tree with a static fault is not sound
abbrev pub FaultsAreUnsound : Type 0
FaultsAreUnsound = (tree : Program) (why : StaticKind) (line : ℕ) → FirstStatic tree why line → IsUnsound tree why line
