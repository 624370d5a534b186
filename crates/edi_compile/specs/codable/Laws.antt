-- Words of contracts. What is true of the unit of every sound program, and of its code.
use Rattle.std.specs.Prelude.{◌*◌, ◌≤◌, List, length}
use Rattle.edi_lex.specs.declared.symbol.Mark.{Mark}
use Rattle.edi_lex.specs.Order.{extent}
use Rattle.edi_tree.specs.Tree.{Program}
use Rattle.edi_tree.specs.Spells.{IsBounded, Spells}
use Rattle.edi_unit.specs.Tree.{ProgramUnit}
use Rattle.edi_unit.specs.Fits.{Fits}
use Rattle.edi_static.specs.Programs.{Resolved, Sound}
use Rattle.edi_target.specs.Check.{IsSound}
use Rattle.edi_target.specs.Reading.{AreWords}
use Rattle.edi_scheme.specs.Lines.{UnitLines}
use Rattle.edi_scheme.specs.Code.{code_of}
use Rattle.edi_scheme.specs.Laws.{HaveParts, parts_of}

-- each record of a sound program has a field
abbrev pub RecordsHaveFields : Type 0
RecordsHaveFields = (tree : Program) (unit : ProgramUnit) → Resolved tree unit → HaveParts unit.types

-- the lines of the unit are below 65,536, where the tree spells marks that `Symbols` can hold
abbrev pub LinesAreSmall : Type 0
LinesAreSmall = (tree : Program) (unit : ProgramUnit) → ∥ IsBounded tree ∥₁ → Resolved tree unit → UnitLines unit

-- and its code has at most 8 words for each symbol of the text, a string counting its characters
abbrev pub CodeIsShortForText : Type 0
CodeIsShortForText =
    (tree : Program) (unit : ProgramUnit) (marks : List Mark) → ∥ IsBounded tree ∥₁ → Spells tree marks → Resolved tree unit →
    length (code_of unit) ≤ 8 * extent marks

-- so it has at most 2,097,152 words, since a program has at most 262,144 symbols: half of what a code may have
abbrev pub CodeIsShort : Type 0
CodeIsShort = (tree : Program) (unit : ProgramUnit) → ∥ IsBounded tree ∥₁ → Resolved tree unit → length (code_of unit) ≤ 8 * 262144

-- the unit of a sound program fits
abbrev pub SoundUnitsFit : Type 0
SoundUnitsFit = (tree : Program) (unit : ProgramUnit) → Sound tree → Resolved tree unit → Fits unit

-- the code of a sound program has no fault
abbrev pub SoundCode : Type 0
SoundCode = (tree : Program) (unit : ProgramUnit) → Sound tree → Resolved tree unit → IsSound (parts_of unit)

-- and the numbers in it are words
abbrev pub CodeIsWords : Type 0
CodeIsWords = (tree : Program) (unit : ProgramUnit) → Sound tree → Resolved tree unit → AreWords (code_of unit)
