-- Words of contracts. What is true of the code of every unit that fits.
use Rattle.std.specs.Prelude.{◌≡◌, ℕ, ◌<◌, ◌≤◌, ◌^◌, List, length}
use Rattle.edi_unit.specs.Types.{Shape, record_of, shape_at}
use Rattle.edi_unit.specs.Tree.{ProgramUnit}
use Rattle.edi_unit.specs.Fits.{Fits}
use Rattle.edi_target.specs.Check.{CodeParts, IsSound}
use Rattle.edi_target.specs.Reading.{AreWords}
use Rattle.edi_target.specs.Fetch.{fetch}
use Rattle.edi_scheme.specs.Code.{entry, code_of}
use Rattle.edi_scheme.specs.Stands.{AreBlocks}
use Rattle.edi_scheme.specs.Lines.{UnitLines}

-- a record has a field, so that each value takes a word
abbrev pub HasPart : Shape → Type 0
HasPart (record_of fs) = 0 < length fs
HasPart _ = Unit {0}

abbrev pub HaveParts : List Shape → Type 0
HaveParts types = (t : ℕ) → t < length types → HasPart (shape_at types t)

-- in the code of a unit that fits, the code of each block stands where it begins
abbrev pub CodeStands : Type 0
CodeStands =
    (unit : ProgramUnit) → Fits unit → HaveParts unit.types →
    AreBlocks (fetch (code_of unit)) unit.types unit.blocks (entry unit.types unit.blocks)

-- and it is as long as its blocks together
abbrev pub CodeIsLong : Type 0
CodeIsLong = (unit : ProgramUnit) → length (code_of unit) ≡ entry unit.types unit.blocks (length unit.blocks)

-- the code of a unit, which is entered at its first word
abbrev pub parts_of : ProgramUnit → CodeParts
parts_of unit = record { words = code_of unit; entry = 0; calls = unit.calls }

-- the code of a unit that fits has no fault, where it is not too long for a code
abbrev pub CodeIsSound : Type 0
CodeIsSound = (unit : ProgramUnit) → Fits unit → HaveParts unit.types → length (code_of unit) ≤ 4194304 → IsSound (parts_of unit)

-- the numbers in it are words, where the lines of the unit are words and addresses take two of them
abbrev pub CodeIsWords : Type 0
CodeIsWords =
    (unit : ProgramUnit) → Fits unit → HaveParts unit.types → UnitLines unit → length (code_of unit) < 2 ^ 32 → AreWords (code_of unit)
