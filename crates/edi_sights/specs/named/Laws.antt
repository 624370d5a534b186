-- Words of contracts. The names of a program are those of the blocks, variables and types of its unit.
use Rattle.std.specs.Prelude.{◌≡◌, ℕ, length, map}
use Rattle.edi_tree.specs.Tree as text
use Rattle.edi_unit.specs.Types.{Shape, bool, enumeration}
use Rattle.edi_unit.specs.Tree.{Block, ProgramUnit}
use Rattle.edi_unit.specs.Need.{slots}
use Rattle.edi_static.specs.Programs.{Resolved}
use Rattle.edi_sights.specs.named.Naming.{Named, names_of}

abbrev pub slot_count : Block → ℕ
slot_count b = length (slots b)

abbrev pub variable_count : Named → ℕ
variable_count b = length b.variables

-- the constants of a type that have names
abbrev pub constant_count : Shape → ℕ
constant_count bool = 2
constant_count (enumeration n) = n
constant_count _ = 0

-- IN THE UNIT OF A PROGRAM there are as many blocks as it names, in each as many variables, and of each type as many constants.
abbrev pub NamesAreSlots : Type 0
NamesAreSlots =
    (tree : text.Program) (unit : ProgramUnit) → Resolved tree unit →
    (map slot_count unit.blocks ≡ map variable_count (names_of tree).blocks)
    × (map constant_count unit.types ≡ map length (names_of tree).constants)
