-- Words of contracts. What the laws say of each type of a table.
use Rattle.std.specs.Prelude.{ℕ, ◌<◌, List, length}
use Rattle.edi_unit.specs.Types.{Shape}
use Rattle.edi_unit.specs.TypeTables.{IsTypeTable}

abbrev pub OfEachType : (List Shape → ℕ → Type 0) → Type 0
OfEachType Is = (types : List Shape) (t : ℕ) → IsTypeTable types → t < length types → Is types t
