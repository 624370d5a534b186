-- Words of contracts. Where variables stand in the frames of their blocks, and fields in their records.
use Rattle.std.specs.Prelude.{◌≡◌, ℕ, ◌+◌, List, [], ◌∷◌, Option, Some, None, map, slice_get}
use Rattle.std.specs.Global.{Vec}
use Rattle.edi_unit.specs.declared.units.Parameter.{Parameter}
use Rattle.edi_unit.specs.declared.units.Parameter.TheVariants as slot
use Rattle.edi_unit.specs.Types.{Shape, fields_of, shape_at}
use Rattle.edi_unit.specs.Tree.{Block}
use Rattle.edi_unit.specs.Need.{block_at, slots, slot_words}
use Rattle.edi_scheme.specs.Pieces.{is_address}
use Rattle.edi_code.specs.declared.stored.Stored.{Stored}

-- of these slots the first stands so far behind the base of a frame, or behind the first word of a record
abbrev pub stored_from : List Shape → List Parameter → ℕ → List Stored
stored_from types [] at = []
stored_from types (p ∷ ps) at = record { offset = at; is_place = is_address (Some p) } ∷ stored_from types ps (at + slot_words types p)

-- these are, for blocks from the first on, where the variables of each stand
pub record AreVariables (types : List Shape) (blocks : List Block) (rows : List (Vec Stored)) : Type 0 where
  pub each : (b : ℕ) (row : Vec Stored) → slice_get rows b ≡ Some row → row.items ≡ stored_from types (slots (block_at blocks b)) 5

-- these are, for types from the first on, where the fields of each stand
pub record AreFields (types : List Shape) (rows : List (Vec Stored)) : Type 0 where
  pub each : (t : ℕ) (row : Vec Stored) → slice_get rows t ≡ Some row → row.items ≡ stored_from types (map slot.Value (fields_of (shape_at types t))) 0

-- what stands at an index in a row, and in the row of this number
abbrev pub item_at : Option (Vec Stored) → ℕ → Option Stored
item_at None i = None
item_at (Some row) i = slice_get row.items i

abbrev pub stored_at : List (Vec Stored) → (number index : ℕ) → Option Stored
stored_at rows number index = item_at (slice_get rows number) index
