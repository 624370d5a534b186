-- Words of contracts. A table that tells at a glance of most addresses that no point stands there: 64 truth values, of which an address has the one
-- at its remainder by 64.
use Rattle.std.specs.Prelude.{◌≡◌, ℕ, ◌%◌, Bool, false, true, List, All, Option, Some, None, slice_index_or}
use Rattle.edi_unit.specs.Tree.{ProgramUnit}
use Rattle.edi_machine.specs.declared.activity.Activity.{Activity}
use Rattle.edi_sights.specs.declared.answer.Sight.{Sight}
use Rattle.edi_scheme.specs.Awaits.{await_address}
use Rattle.edi_debug.specs.stops.Stops.{Watched}

-- whether a point may stand at this address
abbrev pub is_near : List Bool → (at : ℕ) → Bool
is_near table at = slice_index_or table (at % 64) false

-- whether a point may stand where this activity goes on, if there is one
abbrev pub may_stop : List Bool → Option Activity → Bool
may_stop table None = false
may_stop table (Some a) = is_near table a.pc

-- what the one table tells the other does too
abbrev pub TellsToo : (old new : List Bool) → Type 0
TellsToo old new = (at : ℕ) → is_near old at ≡ true → is_near new at ≡ true

module _ (unit : ProgramUnit) (table : List Bool) where
  -- the table tells that a point may stand at the `when` of this sight
  abbrev pub TellsSight : Sight → Type 0
  TellsSight s = (at : ℕ) → await_address unit s.block s.index ≡ Some at → is_near table at ≡ true

  abbrev pub TellsPoint : Watched → Type 0
  TellsPoint p = All TellsSight p.sights

  abbrev pub TellsPoints : List Watched → Type 0
  TellsPoints points = All TellsPoint points
