-- Words of contracts. What sights have to tell of a program's unit: the `when`s and the variables that they name are there.
use Rattle.std.specs.Prelude.{◌≡◌, ℕ, List, All, Option, Some}
use Rattle.edi_unit.specs.Tree.{ProgramUnit}
use Rattle.edi_sights.specs.declared.answer.Sight.{Sight}
use Rattle.edi_sights.specs.declared.answer.Sighted.{Sighted}
use Rattle.edi_sights.specs.Fits.{IsElementary, IsElementaryIfAny}
use Rattle.edi_scheme.specs.Awaits.{await_address}
use Rattle.edi_debug.specs.stops.Stops.{Watched}

module _ (unit : ProgramUnit) where
  -- a variable of an elementary type, or a `var` parameter of one
  abbrev pub IsElementaryVariable : (block : ℕ) → Sighted → Type 0
  IsElementaryVariable block s = IsElementary unit.types unit.blocks block s

  abbrev pub SlotFits : (block : ℕ) → Option Sighted → Type 0
  SlotFits block o = IsElementaryIfAny unit.types unit.blocks block o

  -- the `when` is there, and what the name means at it
  pub record SightFits (s : Sight) : Type 0 where
    pub at : ℕ
    pub stands : await_address unit s.block s.index ≡ Some at
    pub slot_fits : SlotFits s.block s.slot

  abbrev pub PointFits : Watched → Type 0
  PointFits p = All SightFits p.sights

  abbrev pub PointsFit : List Watched → Type 0
  PointsFit points = All PointFits points
