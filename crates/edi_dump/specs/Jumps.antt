-- Words of contracts. A JUMP stays in the code of its block.
use Rattle.std.specs.Prelude.{◌≡◌, ℕ, true, Some}
use Rattle.edi_unit.specs.Tree.{ProgramUnit}
use Rattle.edi_unit.specs.Fits.{Fits}
use Rattle.edi_target.specs.Check.{is_start, starts_of}
use Rattle.edi_target.specs.Fetch.{fetch}
use Rattle.edi_target.specs.Op.{jump}
use Rattle.edi_scheme.specs.Code.{code_of}
use Rattle.edi_scheme.specs.Laws.{HaveParts}
use Rattle.edi_dump.specs.Frames.{block_of}

-- JUMPS STAY: in the code of a unit that fits, a JUMP that stands where an instruction starts leads to an address of its own block
abbrev pub JumpsStay : Type 0
JumpsStay =
    (unit : ProgramUnit) → Fits unit → HaveParts unit.types → (at target next : ℕ) → is_start (starts_of (code_of unit)) at ≡ true →
    fetch (code_of unit) at ≡ Some (jump target, next) → block_of (code_of unit) target ≡ block_of (code_of unit) at
