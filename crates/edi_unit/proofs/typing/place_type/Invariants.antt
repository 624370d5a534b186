use Rattle.std.proofs.Common.{◌≡◌, drop}
use Rattle.std.specs.Prelude.{map}
use Rattle.edi_unit.specs.View.{parts, part_of}
use Rattle.edi_unit.specs.Need.{parts_type}
use Rattle.edi_unit.proofs.typing.place_type.Given as goal

abbrev pub invariant-loop-part : goal.invariant-loop-part
invariant-loop-part l = parts_type l.types l.of (parts (map part_of (drop l.part-index l.part-items))) ≡ parts_type l.types l.initial.of
    (parts (map part_of l.part-items))
