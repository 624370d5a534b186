use Rattle.std.proofs.Common.{◌≡◌, take}
use Rattle.std.specs.Prelude.{sum_by}
use Rattle.edi_unit.specs.Types.{shape_at, fields_of, size}
use Rattle.edi_code.proofs.pieces.added_field_offset.Given as goal

abbrev pub invariant-loop-before : goal.invariant-loop-before
invariant-loop-before l = l.words ≡ sum_by (size l.types) (take l.before (fields_of (shape_at l.types l.of)))
