use Rattle.std.proofs.Common.{◌≡◌, ◌+◌, ◌++◌, drop}
use Rattle.std.specs.Prelude.{map, sum_by}
use Rattle.edi_unit.specs.declared.units.Parameter.TheVariants as slot
use Rattle.edi_unit.specs.Types.{size}
use Rattle.edi_code.specs.Stored.{stored_from}
use Rattle.edi_code.proofs.stored.declared_stored.Given as goal

abbrev pub invariant-loop-of : goal.invariant-loop-of
invariant-loop-of l = record {
  room : l.offset + sum_by (size l.types) (drop l.of-index l.of-items) ≡ l.at + sum_by (size l.types) l.of-items;
  put : l.out.items ++ stored_from l.types (map slot.Value (drop l.of-index l.of-items)) l.offset ≡ l.fn.out.items
      ++ stored_from l.types (map slot.Value l.of-items) l.at;
}
