use Rattle.std.proofs.Common.{◌≡◌, ◌≤◌, ◌+◌, ◌*◌, ◌++◌, drop}
use Rattle.std.specs.Prelude.{map, replicate}
use Rattle.edi_unit.specs.Values.{zero_value}
use Rattle.edi_walk.specs.Data.{value_of}
use Rattle.edi_walk.proofs.zero.+zeros.Given as goal

abbrev pub decreases-zero : goal.decreases-zero
decreases-zero l = 2 * l.t + 1

abbrev pub decreases-zero_record : goal.decreases-zero_record
decreases-zero_record l = 2 * l.t

abbrev pub decreases-zero_array : goal.decreases-zero_array
decreases-zero_array l = 2 * l.t

abbrev pub invariant-zero_record-loop-field : goal.invariant-zero_record-loop-field
invariant-zero_record-loop-field l =
    map value_of l.parts.items ++ map (zero_value l.types) (drop l.field-index l.field-items) ≡ map (zero_value l.types) l.field-items

abbrev pub invariant-zero_array-loop-index : goal.invariant-zero_array-loop-index
invariant-zero_array-loop-index l = record {
  inside : l._index ≤ l.count;
  parts : map value_of l.parts.items ≡ replicate l._index (zero_value l.types l.element);
}
