use Rattle.std.proofs.Common.{◌≡◌, drop, length}
use Rattle.edi_unit.specs.Values.{same_value, same_values}
use Rattle.edi_walk.specs.Data.{value_of}
use Rattle.edi_walk.proofs.SameParts.{seen}
use Rattle.edi_walk.proofs.operators.+same.Given as goal

abbrev pub invariant-loop-part : goal.invariant-loop-part
invariant-loop-part l = record {
  at : l.index ≡ l.part-index;
  lengths : length l.part-items ≡ length l.others;
  rest : same_values (seen (drop l.part-index l.part-items)) (seen (drop l.part-index l.others)) ≡ same_value (value_of l.one) (value_of l.other);
}
