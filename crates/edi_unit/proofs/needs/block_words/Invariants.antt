use Rattle.std.proofs.Common.{◌≡◌, ◌≤◌, ◌+◌, drop}
use Rattle.std.specs.Prelude.{sum_by}
use Rattle.edi_unit.specs.Types.{size}
use Rattle.edi_unit.specs.Need.{limited, too_large, slot_words}
use Rattle.edi_unit.proofs.needs.block_words.Given as goal

abbrev pub invariant-loop-parameter : goal.invariant-loop-parameter
invariant-loop-parameter l = record {
  small : l.parameters ≤ too_large;
  words : limited (l.parameters + sum_by (slot_words l.types) (drop l.parameter-index l.parameter-items)) ≡ limited
      (sum_by (slot_words l.types) l.parameter-items);
}

abbrev pub invariant-loop-variable : goal.invariant-loop-variable
invariant-loop-variable l = record {
  small : l.variables ≤ too_large;
  words : limited (l.variables + sum_by (size l.types) (drop l.variable-index l.variable-items)) ≡ limited (sum_by (size l.types) l.variable-items);
}
