use Rattle.std.proofs.Common.{◌≡◌, ◌+◌, ◌++◌, drop}
use Rattle.std.specs.Prelude.{sum_by}
use Rattle.edi_unit.specs.Need.{slot_words}
use Rattle.edi_code.specs.Stored.{stored_from}
use Rattle.edi_code.proofs.stored.parameters_stored.Given as goal

abbrev pub invariant-loop-parameter : goal.invariant-loop-parameter
invariant-loop-parameter l = record {
  room : l.offset + sum_by (slot_words l.types) (drop l.parameter-index l.parameter-items) ≡ l.at + sum_by (slot_words l.types) l.parameter-items;
  put : l.out.items ++ stored_from l.types (drop l.parameter-index l.parameter-items) l.offset ≡ l.fn.out.items ++ stored_from l.types l.parameter-items l.at;
}
