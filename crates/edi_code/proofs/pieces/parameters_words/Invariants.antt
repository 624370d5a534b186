use Rattle.std.proofs.Common.{◌≡◌, ◌+◌, drop}
use Rattle.std.specs.Prelude.{sum_by}
use Rattle.edi_unit.specs.Need.{slot_words}
use Rattle.edi_code.proofs.pieces.parameters_words.Given as goal

abbrev pub invariant-loop-parameter : goal.invariant-loop-parameter
invariant-loop-parameter l = l.words + sum_by (slot_words l.types) (drop l.parameter-index l.parameter-items) ≡ sum_by (slot_words l.types) l.parameter-items
