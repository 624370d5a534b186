use Rattle.std.proofs.Common.{◌≡◌, ◌+◌, drop}
use Rattle.std.specs.Prelude.{sum_by}
use Rattle.edi_unit.specs.Types.{size}
use Rattle.edi_code.proofs.pieces.declared_words.Given as goal

abbrev pub invariant-loop-variable : goal.invariant-loop-variable
invariant-loop-variable l = l.words + sum_by (size l.types) (drop l.variable-index l.variable-items) ≡ sum_by (size l.types) l.variable-items
