use Rattle.std.proofs.Common.{◌≡◌, drop}
use Rattle.edi_static.specs.Waiting as spec
use Rattle.edi_static.proofs.splits.first_line.Given as goal

abbrev pub invariant-loop-row : goal.invariant-loop-row
invariant-loop-row l = record { left : spec.first_of (spec.waiting (drop l.row-index l.rows)) ≡ spec.first_of (spec.waiting l.rows) }
