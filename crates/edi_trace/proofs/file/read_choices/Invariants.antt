use Rattle.std.proofs.Common.{◌≤◌, length}
use Rattle.edi_trace.specs.Drawn.{most_kept}
use Rattle.edi_trace.proofs.Readings.{LinesStand}
use Rattle.edi_trace.proofs.file.read_choices.Given as goal

abbrev pub invariant-loop-rest : goal.invariant-loop-rest
invariant-loop-rest l = record {
  stands : LinesStand l.values.items l.rest l.fn.bytes;
  bound : length l.values.items ≤ most_kept;
}

abbrev pub decreases-loop-rest : goal.decreases-loop-rest
decreases-loop-rest l = length l.rest
