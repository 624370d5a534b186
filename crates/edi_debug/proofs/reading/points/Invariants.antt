use Rattle.std.proofs.Common.{◌≤◌, length, map}
use Rattle.edi_tree.specs.Whole.{program_of}
use Rattle.edi_debug.specs.Points.{watched}
use Rattle.edi_debug.proofs.Files.{PointsStand}
use Rattle.edi_debug.proofs.reading.points.Given as goal

abbrev pub invariant-loop-rest : goal.invariant-loop-rest
invariant-loop-rest l = record {
  stands : PointsStand (program_of l.fn.tree) (map watched l.items.items) l.rest l.fn.bytes;
  bound : length l.items.items ≤ 64;
}

abbrev pub decreases-loop-rest : goal.decreases-loop-rest
decreases-loop-rest l = length l.rest
