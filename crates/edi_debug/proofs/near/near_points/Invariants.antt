use Rattle.std.proofs.Common.{ℕ, ◌<◌, get_or}
use Rattle.edi_unit.specs.Tree.{ProgramUnit}
use Rattle.edi_code.specs.Mapped.{IsMapped}
use Rattle.edi_debug.specs.declared.answer.Point.{Point}
use Rattle.edi_debug.specs.stops.Near.{TellsPoint}
use Rattle.edi_debug.specs.Points.{watched}
use Rattle.edi_debug.proofs.near.near_points.Given as goal

abbrev pub invariant-loop-point : goal.invariant-loop-point
invariant-loop-point l = record {
  tells : (unit : ProgramUnit) → IsMapped unit l.fn.mapped → (i : ℕ) (d : Point) → i < l.point-index →
      TellsPoint unit l.near (watched (get_or l.fn.points i d));
}
