use Rattle.std.proofs.Common.{◌≡◌, ℕ, ◌≤◌, ◌-◌, drop, map}
use Rattle.edi_unit.specs.Tree.{ProgramUnit}
use Rattle.edi_code.specs.Mapped.{IsMapped}
use Rattle.edi_debug.specs.Kept.{Grows}
use Rattle.edi_debug.specs.stops.Kept.{after_lines}
use Rattle.edi_debug.specs.stops.Stops.{each_in}
use Rattle.edi_debug.specs.stops.Seen.{PointsFit}
use Rattle.edi_debug.specs.stops.Watching.{point_lines}
use Rattle.edi_debug.specs.Points.{watched}
use Rattle.edi_debug.specs.Looking.{arrived_now}
use Rattle.edi_debug.proofs.running.log_points.Given as goal

abbrev pub invariant-loop-point : goal.invariant-loop-point
invariant-loop-point l = record {
  exact : (unit : ProgramUnit) (bound : ℕ) → IsMapped unit l.fn.mapped → PointsFit unit (map watched l.fn.points) → l.fn.turns ≤ bound →
      after_lines (each_in (λ p. point_lines unit bound (arrived_now l.fn.kernel.store l.fn.activity (bound - l.fn.turns)) (watched p))
      (drop l.point-index l.fn.points)) l.log
      ≡ after_lines (each_in (λ p. point_lines unit bound (arrived_now l.fn.kernel.store l.fn.activity (bound - l.fn.turns)) (watched p)) l.fn.points) l.fn.log;
  grows : Grows l.fn.log l.log;
}
