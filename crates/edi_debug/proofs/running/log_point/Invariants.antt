use Rattle.std.proofs.Common.{◌≡◌, ℕ, ◌≤◌, ◌-◌, drop, All}
use Rattle.edi_unit.specs.Tree.{ProgramUnit}
use Rattle.edi_code.specs.Mapped.{IsMapped}
use Rattle.edi_debug.specs.Kept.{Grows}
use Rattle.edi_debug.specs.stops.Kept.{after_lines}
use Rattle.edi_debug.specs.stops.Stops.{each_in}
use Rattle.edi_debug.specs.stops.Seen.{SightFits}
use Rattle.edi_debug.specs.stops.Watching.{sight_lines}
use Rattle.edi_debug.specs.Points.{watched}
use Rattle.edi_debug.specs.Looking.{arrived_now}
use Rattle.edi_debug.proofs.running.log_point.Given as goal

abbrev pub invariant-loop-sight : goal.invariant-loop-sight
invariant-loop-sight l = record {
  exact : (unit : ProgramUnit) (bound : ℕ) → IsMapped unit l.fn.mapped → All (SightFits unit) l.fn.sights → l.fn.turns ≤ bound →
      after_lines (each_in (sight_lines unit bound (arrived_now l.fn.kernel.store l.fn.activity (bound - l.fn.turns)) (watched l.fn.point))
      (drop l.sight-index l.fn.sights)) l.log
      ≡ after_lines (each_in (sight_lines unit bound (arrived_now l.fn.kernel.store l.fn.activity (bound - l.fn.turns)) (watched l.fn.point)) l.fn.sights) l.fn.log;
  grows : Grows l.fn.log l.log;
}
