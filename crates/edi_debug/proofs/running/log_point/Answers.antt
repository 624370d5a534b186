use Rattle.std.proofs.Common.{◌-◌, refl}
use Rattle.edi_target.specs.Arrivals.{Arrived}
use Rattle.edi_debug.specs.Looking.{arrived_now}
use Rattle.edi_debug.specs.Points.{watched}
use Rattle.edi_debug.specs.stops.Watching.{sight_lines}
use Rattle.edi_debug.proofs.Logged.{grows_on}
use Rattle.edi_debug.proofs.Looks.{one_item, all_done}
use Rattle.edi_debug.proofs.running.log_point.Goals as goal

pub loop-sight-preserved : goal.loop-sight-preserved
loop-sight-preserved c = record {
  exact = λ unit bound mapped fits small.
      let y : Arrived = arrived_now c.args.kernel.now.store c.args.activity.now (bound - c.args.turns) in
      one_item (sight_lines unit bound y (watched c.args.point.now)) c.args.sights.now c.loop-sight.sight-index _ _ c.loop-sight.log c.log_sight.new.log _
      c.loop-sight-test.true refl
      (c.log_sight.ensures.exact unit bound mapped (fits c.loop-sight.sight-index _ c.loop-sight-test.true) small)
      (c.loop-sight.invariant.exact unit bound mapped fits small);
  grows = grows_on c.args.log.now c.loop-sight.log c.log_sight.new.log c.loop-sight.invariant.grows c.log_sight.ensures.grows;
}

pub returns : goal.returns
returns c = record {
  exact = λ unit bound mapped fits small.
      let y : Arrived = arrived_now c.args.kernel.now.store c.args.activity.now (bound - c.args.turns) in
      all_done (sight_lines unit bound y (watched c.args.point.now)) c.args.sights.now c.loop-sight.sight-index c.loop-sight.log _ c.loop-sight-test.false
      (c.loop-sight.invariant.exact unit bound mapped fits small);
  grows = c.loop-sight.invariant.grows;
}
