use Rattle.std.proofs.Common.{◌-◌, All, sym, ap, subst, ◌∙◌}
use Rattle.edi_unit.specs.Lists.{list_items}
use Rattle.edi_target.specs.Arrivals.{Arrived}
use Rattle.edi_debug.specs.Looking.{arrived_now}
use Rattle.edi_debug.specs.Points.{watched}
use Rattle.edi_debug.specs.stops.Kept.{after_lines}
use Rattle.edi_debug.specs.stops.Stops.{each_in}
use Rattle.edi_debug.specs.stops.Seen.{SightFits, PointFits}
use Rattle.edi_debug.specs.stops.Watching.{sight_lines, point_lines}
use Rattle.edi_debug.proofs.Logged.{grows_on}
use Rattle.edi_debug.proofs.Looks.{one_item, all_done, each_map, all_mapped}
use Rattle.edi_debug.proofs.running.log_points.Goals as goal

pub loop-point-preserved : goal.loop-point-preserved
loop-point-preserved c = record {
  exact = λ unit bound mapped fits small.
      let y : Arrived = arrived_now c.args.kernel.now.store c.args.activity.now (bound - c.args.turns) in
      let fit : All (SightFits unit) (list_items c.point-item.result.sights) =
      subst (λ p. PointFits unit (watched p)) (sym c.point-item.is)
      (all_mapped (PointFits unit) watched c.args.points.now c.loop-point.point-index c.point-item.result fits c.loop-point-test.true) in
      one_item (λ p. point_lines unit bound y (watched p)) c.args.points.now c.loop-point.point-index c.point-item.result c.point-item.result
      c.loop-point.log c.log_point.new.log _ c.loop-point-test.true c.point-item.is
      (c.log_point.ensures.exact unit bound mapped (subst (All (SightFits unit)) (sym c.items-sights.ensures.exact) fit) small
      ∙ ap (λ ss. after_lines (each_in (sight_lines unit bound y (watched c.point-item.result)) ss) c.loop-point.log) c.items-sights.ensures.exact)
      (c.loop-point.invariant.exact unit bound mapped fits small);
  grows = grows_on c.args.log.now c.loop-point.log c.log_point.new.log c.loop-point.invariant.grows c.log_point.ensures.grows;
}

pub returns : goal.returns
returns c = record {
  exact = λ unit bound mapped fits small.
      let y : Arrived = arrived_now c.args.kernel.now.store c.args.activity.now (bound - c.args.turns) in
      all_done (λ p. point_lines unit bound y (watched p)) c.args.points.now c.loop-point.point-index c.loop-point.log _ c.loop-point-test.false
      (c.loop-point.invariant.exact unit bound mapped fits small)
      ∙ ap (λ l. after_lines l c.args.log.now) (sym (each_map (point_lines unit bound y) watched c.args.points.now));
  grows = c.loop-point.invariant.grows;
}
