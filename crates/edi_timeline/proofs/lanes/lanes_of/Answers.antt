use Rattle.std.proofs.Common.{arith, map}
use Rattle.edi_timeline.specs.Told.{process_in}
use Rattle.edi_timeline.proofs.Laned.{lanes_more, lanes_whole}
use Rattle.edi_timeline.proofs.lanes.lanes_of.Goals as goal

pub loop-row-preserved : goal.loop-row-preserved
loop-row-preserved c = record {
  lanes =
      lanes_more c.args.rows.now c.args.few.now c.loop-row.row-index _ (map (process_in c.args.rows.now) c.loop-row.lanes.items) _ _ c.loop-row-test.true
      c.in_ok-add_lane.ensures.exact c.loop-row.invariant.lanes;
  less = omega (arith, c.in_ok-add_lane.ensures.less, c.loop-row.invariant.less);
}

pub returns-clause-exact : goal.returns-clause-exact
returns-clause-exact c = λ e.
    lanes_whole c.args.rows.now c.args.few.now c.loop-row.row-index (map (process_in c.args.rows.now) c.loop-row.lanes.items)
    (omega (arith, c.loop-row-test.false)) c.loop-row.invariant.lanes e
