use Rattle.std.proofs.Common.{◌∙◌, arith}
use Rattle.edi_timeline.specs.Told.{process_in}
use Rattle.edi_timeline.proofs.Laned.{lane_found, lane_next, lane_none}
use Rattle.edi_timeline.proofs.lanes.lane_of.Goals as goal

pub loop-first-preserved : goal.loop-first-preserved
loop-first-preserved c = record {
  lane =
      lane_next c.args.rows.now c.args.lanes.now (process_in c.args.rows.now c.args.row.now) c.loop-first.first-index _ c.loop-first.lane _ c.is_same.result
      c.loop-first-test.true c.is_same.ensures.exact c.if-is_same.false c.loop-first.invariant.lane;
  number = omega (arith, c.loop-first.invariant.number);
}

pub returns : goal.returns
returns c = record {
  exact =
      lane_none c.args.rows.now c.args.lanes.now (process_in c.args.rows.now c.args.row.now) c.loop-first.first-index c.loop-first.lane _
      (omega (arith, c.loop-first-test.false)) c.loop-first.invariant.lane;
}

pub returns-then-is_same : goal.returns-then-is_same
returns-then-is_same c = record {
  exact =
      lane_found c.args.rows.now c.args.lanes.now (process_in c.args.rows.now c.args.row.now) c.loop-first.first-index _ c.loop-first.lane _ c.is_same.result
      c.loop-first-test.true c.is_same.ensures.exact c.if-is_same.true c.loop-first.invariant.lane;
}
