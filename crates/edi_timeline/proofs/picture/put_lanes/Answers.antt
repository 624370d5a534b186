use Rattle.std.proofs.Common.{◌∙◌, arith}
use Rattle.edi_timeline.proofs.Boxed.{name_on, names_done}
use Rattle.edi_timeline.proofs.picture.put_lanes.Goals as goal

pub loop-lane-preserved : goal.loop-lane-preserved
loop-lane-preserved c = record {
  text =
      name_on c.args.rows.now c.args.lanes.now c.loop-lane.lane _ c.loop-lane.out.items c.put_lane.new.out.items c.loop-lane-test.true
      c.in_ok-put_lane.ensures.exact
      ∙ c.loop-lane.invariant.text;
}

pub returns : goal.returns
returns c = record {
  exact =
      names_done c.args.rows.now c.args.lanes.now c.loop-lane.lane c.loop-lane.out.items _ (omega (arith, c.loop-lane-test.false)) c.loop-lane.invariant.text;
}
