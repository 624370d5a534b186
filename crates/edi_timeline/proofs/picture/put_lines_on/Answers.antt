use Rattle.std.proofs.Common.{ℕ, ◌∙◌, List, length, arith}
use Rattle.edi_timeline.specs.Stints.{Stint}
use Rattle.edi_timeline.specs.Told.{stints_before}
use Rattle.edi_timeline.proofs.Boxed.{line_goes, lines_done}
use Rattle.edi_timeline.proofs.picture.put_lines_on.Goals as goal

pub loop-lane-preserved : goal.loop-lane-preserved
loop-lane-preserved c = record {
  text =
      line_goes c.args.sheet.now.rows.now (length c.args.sheet.now.few.now)
      (stints_before c.args.sheet.now.ending c.args.sheet.now.rows.now c.args.sheet.now.few.now (length c.args.sheet.now.few.now))
      c.args.sheet.now.lanes.now c.loop-lane.lane _ c.loop-lane.out.items c.put_line_on.new.out.items c.loop-lane-test.true
      c.in_ok-put_line_on.ensures.exact
      ∙ c.loop-lane.invariant.text;
}

pub returns : goal.returns
returns c = record {
  exact =
      lines_done c.args.sheet.now.rows.now (length c.args.sheet.now.few.now)
      (stints_before c.args.sheet.now.ending c.args.sheet.now.rows.now c.args.sheet.now.few.now (length c.args.sheet.now.few.now))
      c.args.sheet.now.lanes.now c.loop-lane.lane c.loop-lane.out.items _ (omega (arith, c.loop-lane-test.false)) c.loop-lane.invariant.text;
}
