use Rattle.std.proofs.Common.{◌∙◌, suc, arith}
use Rattle.edi_timeline.proofs.Counting.{line_on, all_lines}
use Rattle.edi_timeline.proofs.text.lines_of.Goals as goal

pub loop-row-preserved : goal.loop-row-preserved
loop-row-preserved c = record {
  text =
      line_on c.args.ending c.args.rows.now c.loop-row.used c.loop-row.number c.loop-row.row-index _ c.loop-row.out.items c.put_line.new.out.items
      c.loop-row-test.true c.in_ok-put_line.ensures.exact
      ∙ c.loop-row.invariant.text;
  number = omega (arith, c.loop-row.invariant.number);
}

pub returns : goal.returns
returns c = record {
  exact =
      all_lines c.args.ending c.args.rows.now c.loop-row.used (suc c.loop-row.number) c.loop-row.row-index c.loop-row.out.items
      (omega (arith, c.loop-row-test.false)) c.loop-row.invariant.text;
}
