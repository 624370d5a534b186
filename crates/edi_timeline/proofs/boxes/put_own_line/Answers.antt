use Rattle.std.proofs.Common.{◌≡◌, ◌++◌, ℕ, List, subst}
use Rattle.std.specs.Prelude.{OnOk}
use Rattle.edi_timeline.specs.Told.{process_in}
use Rattle.edi_timeline.specs.Sheet.{own_line}
use Rattle.edi_timeline.proofs.Boxed.{own_here, own_further}
use Rattle.edi_timeline.proofs.boxes.put_own_line.Goals as goal

pub returns-then-is_same : goal.returns-then-is_same
returns-then-is_same c = record {
  exact =
      subst (λ (o : List ℕ). OnOk c.put_line_back.result (c.put_line_back.new.out.items ≡ o ++ own_line c.args.sheet.now c.args.row.now c.args.columns))
      c.loop-back.invariant.same
      (subst (λ (l : List ℕ). OnOk c.put_line_back.result (c.put_line_back.new.out.items ≡ c.loop-back.out.items ++ l))
      (own_here c.args.sheet.now.ending c.args.sheet.now.rows.now c.args.sheet.now.few.now (process_in c.args.sheet.now.rows.now c.args.row.now)
      c.args.columns c.loop-back.back c.loop-back-test.true c.row_at-before.result c.row_at-before.ensures.exact c.is_same.result c.is_same.ensures.exact
      c.if-is_same.true c.loop-back.invariant.line)
      c.put_line_back.ensures.exact);
}

pub loop-back-preserved : goal.loop-back-preserved
loop-back-preserved c = record {
  same = c.loop-back.invariant.same;
  line =
      own_further c.args.sheet.now.ending c.args.sheet.now.rows.now c.args.sheet.now.few.now (process_in c.args.sheet.now.rows.now c.args.row.now)
      c.args.columns c.loop-back.back c.loop-back-test.true c.row_at-before.result c.row_at-before.ensures.exact c.is_same.result c.is_same.ensures.exact
      c.if-is_same.false c.loop-back.invariant.line;
}
