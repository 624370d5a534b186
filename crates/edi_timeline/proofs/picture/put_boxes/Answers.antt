use Rattle.std.proofs.Common.{◌≡◌, ◌∙◌, ℕ, List, arith, subst}
use Rattle.std.specs.Prelude.{OnOk}
use Rattle.edi_timeline.specs.Sheet.{lanes_in}
use Rattle.edi_timeline.proofs.Boxed.{box_on, boxes_done}
use Rattle.edi_timeline.proofs.picture.put_boxes.Goals as goal

pub loop-index-preserved : goal.loop-index-preserved
loop-index-preserved c = record {
  text =
      box_on c.args.sheet.now.ending c.args.sheet.now.rows.now c.args.sheet.now.few.now (lanes_in c.args.sheet.now) c.loop-index.index
      c.loop-index.out.items c.put_box.new.out.items c.loop-index-test.true c.in_ok-put_box.ensures.exact
      ∙ c.loop-index.invariant.text;
  within = omega (arith, c.loop-index-test.true);
}

pub returns : goal.returns
returns c = record {
  exact =
      subst (λ (l : List ℕ). OnOk c.put_lines_on.result (c.put_lines_on.new.out.items ≡ l))
      (boxes_done c.args.sheet.now.ending c.args.sheet.now.rows.now c.args.sheet.now.few.now (lanes_in c.args.sheet.now) c.loop-index.index
      c.loop-index.out.items _ (omega (arith, c.loop-index-test.false, c.loop-index.invariant.within)) c.loop-index.invariant.text)
      c.put_lines_on.ensures.exact;
}
