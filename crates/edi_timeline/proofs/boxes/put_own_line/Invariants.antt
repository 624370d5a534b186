use Rattle.std.proofs.Common.{◌≡◌, suc, ◌-◌}
use Rattle.edi_timeline.specs.Told.{process_in, stints_before}
use Rattle.edi_timeline.specs.Picture.{line_of}
use Rattle.edi_timeline.specs.Sheet.{own_line}
use Rattle.edi_timeline.proofs.boxes.put_own_line.Given as goal

abbrev pub invariant-loop-back : goal.invariant-loop-back
invariant-loop-back l = record {
  same : l.out.items ≡ l.fn.out.items;
  line : line_of (process_in l.sheet.rows.now l.row) (suc l.back)
      (stints_before l.sheet.ending l.sheet.rows.now l.sheet.few.now (l.columns - l.back))
      ≡ own_line l.sheet l.row l.columns;
}
