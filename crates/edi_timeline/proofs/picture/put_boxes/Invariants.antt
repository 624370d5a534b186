use Rattle.std.proofs.Common.{◌≡◌, ◌≤◌, ◌++◌, suc, drop, length, []}
use Rattle.edi_timeline.specs.Told.{used_before, stints_before, stints_in}
use Rattle.edi_timeline.specs.Picture.{boxes}
use Rattle.edi_timeline.specs.Sheet.{lanes_in}
use Rattle.edi_timeline.proofs.picture.put_boxes.Given as goal

abbrev pub invariant-loop-index : goal.invariant-loop-index
invariant-loop-index l = record {
  text : l.out.items
      ++ boxes (lanes_in l.sheet) (suc l.index) (stints_before l.sheet.ending l.sheet.rows.now l.sheet.few.now l.index)
      (stints_in l.sheet.ending l.sheet.rows.now (used_before l.sheet.few.now l.index) (drop l.index l.sheet.few.now))
      ≡ l.fn.out.items ++ boxes (lanes_in l.sheet) 1 [] (stints_in l.sheet.ending l.sheet.rows.now 0 l.sheet.few.now);
  within : l.index ≤ length l.sheet.few.now;
}
