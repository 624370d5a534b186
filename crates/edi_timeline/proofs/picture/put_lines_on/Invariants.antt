use Rattle.std.proofs.Common.{◌≡◌, ◌++◌, drop, length, map}
use Rattle.edi_timeline.specs.Told.{process_in, stints_before}
use Rattle.edi_timeline.specs.Picture.{lines_on}
use Rattle.edi_timeline.specs.Sheet.{lines_on_in}
use Rattle.edi_timeline.proofs.picture.put_lines_on.Given as goal

abbrev pub invariant-loop-lane : goal.invariant-loop-lane
invariant-loop-lane l = record {
  text : l.out.items
      ++ lines_on (length l.sheet.few.now) l.lane (map (process_in l.sheet.rows.now) (drop l.lane l.sheet.lanes.now))
      (stints_before l.sheet.ending l.sheet.rows.now l.sheet.few.now (length l.sheet.few.now))
      ≡ l.fn.out.items ++ lines_on_in l.sheet;
}
