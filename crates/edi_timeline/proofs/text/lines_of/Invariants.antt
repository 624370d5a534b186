use Rattle.std.proofs.Common.{◌≡◌, suc, ◌++◌, drop}
use Rattle.edi_timeline.specs.Text.{lines_text}
use Rattle.edi_timeline.specs.Told.{stints_in}
use Rattle.edi_timeline.proofs.text.lines_of.Given as goal

abbrev pub invariant-loop-row : goal.invariant-loop-row
invariant-loop-row l = record {
  text : l.out.items ++ lines_text (suc l.number) (stints_in l.ending l.rows l.used (drop l.row-index l.rows))
      ≡ lines_text 1 (stints_in l.ending l.rows 0 l.rows);
  number : l.number ≡ l.row-index;
}
