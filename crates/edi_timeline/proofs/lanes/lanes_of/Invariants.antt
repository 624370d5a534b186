use Rattle.std.proofs.Common.{◌≡◌, ◌≤◌, [], drop, map, length}
use Rattle.edi_timeline.specs.Told.{process_in}
use Rattle.edi_timeline.proofs.Laned.{lanes_over}
use Rattle.edi_timeline.proofs.lanes.lanes_of.Given as goal

abbrev pub invariant-loop-row : goal.invariant-loop-row
invariant-loop-row l = record {
  lanes : lanes_over l.rows (map (process_in l.rows) l.lanes.items) (drop l.row-index l.few) ≡ lanes_over l.rows [] l.few;
  less : length l.lanes.items ≤ l.row-index;
}
