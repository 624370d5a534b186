use Rattle.std.proofs.Common.{◌≡◌, ◌+◌, drop, map}
use Rattle.edi_timeline.specs.Picture.{lane_of}
use Rattle.edi_timeline.specs.Told.{process_in}
use Rattle.edi_timeline.proofs.lanes.lane_of.Given as goal

abbrev pub invariant-loop-first : goal.invariant-loop-first
invariant-loop-first l = record {
  lane : l.lane + lane_of (map (process_in l.rows) (drop l.first-index l.lanes)) (process_in l.rows l.row)
      ≡ lane_of (map (process_in l.rows) l.lanes) (process_in l.rows l.row);
  number : l.lane ≡ l.first-index;
}
