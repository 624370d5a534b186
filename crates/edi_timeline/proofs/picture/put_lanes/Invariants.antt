use Rattle.std.proofs.Common.{◌≡◌, ◌++◌, drop, map}
use Rattle.edi_timeline.specs.Told.{process_in}
use Rattle.edi_timeline.specs.Picture.{lane_names}
use Rattle.edi_timeline.proofs.picture.put_lanes.Given as goal

abbrev pub invariant-loop-lane : goal.invariant-loop-lane
invariant-loop-lane l = record {
  text : l.out.items ++ lane_names l.lane (map (process_in l.rows) (drop l.lane l.lanes))
      ≡ l.fn.out.items ++ lane_names 0 (map (process_in l.rows) l.lanes);
}
