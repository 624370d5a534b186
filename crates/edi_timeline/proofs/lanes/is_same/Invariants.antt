use Rattle.std.proofs.Common.{◌≡◌, ◌≤◌, ◌+◌}
use Rattle.edi_calls.specs.Names.{same}
use Rattle.edi_timeline.specs.Told.{process_in}
use Rattle.edi_timeline.proofs.lanes.is_same.Given as goal

abbrev pub invariant-loop-level : goal.invariant-loop-level
invariant-loop-level l = record {
  same : same (process_in l.rows l.x) (process_in l.rows l.y) ≡ same (process_in l.rows l.one) (process_in l.rows l.other);
  level : l.x.born + l._level ≤ l.one.born;
}
