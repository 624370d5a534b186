use Rattle.std.proofs.Common.{◌≡◌, ◌+◌, ◌≤◌, drop, map}
use Rattle.edi_runs.specs.explore.Lines.{others_in}
use Rattle.edi_runs.specs.explore.Told.{reached_of}
use Rattle.edi_runs.proofs.explore.summary.others_in.Given as goal

abbrev pub invariant-loop-found : goal.invariant-loop-found
invariant-loop-found l = record {
  count : l.others + others_in (map reached_of (drop l.found-index l.endings)) ≡ others_in (map reached_of l.endings);
  few : l.others ≤ l.found-index;
}
