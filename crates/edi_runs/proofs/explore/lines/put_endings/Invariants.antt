use Rattle.std.proofs.Common.{◌≡◌, ◌+◌, ◌++◌, drop, map}
use Rattle.edi_runs.specs.explore.Lines.{ending_lines}
use Rattle.edi_runs.specs.explore.Told.{reached_of}
use Rattle.edi_runs.proofs.explore.lines.put_endings.Given as goal

abbrev pub invariant-loop-found : goal.invariant-loop-found
invariant-loop-found l = record {
  text : l.out.items ++ ending_lines l.asks l.name l.most l.number (map reached_of (drop l.found-index l.endings))
      ≡ l.fn.out.items ++ ending_lines l.asks l.name l.most 1 (map reached_of l.endings);
  number : l.number ≡ l.found-index + 1;
}
