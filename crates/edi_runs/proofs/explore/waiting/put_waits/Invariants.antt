use Rattle.std.proofs.Common.{◌≡◌, ◌++◌, drop, map}
use Rattle.edi_waits.specs.Told.{waiting_of}
use Rattle.edi_runs.specs.explore.Lines.{wait_lines}
use Rattle.edi_runs.proofs.explore.waiting.put_waits.Given as goal

abbrev pub invariant-loop-wait : goal.invariant-loop-wait
invariant-loop-wait l = record {
  text : l.out.items ++ wait_lines (map waiting_of (drop l.wait-index l.waits)) ≡ l.fn.out.items ++ wait_lines (map waiting_of l.waits);
}
