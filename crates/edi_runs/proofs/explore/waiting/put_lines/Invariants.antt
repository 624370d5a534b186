use Rattle.std.proofs.Common.{◌≡◌, ◌++◌, true, drop}
use Rattle.edi_runs.specs.explore.Lines.{lines_text}
use Rattle.edi_runs.proofs.explore.waiting.put_lines.Given as goal

abbrev pub invariant-loop-line : goal.invariant-loop-line
invariant-loop-line l = record {
  text : l.out.items ++ lines_text l.first (drop l.line-index l.lines) ≡ l.fn.out.items ++ lines_text true l.lines;
}
