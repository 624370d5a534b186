use Rattle.std.proofs.Common.{◌≡◌, ◌≤◌, drop}
use Rattle.edi_explain.specs.expected.Awaited.{levels_on}
use Rattle.edi_explain.proofs.expected.parser.levels_in.Given as goal

abbrev pub invariant-loop-number : goal.invariant-loop-number
invariant-loop-number l = record {
  few : l.levels ≤ l.number-index;
  same : levels_on (drop l.number-index l.numbers) l.levels ≡ levels_on l.numbers 0;
}
