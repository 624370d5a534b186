use Rattle.std.proofs.Common.{◌≡◌, ◌+◌, ◌≤◌, drop}
use Rattle.edi_explain.specs.expected.Awaited.{ends_on}
use Rattle.edi_explain.proofs.expected.parser.ends_with.Given as goal

abbrev pub invariant-loop-number : goal.invariant-loop-number
invariant-loop-number l = record {
  few : l.many ≤ l.ends + l.number-index;
  same : ends_on (drop l.number-index l.numbers) l.many ≡ ends_on l.numbers l.ends;
}
