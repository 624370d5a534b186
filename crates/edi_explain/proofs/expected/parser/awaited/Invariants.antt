use Rattle.std.proofs.Common.{◌≡◌, drop}
use Rattle.edi_explain.specs.expected.Awaited.{ends_on}
use Rattle.edi_explain.proofs.expected.Reaching.{AwaitsRest}
use Rattle.edi_explain.proofs.expected.parser.awaited.Given as goal

abbrev pub invariant-loop-mark : goal.invariant-loop-mark
invariant-loop-mark l = record {
  awaits : AwaitsRest l.marks (drop l.mark-index l.marks) l.numbers.items;
  counted : l.ends ≡ ends_on l.numbers.items 0;
}
