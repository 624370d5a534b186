use Rattle.std.proofs.Common.{◌≡◌}
use Rattle.edi_explain.specs.expected.Advances.{Leads}
use Rattle.edi_explain.specs.expected.Awaited.{ends_on, waits}
use Rattle.edi_explain.proofs.expected.Costs.{cost}
use Rattle.edi_explain.proofs.expected.parser.advance.Given as goal

abbrev pub invariant-loop-number : goal.invariant-loop-number
invariant-loop-number l = record {
  leads : Leads (waits l.fn.numbers.items) (waits l.numbers.items) l.kind;
  counted : l.ends ≡ ends_on l.numbers.items 0;
}

abbrev pub decreases-loop-number : goal.decreases-loop-number
decreases-loop-number l = cost (waits l.numbers.items)
