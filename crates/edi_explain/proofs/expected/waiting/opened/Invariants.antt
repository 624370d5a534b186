use Rattle.std.proofs.Common.{◌≡◌, drop}
use Rattle.edi_explain.specs.expected.Opened.{held_from, opened}
use Rattle.edi_explain.proofs.expected.waiting.opened.Given as goal

abbrev pub invariant-loop-mark : goal.invariant-loop-mark
invariant-loop-mark l = held_from l.held.items (drop l.mark-index l.marks) ≡ opened l.marks
