use Rattle.std.proofs.Common.{◌≤◌, drop}
use Rattle.edi_syntax.proofs.Waiting.{Waits}
use Rattle.edi_syntax.proofs.inside.is_in_begin.Given as goal

abbrev pub invariant-loop-mark : goal.invariant-loop-mark
invariant-loop-mark l = record {
  waits : Waits l.count (drop l.mark-index l.marks) l.marks;
  few : l.count ≤ l.mark-index;
}
