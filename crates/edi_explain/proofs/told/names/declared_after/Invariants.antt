use Rattle.std.proofs.Common.{◌≡◌, ◌≤◌, ◌+◌, drop}
use Rattle.edi_explain.specs.told.Names.{declared_after, declared_from}
use Rattle.edi_explain.proofs.told.names.declared_after.Given as goal

abbrev pub invariant-loop-mark : goal.invariant-loop-mark
invariant-loop-mark l = record {
  few : l.depth ≤ l.mark-index + 262144;
  same : declared_from l.letters l.depth l.last (drop l.mark-index l.mark-items) ≡ declared_after l.letters l.marks l.index;
}
