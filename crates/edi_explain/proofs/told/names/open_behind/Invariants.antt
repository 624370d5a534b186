use Rattle.std.proofs.Common.{◌≡◌, ◌≤◌, drop}
use Rattle.edi_explain.specs.told.Names.{open_behind}
use Rattle.edi_explain.proofs.told.names.open_behind.Given as goal

abbrev pub invariant-loop-mark : goal.invariant-loop-mark
invariant-loop-mark l = record {
  few : l.depth ≤ l.mark-index;
  same : open_behind l.depth (drop l.mark-index l.marks) ≡ open_behind 0 l.marks;
}
