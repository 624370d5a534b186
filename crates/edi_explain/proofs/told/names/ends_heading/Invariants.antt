use Rattle.std.proofs.Common.{◌≡◌, ◌≤◌, ◌+◌, drop}
use Rattle.edi_explain.specs.told.Names.{ends_heading}
use Rattle.edi_explain.proofs.told.names.ends_heading.Given as goal

abbrev pub invariant-loop-mark : goal.invariant-loop-mark
invariant-loop-mark l = record {
  few : l.depth ≤ l.mark-index + 1;
  same : ends_heading l.depth (drop l.mark-index l.marks) ≡ ends_heading 1 l.marks;
}
