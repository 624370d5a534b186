use Rattle.std.proofs.Common.{◌≡◌, ◌+◌, ◌++◌, drop}
use Rattle.edi_disjoint.specs.Apart.{answer_of}
use Rattle.edi_disjoint.specs.Report.{pair_lines}
use Rattle.edi_disjoint.proofs.showing.put_pairs.Given as goal

abbrev pub invariant-loop-other : goal.invariant-loop-other
invariant-loop-other l = record {
  text : l.text.items ++ pair_lines (answer_of l.found) l.line l.i l.block (l.j + 1) (drop l.other-index l.others)
      ≡ l.fn.text.items ++ pair_lines (answer_of l.found) l.line l.i l.block (l.i + 1) l.others;
  number : l.j ≡ l.i + l.other-index;
}
