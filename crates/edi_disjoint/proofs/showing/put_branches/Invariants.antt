use Rattle.std.proofs.Common.{◌≡◌, ◌+◌, ◌++◌, length}
use Rattle.edi_disjoint.specs.Apart.{answer_of}
use Rattle.edi_disjoint.specs.Report.{branch_lines}
use Rattle.edi_disjoint.proofs.showing.put_branches.Given as goal

abbrev pub invariant-loop-rest : goal.invariant-loop-rest
invariant-loop-rest l = record {
  text : l.text.items ++ branch_lines (answer_of l.found) l.line (l.i + 1) l.rest ≡ l.fn.text.items ++ branch_lines (answer_of l.found) l.line 1 l.branches;
  number : l.i + length l.rest ≡ length l.branches;
}

abbrev pub decreases-loop-rest : goal.decreases-loop-rest
decreases-loop-rest l = length l.rest
