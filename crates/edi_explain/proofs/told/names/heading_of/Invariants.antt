use Rattle.std.proofs.Common.{◌≡◌, ◌≤◌, length}
use Rattle.edi_explain.specs.told.Names.{heading_of}
use Rattle.edi_explain.proofs.told.names.heading_of.Given as goal

abbrev pub invariant-loop-rest : goal.invariant-loop-rest
invariant-loop-rest l = record {
  few : length l.rest ≤ length l.marks;
  same : heading_of l.rest ≡ heading_of l.marks;
}

abbrev pub decreases-loop-rest : goal.decreases-loop-rest
decreases-loop-rest l = length l.rest
