use Rattle.std.proofs.Common.{◌≡◌, [], drop, map}
use Rattle.edi_disjoint.specs.Openly.{use_of}
use Rattle.edi_runs.specs.explore.Openness.{variable_used}
use Rattle.edi_runs.specs.explore.Orders.{with_used}
use Rattle.edi_runs.proofs.explore.openness.first_uses.Given as goal

abbrev pub invariant-loop-one : goal.invariant-loop-one
invariant-loop-one l = record {
  list : with_used (map variable_used l.list.items) (map use_of (drop l.one-index l.uses)) ≡ with_used [] (map use_of l.uses);
}
