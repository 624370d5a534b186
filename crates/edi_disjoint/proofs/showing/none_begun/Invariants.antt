use Rattle.std.proofs.Common.{◌≡◌, []}
use Rattle.std.specs.Prelude.{map, replicate}
use Rattle.edi_disjoint.specs.Shown.{forks_here}
use Rattle.edi_disjoint.proofs.showing.none_begun.Given as goal

abbrev pub invariant-loop-block : goal.invariant-loop-block
invariant-loop-block l = map forks_here l.begun.items ≡ replicate l._block []
