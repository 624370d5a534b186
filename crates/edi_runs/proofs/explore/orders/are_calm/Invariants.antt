use Rattle.std.proofs.Common.{◌≡◌, drop, map}
use Rattle.edi_runs.specs.explore.Explorations.{endings_in}
use Rattle.edi_runs.specs.explore.Orders as spec
use Rattle.edi_runs.specs.explore.Told.{reached_of}
use Rattle.edi_runs.proofs.explore.orders.are_calm.Given as goal

abbrev pub invariant-loop-one : goal.invariant-loop-one
invariant-loop-one l = record {
  calm : spec.are_calm (endings_in (map reached_of (drop l.one-index l.found))) ≡ spec.are_calm (endings_in (map reached_of l.found));
}
