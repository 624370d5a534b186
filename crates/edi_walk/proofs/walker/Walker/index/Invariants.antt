use Rattle.std.proofs.Common.{◌≡◌}
use Rattle.edi_walk.proofs.Livings.{PassedBy}
use Rattle.edi_walk.proofs.walker.Walker.index.Given as goal

abbrev pub invariant-loop-process : goal.invariant-loop-process
invariant-loop-process l = record {
  at : l.index ≡ l.process-index;
  passed : PassedBy l.name l.process-index l.process-items;
}
