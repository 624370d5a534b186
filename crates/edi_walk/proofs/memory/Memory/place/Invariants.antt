use Rattle.std.proofs.Common.{◌≡◌}
use Rattle.edi_walk.proofs.Entries.{Passed}
use Rattle.edi_walk.proofs.memory.Memory.place.Given as goal

abbrev pub invariant-loop-entry : goal.invariant-loop-entry
invariant-loop-entry l = record {
  at : l.place ≡ l.entry-index;
  passed : Passed l.name l.entry-index l.entry-items;
}
