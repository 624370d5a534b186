use Rattle.std.proofs.Common.{◌≡◌, ◌≤◌, ◌*◌, take}
use Rattle.edi_calls.specs.State.{blocks_taken}
use Rattle.edi_memory.proofs.slots.blocks_taken.Given as goal

abbrev pub invariant-loop-slot : goal.invariant-loop-slot
invariant-loop-slot l = record {
  exact : l.taken ≡ blocks_taken (take l.slot-index l.slots);
  bound : l.taken ≤ 512 * l.slot-index;
}
