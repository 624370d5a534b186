use Rattle.std.proofs.Common.{◌≡◌, replicate, None}
use Rattle.edi_memory.proofs.memory.free_slots.Given as goal

abbrev pub invariant-loop-index : goal.invariant-loop-index
invariant-loop-index l = l.slots.items ≡ replicate l._index None
