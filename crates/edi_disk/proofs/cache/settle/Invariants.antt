use Rattle.std.proofs.Common.{◌≡◌, ◌++◌, map, take, drop}
use Rattle.edi_disk.specs.Use.{settled_slot}
use Rattle.edi_disk.proofs.cache.settle.Given as goal

abbrev pub invariant-loop-slot : goal.invariant-loop-slot
invariant-loop-slot l = l.slots ≡ map settled_slot (take l.slot-index l.fn.slots) ++ drop l.slot-index l.fn.slots
