use Rattle.std.proofs.Common.{◌≡◌, replicate, None}
use Rattle.edi_image.proofs.stored.free_slots.Given as goal

abbrev pub invariant-loop-slot : goal.invariant-loop-slot
invariant-loop-slot l = l.files.items ≡ replicate l._slot None
