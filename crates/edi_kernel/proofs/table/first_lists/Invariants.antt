use Rattle.edi_kernel.proofs.Slots.{FreedTo}
use Rattle.edi_kernel.proofs.table.first_lists.Given as goal

abbrev pub invariant-loop-slot : goal.invariant-loop-slot
invariant-loop-slot l = FreedTo l.slot l.lists
