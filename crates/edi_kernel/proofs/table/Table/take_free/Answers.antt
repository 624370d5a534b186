-- The slot was in the list of the free ones.
use Rattle.std.proofs.Common.{arith}
use Rattle.edi_kernel.proofs.Slots.{listed, listed_below}
use Rattle.edi_kernel.proofs.table.Table.take_free.Goals as goal

pub returns-clause-was : goal.returns-clause-was
returns-clause-was c = listed _ 1 _ _ c.requires.sound (omega arith) c.take_front.ensures.was

pub returns-clause-slot : goal.returns-clause-slot
returns-clause-slot c = listed_below _ 1 _ _ c.requires.sound c.take_front.ensures.was
