-- The first slot of the list is taken without a walk.
use Rattle.edi_kernel.proofs.Slots.{listed_below}
use Rattle.edi_kernel.proofs.table.Table.next.Goals as goal

pub returns-then-at-eq0-clause-was : goal.returns-then-at-eq0-clause-was
returns-then-at-eq0-clause-was c = rw c.if-at-eq0.true c.take_front.ensures.was

pub returns-then-at-eq0-clause-slot : goal.returns-then-at-eq0-clause-slot
returns-then-at-eq0-clause-slot c = listed_below _ 0 _ _ c.requires.sound c.take_front.ensures.was
