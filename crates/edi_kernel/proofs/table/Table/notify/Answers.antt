-- A process that is notified waits for one child less, or is ready.
use Rattle.std.proofs.Common.{refl}
use Rattle.edi_kernel.proofs.Slots.{notifies_last, notifies_more, notifies_other}
use Rattle.edi_kernel.proofs.table.Table.notify.Goals as goal

pub returns-then-children-le1 : goal.returns-then-children-le1
returns-then-children-le1 c = notifies_last _ _ _ _ _ c.in-Waiting.is c.if-children-le1.true c.put.ensures

pub returns-else-children-le1 : goal.returns-else-children-le1
returns-else-children-le1 c = notifies_more _ _ _ _ _ c.in-Waiting.is c.if-children-le1.false refl

pub returns-in_default : goal.returns-in_default
returns-in_default c = notifies_other _ _ _ c.in_default.not-Waiting
