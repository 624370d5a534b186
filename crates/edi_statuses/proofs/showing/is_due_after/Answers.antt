use Rattle.std.proofs.Common.{sym}
use Rattle.edi_statuses.proofs.Due.{due_by_last}
use Rattle.edi_statuses.proofs.showing.is_due_after.Goals as goal

pub returns-in-Some : goal.returns-in-Some
returns-in-Some c =
    record { exact = sym (due_by_last c.args.due c.args.bytes.now c.in-Some.byte.now (sym c.in-Some.ensures.value)) }
