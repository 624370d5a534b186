use Rattle.std.proofs.Common.{◌∙◌, ap}
use Rattle.edi_edit.specs.Steps.{plain}
use Rattle.edi_edit.proofs.Single.{plain-remove, plain-insert, plain-set}
use Rattle.edi_edit.proofs.list.take_step.Goals as goal
use Rattle.edi_edit.proofs.list.take_step.Goals.{in-Remove, in-Put, in-Insert+in_default}

pub returns-clause-ok : goal.returns-clause-ok
returns-clause-ok c =
    elim c.match-step.branch [
      | in-Remove w ↦ rw (w.lines-is, w.in-Remove.is) (ap plain w.remove.ensures.items ∙ plain-remove _ _)
      | in-Put w ↦ rw (w.lines-is, w.in-Put.is) (plain-set _ _ _)
      | in-Insert+in_default w ↦ rw (w.lines-is, w.in-Insert.is) (ap plain w.in_default.ensures.items ∙ plain-insert _ _ _)
    ]
