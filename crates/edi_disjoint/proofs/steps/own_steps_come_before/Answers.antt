use Rattle.edi_disjoint.proofs.steps.Leading.{own_steps_come_before}
use Rattle.edi_disjoint.proofs.steps.own_steps_come_before.Goals as goal

pub returns : goal.returns
returns c = record { law = own_steps_come_before }
