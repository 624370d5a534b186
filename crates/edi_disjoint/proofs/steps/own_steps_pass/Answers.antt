use Rattle.edi_disjoint.proofs.steps.Passing.{own_steps_pass}
use Rattle.edi_disjoint.proofs.steps.own_steps_pass.Goals as goal

pub returns : goal.returns
returns c = record { law = own_steps_pass }
