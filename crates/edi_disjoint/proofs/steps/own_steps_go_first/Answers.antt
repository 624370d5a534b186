use Rattle.edi_disjoint.proofs.steps.First.{own_steps_go_first}
use Rattle.edi_disjoint.proofs.steps.own_steps_go_first.Goals as goal

pub returns : goal.returns
returns c = record { law = own_steps_go_first }
