use Rattle.edi_disjoint.proofs.steps.PlainSteps.{plain_steps_keep}
use Rattle.edi_disjoint.proofs.steps.plain_steps_keep.Goals as goal

pub returns : goal.returns
returns c = record { law = plain_steps_keep }
