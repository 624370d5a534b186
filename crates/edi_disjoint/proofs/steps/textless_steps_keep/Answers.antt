use Rattle.edi_disjoint.proofs.steps.Textless.{textless_steps_keep}
use Rattle.edi_disjoint.proofs.steps.textless_steps_keep.Goals as goal

pub returns : goal.returns
returns c = record { law = textless_steps_keep }
