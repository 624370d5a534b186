use Rattle.edi_utils.proofs.demonstrated.Accepted.{short_demonstrations_end}
use Rattle.edi_utils.proofs.demonstrated.short_demonstrations_end.Goals as goal

pub returns : goal.returns
returns c = record { law = short_demonstrations_end }
