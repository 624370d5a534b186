use Rattle.edi_utils.proofs.demonstrated.Accepted.{demonstrations_end}
use Rattle.edi_utils.proofs.demonstrated.demonstrations_end.Goals as goal

pub returns : goal.returns
returns c = record { law = demonstrations_end }
