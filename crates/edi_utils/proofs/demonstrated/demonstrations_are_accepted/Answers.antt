use Rattle.edi_utils.proofs.demonstrated.Accepted.{demonstrations_are_accepted}
use Rattle.edi_utils.proofs.demonstrated.demonstrations_are_accepted.Goals as goal

pub returns : goal.returns
returns c = record { law = demonstrations_are_accepted }
