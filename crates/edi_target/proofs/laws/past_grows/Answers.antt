use Rattle.edi_target.proofs.Histories.{past_grows}
use Rattle.edi_target.proofs.laws.past_grows.Goals as goal

pub returns : goal.returns
returns c = record { law = past_grows }
