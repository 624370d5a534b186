use Rattle.edi_target.proofs.Histories.{end_is_determined}
use Rattle.edi_target.proofs.laws.end_is_determined.Goals as goal

pub returns : goal.returns
returns c = record { law = end_is_determined }
