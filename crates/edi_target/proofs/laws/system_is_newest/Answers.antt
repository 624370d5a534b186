use Rattle.edi_target.proofs.Histories.{system_is_newest}
use Rattle.edi_target.proofs.laws.system_is_newest.Goals as goal

pub returns : goal.returns
returns c = record { law = system_is_newest }
