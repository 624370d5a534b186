use Rattle.edi_session.proofs.ends.Differing.{one_effect}
use Rattle.edi_session.proofs.ends.one_effect.Goals as goal

pub returns : goal.returns
returns c = record { law = one_effect }
