use Rattle.edi_session.proofs.ends.Differing.{goes_differ}
use Rattle.edi_session.proofs.ends.sessions_differ_in_these.Goals as goal

pub returns : goal.returns
returns c = record { law = goes_differ }
