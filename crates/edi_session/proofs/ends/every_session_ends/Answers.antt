use Rattle.edi_session.proofs.ends.Advancing.{every_session_ends}
use Rattle.edi_session.proofs.ends.every_session_ends.Goals as goal

pub returns : goal.returns
returns c = record { law = every_session_ends }
