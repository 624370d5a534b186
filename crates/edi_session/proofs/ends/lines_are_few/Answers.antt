use Rattle.edi_session.proofs.ends.Advancing.{lines_are_few}
use Rattle.edi_session.proofs.ends.lines_are_few.Goals as goal

pub returns : goal.returns
returns c = record { law = lines_are_few }
