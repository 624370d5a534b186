use Rattle.edi_statuses.proofs.Closing.{lines_end}
use Rattle.edi_statuses.proofs.laws.lines_end.Goals as goal

pub returns : goal.returns
returns c = record { law = lines_end }
