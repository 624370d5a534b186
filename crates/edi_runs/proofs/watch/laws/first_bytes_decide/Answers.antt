use Rattle.edi_runs.proofs.watch.Limited.{first_bytes_decide}
use Rattle.edi_runs.proofs.watch.laws.first_bytes_decide.Goals as goal

pub returns : goal.returns
returns c = record { law = first_bytes_decide }
