use Rattle.edi_target.proofs.Runs.{every_run_ends}
use Rattle.edi_target.proofs.laws.every_run_ends.Goals as goal

pub returns : goal.returns
returns c = record { law = every_run_ends }
