use Rattle.edi_target.proofs.Histories.{every_run_ends_through}
use Rattle.edi_target.proofs.laws.every_run_ends_through.Goals as goal

pub returns : goal.returns
returns c = record { law = every_run_ends_through }
