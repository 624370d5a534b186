use Rattle.edi_target.proofs.Runs.{runs_are_determined}
use Rattle.edi_target.proofs.laws.runs_are_determined.Goals as goal

pub returns : goal.returns
returns c = record { law = runs_are_determined }
