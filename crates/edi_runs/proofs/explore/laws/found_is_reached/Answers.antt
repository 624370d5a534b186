use Rattle.edi_runs.proofs.explore.Runs.{found_is_reached}
use Rattle.edi_runs.proofs.explore.laws.found_is_reached.Goals as goal

pub returns : goal.returns
returns c = record { law = found_is_reached }
