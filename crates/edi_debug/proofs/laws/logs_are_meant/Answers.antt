use Rattle.edi_debug.proofs.Executions.{logs_are_meant}
use Rattle.edi_debug.proofs.laws.logs_are_meant.Goals as goal

pub returns : goal.returns
returns c = record { law = logs_are_meant }
