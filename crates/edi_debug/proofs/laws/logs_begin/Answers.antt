use Rattle.edi_debug.proofs.Executions.{logs_begin}
use Rattle.edi_debug.proofs.laws.logs_begin.Goals as goal

pub returns : goal.returns
returns c = record { law = logs_begin }
