use Rattle.edi_statuses.proofs.always.Law.{some_step}
use Rattle.edi_statuses.proofs.laws.some_step.Goals as goal

pub returns : goal.returns
returns c = record { law = some_step }
