use Rattle.edi_statuses.proofs.AcceptedTexts.{texts_are_one}
use Rattle.edi_statuses.proofs.OneStatus.{one_status}
use Rattle.edi_statuses.proofs.laws.one_status.Goals as goal

pub returns : goal.returns
returns c = record { law = one_status texts_are_one }
