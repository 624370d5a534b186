use Rattle.edi_statuses.proofs.AcceptedTexts.{texts_are_one}
use Rattle.edi_statuses.proofs.OneStatus.{one_refusal}
use Rattle.edi_statuses.proofs.laws.one_refusal.Goals as goal

pub returns : goal.returns
returns c = record { law = one_refusal texts_are_one }
