use Rattle.edi_timed.proofs.on.One.{timelines_are_one}
use Rattle.edi_statuses.proofs.AcceptedTexts.{texts_are_one}
use Rattle.edi_statuses.proofs.OneEnd.{one_end}
use Rattle.edi_statuses.proofs.laws.one_end.Goals as goal

pub returns : goal.returns
returns c = record { law = one_end texts_are_one timelines_are_one }
