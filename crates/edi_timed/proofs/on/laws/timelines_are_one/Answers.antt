-- The law as proved.
use Rattle.edi_timed.proofs.on.One.{timelines_are_one}
use Rattle.edi_timed.proofs.on.laws.timelines_are_one.Goals as goal

pub returns : goal.returns
returns c = record { law = timelines_are_one }
