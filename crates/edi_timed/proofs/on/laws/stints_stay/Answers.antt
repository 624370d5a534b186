-- The law as proved.
use Rattle.edi_timed.proofs.on.One.{stints_stay}
use Rattle.edi_timed.proofs.on.laws.stints_stay.Goals as goal

pub returns : goal.returns
returns c = record { law = stints_stay }
