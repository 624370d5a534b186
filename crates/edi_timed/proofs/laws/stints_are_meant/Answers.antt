-- The law as proved.
use Rattle.edi_timed.proofs.meant.Meant.{stints_are_meant}
use Rattle.edi_timed.proofs.laws.stints_are_meant.Goals as goal

pub returns : goal.returns
returns c = record { law = stints_are_meant }
