-- The law as proved.
use Rattle.edi_timed.proofs.meant.Meant.{stints_begin}
use Rattle.edi_timed.proofs.laws.stints_begin.Goals as goal

pub returns : goal.returns
returns c = record { law = stints_begin }
