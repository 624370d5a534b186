-- The laws as proved.
use Rattle.edi_timed.proofs.on.Last.{stints_of_code_end}
use Rattle.edi_timed.proofs.on.One.{stints_end}
use Rattle.edi_timed.proofs.on.laws.stints_end.Goals as goal

pub returns : goal.returns
returns c = record { of_code = stints_of_code_end; of_execution = stints_end }
