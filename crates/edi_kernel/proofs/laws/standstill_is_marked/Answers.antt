-- The law as proved.
use Rattle.edi_kernel.proofs.StandsStill.{standstill_is_marked}
use Rattle.edi_kernel.proofs.laws.standstill_is_marked.Goals as goal

pub returns : goal.returns
returns c = record { law = standstill_is_marked }
