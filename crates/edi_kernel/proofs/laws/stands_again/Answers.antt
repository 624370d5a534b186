-- The law as proved.
use Rattle.edi_kernel.proofs.Again.{stands_again as again}
use Rattle.edi_kernel.proofs.laws.stands_again.Goals as goal

pub returns : goal.returns
returns c = record { law = again }
