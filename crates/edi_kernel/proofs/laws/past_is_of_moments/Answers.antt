-- The law as proved.
use Rattle.edi_kernel.proofs.Passed.{past_is_of_moments}
use Rattle.edi_kernel.proofs.laws.past_is_of_moments.Goals as goal

pub returns : goal.returns
returns c = record { law = past_is_of_moments }
