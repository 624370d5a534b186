-- The law as proved.
use Rattle.edi_kernel.proofs.Passed.{fault_is_moment}
use Rattle.edi_kernel.proofs.laws.fault_is_moment.Goals as goal

pub returns : goal.returns
returns c = record { law = fault_is_moment }
