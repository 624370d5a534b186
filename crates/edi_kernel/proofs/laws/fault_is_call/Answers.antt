-- The law as proved.
use Rattle.edi_kernel.proofs.Passed.{fault_is_call}
use Rattle.edi_kernel.proofs.laws.fault_is_call.Goals as goal

pub returns : goal.returns
returns c = record { law = fault_is_call }
