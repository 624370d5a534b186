use Rattle.edi_unit.proofs.ZeroValues.{zero-is, zero_is_of}
use Rattle.edi_unit.proofs.laws.variables_start_in_their_type.Goals as goal

pub returns : goal.returns
returns c = record { exact = zero-is; within = zero_is_of }
