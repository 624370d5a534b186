use Rattle.edi_unit.proofs.Tables.{size-is}
use Rattle.edi_unit.proofs.laws.sizes_follow_shapes.Goals as goal

pub returns : goal.returns
returns c = record { exact = size-is }
