use Rattle.edi_static.proofs.nesting.Blocks.{units_are_shallow}
use Rattle.edi_static.proofs.nesting.units_are_shallow.Goals as goal

pub returns : goal.returns
returns c = record { law = units_are_shallow }
