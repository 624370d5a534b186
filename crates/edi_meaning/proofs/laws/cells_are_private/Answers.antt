use Rattle.edi_meaning.proofs.Private.{cells_are_private}
use Rattle.edi_meaning.proofs.laws.cells_are_private.Goals as goal

pub returns : goal.returns
returns c = record { law = cells_are_private }
