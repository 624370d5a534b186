use Rattle.edi_meaning.proofs.Selections.{selections_are_determined}
use Rattle.edi_meaning.proofs.laws.selections_are_determined.Goals as goal

pub returns : goal.returns
returns c = record { law = selections_are_determined }
