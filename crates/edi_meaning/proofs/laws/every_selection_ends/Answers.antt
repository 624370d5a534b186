use Rattle.edi_meaning.proofs.Selections.{every_selection_ends}
use Rattle.edi_meaning.proofs.laws.every_selection_ends.Goals as goal

pub returns : goal.returns
returns c = record { law = every_selection_ends }
