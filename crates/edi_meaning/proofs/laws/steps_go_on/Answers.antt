use Rattle.edi_meaning.proofs.Going.{steps_go_on}
use Rattle.edi_meaning.proofs.laws.steps_go_on.Goals as goal

pub returns : goal.returns
returns c = record { law = steps_go_on }
