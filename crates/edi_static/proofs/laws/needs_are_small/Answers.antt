use Rattle.edi_static.proofs.Needs.{needs_are_small}
use Rattle.edi_static.proofs.laws.needs_are_small.Goals as goal

pub returns : goal.returns
returns c = record { law = needs_are_small }
