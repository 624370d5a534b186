use Rattle.edi_disjoint.proofs.steps.Inner.{without_open_uses}
use Rattle.edi_disjoint.proofs.steps.without_open_uses.Goals as goal

pub returns : goal.returns
returns c = record { law = without_open_uses }
