use Rattle.edi_disjoint.proofs.One.{one_report}
use Rattle.edi_disjoint.proofs.laws.one_report.Goals as goal

pub returns : goal.returns
returns c = record { law = one_report }
