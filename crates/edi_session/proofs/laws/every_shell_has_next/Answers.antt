use Rattle.edi_session.proofs.Total.{goes_on}
use Rattle.edi_session.proofs.laws.every_shell_has_next.Goals as goal

pub returns : goal.returns
returns c = record { law = λ bound choices s. let n = goes_on bound choices s in (n.0, n.1) }
