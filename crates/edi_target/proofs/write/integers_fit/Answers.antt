use Rattle.edi_target.proofs.Plain.{no_integers}
use Rattle.edi_target.proofs.write.integers_fit.Goals as goal

pub returns-in_default : goal.returns-in_default
returns-in_default c = no_integers _ c.in_default.not-Index c.in_default.not-Check
