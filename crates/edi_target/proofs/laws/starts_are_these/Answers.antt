-- The law as proved.
use Rattle.edi_target.proofs.Starting.{starts_are_these}
use Rattle.edi_target.proofs.laws.starts_are_these.Goals as goal

pub returns : goal.returns
returns c = record { law = starts_are_these }
