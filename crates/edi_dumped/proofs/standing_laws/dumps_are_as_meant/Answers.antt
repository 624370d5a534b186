use Rattle.edi_dumped.proofs.StandingDumps.{dumps_are_as_meant}
use Rattle.edi_dumped.proofs.standing_laws.dumps_are_as_meant.Goals as goal

pub returns : goal.returns
returns c = record { law = dumps_are_as_meant }
