use Rattle.edi_dumped.proofs.Standing.{code_stands_as_meant}
use Rattle.edi_dumped.proofs.standing_laws.code_stands_as_meant.Goals as goal

pub returns : goal.returns
returns c = record { law = code_stands_as_meant }
