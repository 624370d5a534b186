use Rattle.edi_dumped.proofs.Held.{lines_are_of_instances}
use Rattle.edi_dumped.proofs.laws.lines_are_of_instances.Goals as goal

pub returns : goal.returns
returns c = record { law = lines_are_of_instances }
