use Rattle.edi_dumped.proofs.Chained.{frames_are_instances}
use Rattle.edi_dumped.proofs.laws.frames_are_instances.Goals as goal

pub returns : goal.returns
returns c = record { law = frames_are_instances }
