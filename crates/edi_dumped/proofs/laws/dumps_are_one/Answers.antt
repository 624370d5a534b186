use Rattle.edi_dumped.proofs.One.{dumps_are_one}
use Rattle.edi_dumped.proofs.laws.dumps_are_one.Goals as goal

pub returns : goal.returns
returns c = record { law = dumps_are_one }
