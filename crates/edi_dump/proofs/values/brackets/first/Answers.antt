use Rattle.edi_dump.proofs.valued.Sets.{first_of}
use Rattle.edi_dump.proofs.values.brackets.first.Goals as goal

pub returns : goal.returns
returns g c = record { exact = first_of c.args.most c.args.parts.now _ _ c.min.ensures c.split_at.ensures.front }
