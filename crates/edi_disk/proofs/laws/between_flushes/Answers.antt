use Rattle.edi_disk.proofs.Since.{between_unput, between_only}
use Rattle.edi_disk.proofs.laws.between_flushes.Goals as goal

pub returns : goal.returns
returns c = record { unput = between_unput; one_put = between_only }
