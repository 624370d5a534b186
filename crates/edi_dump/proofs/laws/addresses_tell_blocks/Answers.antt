use Rattle.edi_dump.proofs.Located.{addresses_tell_blocks}
use Rattle.edi_dump.proofs.laws.addresses_tell_blocks.Goals as goal

pub returns : goal.returns
returns c = record { law = addresses_tell_blocks }
