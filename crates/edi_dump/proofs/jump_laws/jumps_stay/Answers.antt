use Rattle.edi_dump.proofs.JumpsListed.{jumps_stay}
use Rattle.edi_dump.proofs.jump_laws.jumps_stay.Goals as goal

pub returns : goal.returns
returns c = record { law = jumps_stay }
