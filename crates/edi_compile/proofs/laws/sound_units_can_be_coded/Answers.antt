use Rattle.edi_compile.proofs.Meant.{sound_units_can_be_coded}
use Rattle.edi_compile.proofs.laws.sound_units_can_be_coded.Goals as goal

pub returns : goal.returns
returns c = record { law = sound_units_can_be_coded }
