use Rattle.edi_target.proofs.Progress.{each_moves_up}
use Rattle.edi_target.proofs.laws.each_instruction_moves_up.Goals as goal

pub returns : goal.returns
returns c = record { law = each_moves_up }
