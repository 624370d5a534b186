use Rattle.edi_utils.proofs.InstructionNames.{each_instruction_is_named}
use Rattle.edi_utils.proofs.laws.each_instruction_is_named.Goals as goal

pub returns : goal.returns
returns c = record { law = each_instruction_is_named }
