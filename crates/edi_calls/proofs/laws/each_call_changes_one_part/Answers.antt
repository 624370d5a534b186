use Rattle.edi_calls.proofs.Parts.{each_call_changes_one_part_all}
use Rattle.edi_calls.proofs.laws.each_call_changes_one_part.Goals as goal

pub returns : goal.returns
returns c = each_call_changes_one_part_all
