use Rattle.edi_calls.proofs.Sound.{closed_files_are_found_all}
use Rattle.edi_calls.proofs.laws.closed_files_are_found.Goals as goal

pub returns : goal.returns
returns c = closed_files_are_found_all
