use Rattle.edi_calls.proofs.Spelling.{titles_are_spelled}
use Rattle.edi_calls.proofs.laws.titles_are_spelled.Goals as goal

pub returns : goal.returns
returns c = titles_are_spelled
