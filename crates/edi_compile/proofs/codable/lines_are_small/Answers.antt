use Rattle.edi_compile.proofs.codable.Following.{lines_are_small}
use Rattle.edi_compile.proofs.codable.lines_are_small.Goals as goal

pub returns : goal.returns
returns c = record { law = lines_are_small }
