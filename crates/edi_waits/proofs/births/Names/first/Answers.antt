-- At each slot stands what the first process is.
use Rattle.edi_waits.proofs.Naming.{none_born}
use Rattle.edi_waits.proofs.births.Names.first.Goals as goal

pub returns-clause-births : goal.returns-clause-births
returns-clause-births c = λ slot. none_born 32 slot
