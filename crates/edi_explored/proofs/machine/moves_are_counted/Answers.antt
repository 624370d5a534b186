-- The law as proved.
use Rattle.edi_explored.proofs.machine.Counting.{moves_are_counted}
use Rattle.edi_explored.proofs.machine.moves_are_counted.Goals as goal

pub returns : goal.returns
returns c = record { law = moves_are_counted }
