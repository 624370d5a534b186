use Rattle.edi_explored.proofs.Choosing.{taken_by}
use Rattle.edi_explored.proofs.anyone_is_taken.Goals as goal

pub returns : goal.returns
returns c = record { law = taken_by }
