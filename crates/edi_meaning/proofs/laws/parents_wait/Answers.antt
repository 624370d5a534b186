use Rattle.edi_meaning.proofs.Waiting.{parents_wait}
use Rattle.edi_meaning.proofs.laws.parents_wait.Goals as goal

pub returns : goal.returns
returns c = record { law = parents_wait }
