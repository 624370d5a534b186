-- The law as proved.
use Rattle.edi_follows.proofs.Whole.{same_outcomes}
use Rattle.edi_follows.proofs.same_outcome.Goals as goal

pub returns : goal.returns
returns c = record { law = same_outcomes }
