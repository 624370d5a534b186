-- The law as proved.
use Rattle.edi_follows.proofs.Whole as whole
use Rattle.edi_follows.proofs.same_moments.Goals as goal

pub returns : goal.returns
returns c = record { law = whole.same_moments }
