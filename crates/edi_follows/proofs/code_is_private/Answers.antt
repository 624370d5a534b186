-- The law as proved.
use Rattle.edi_follows.proofs.Whole.{code_private}
use Rattle.edi_follows.proofs.code_is_private.Goals as goal

pub returns : goal.returns
returns c = record { law = code_private }
