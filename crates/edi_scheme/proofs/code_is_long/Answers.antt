-- The law as proved.
use Rattle.edi_scheme.proofs.Blocks.{code_is_long}
use Rattle.edi_scheme.proofs.code_is_long.Goals as goal

pub returns : goal.returns
returns c = record { law = code_is_long }
