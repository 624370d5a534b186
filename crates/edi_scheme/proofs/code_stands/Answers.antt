-- The law as proved.
use Rattle.edi_scheme.proofs.Blocks.{code_stands}
use Rattle.edi_scheme.proofs.code_stands.Goals as goal

pub returns : goal.returns
returns c = record { law = code_stands }
