-- The law as proved.
use Rattle.edi_scheme.proofs.Checked.{code_is_sound}
use Rattle.edi_scheme.proofs.code_is_sound.Goals as goal

pub returns : goal.returns
returns c = record { law = code_is_sound }
