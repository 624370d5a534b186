-- The law as proved.
use Rattle.edi_target.proofs.segments.Running.{every_end_is_nested}
use Rattle.edi_target.proofs.segments.every_end_is_nested.Goals as goal

pub returns : goal.returns
returns c = record { law = every_end_is_nested }
