-- The law as proved.
use Rattle.edi_target.proofs.segments.Reaching.{segments_are_nested}
use Rattle.edi_target.proofs.segments.segments_are_nested.Goals as goal

pub returns : goal.returns
returns c = record { law = segments_are_nested }
