-- The law as proved.
use Rattle.edi_target.proofs.segments.Shares.{children_lie_in_shares}
use Rattle.edi_target.proofs.segments.children_lie_in_shares.Goals as goal

pub returns : goal.returns
returns c = record { law = children_lie_in_shares }
