-- The law as proved.
use Rattle.edi_target.proofs.Spent.{ends_by_turns_spent}
use Rattle.edi_target.proofs.laws.ends_by_turns_spent.Goals as goal

pub returns : goal.returns
returns c = record { law = ends_by_turns_spent }
