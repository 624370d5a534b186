-- The law as proved.
use Rattle.edi_meaning.proofs.Spent.{permitted_ends_spent, selection_ends_spent}
use Rattle.edi_meaning.proofs.laws.ends_by_turns_spent.Goals as goal

pub returns : goal.returns
returns c = record { permitted = permitted_ends_spent; selected = selection_ends_spent }
