-- The law as proved.
use Rattle.edi_meaning.proofs.NeverBad.{permitted_is_never_bad, selection_is_never_bad}
use Rattle.edi_meaning.proofs.laws.programs_are_never_bad.Goals as goal

pub returns : goal.returns
returns c = record { permitted = permitted_is_never_bad; selected = selection_is_never_bad }
