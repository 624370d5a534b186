-- The law as proved.
use Rattle.edi_meaning.proofs.Branching.{fitting_forks_have_branches}
use Rattle.edi_meaning.proofs.Someone.{someone_may_step, standstill_is_marked}
use Rattle.edi_meaning.proofs.laws.someone_may_step.Goals as goal

pub returns : goal.returns
returns c = record { fitting = fitting_forks_have_branches; permitted = someone_may_step; selected = standstill_is_marked }
