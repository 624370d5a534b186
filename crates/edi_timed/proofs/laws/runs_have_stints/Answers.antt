-- The law as proved.
use Rattle.edi_timed.proofs.meant.Selected.{runs_have_stints}
use Rattle.edi_timed.proofs.laws.runs_have_stints.Goals as goal

pub returns : goal.returns
returns c = record { law = runs_have_stints }
