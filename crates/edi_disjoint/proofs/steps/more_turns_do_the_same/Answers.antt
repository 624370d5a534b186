use Rattle.edi_disjoint.proofs.steps.Turns.{more_turns_do_the_same}
use Rattle.edi_disjoint.proofs.steps.more_turns_do_the_same.Goals as goal

pub returns : goal.returns
returns c = record { law = more_turns_do_the_same }
