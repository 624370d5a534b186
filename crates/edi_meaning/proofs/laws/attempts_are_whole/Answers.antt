use Rattle.edi_meaning.proofs.Attempts.{attempts_are_whole, attempts_execute, attempts_are_one_step}
use Rattle.edi_meaning.proofs.laws.attempts_are_whole.Goals as goal

pub returns : goal.returns
returns c = record { law = attempts_are_whole; executes = attempts_execute; one = attempts_are_one_step }
