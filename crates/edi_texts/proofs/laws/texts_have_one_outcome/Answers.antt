use Rattle.edi_texts.proofs.Executions.{accepted_texts_run, one_outcome, runs_are_never_bad}
use Rattle.edi_texts.proofs.laws.texts_have_one_outcome.Goals as goal

pub returns : goal.returns
returns c = record { some = accepted_texts_run; one = one_outcome; never_bad = runs_are_never_bad }
