use Rattle.edi_calls.proofs.Lasting.{answers_fit_all}
use Rattle.edi_calls.proofs.laws.answers_fit.Goals as goal

pub returns : goal.returns
returns c = answers_fit_all
