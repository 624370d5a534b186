use Rattle.edi_explain.proofs.told.One.{one_explanation}
use Rattle.edi_explain.proofs.told.laws.each_text_has_one_explanation.Goals as goal

pub returns : goal.returns
returns c = record { law = one_explanation }
