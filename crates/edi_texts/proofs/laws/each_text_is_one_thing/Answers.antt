use Rattle.edi_texts.proofs.Thing.{one_thing}
use Rattle.edi_texts.proofs.laws.each_text_is_one_thing.Goals as goal

pub returns : goal.returns
returns c = record { law = one_thing }
