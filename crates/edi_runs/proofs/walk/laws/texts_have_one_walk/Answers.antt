use Rattle.edi_runs.proofs.walk.Texts.{accepted_texts_walk, texts_have_one_walk}
use Rattle.edi_runs.proofs.walk.laws.texts_have_one_walk.Goals as goal

pub returns : goal.returns
returns c = record { some = accepted_texts_walk; one = texts_have_one_walk }
