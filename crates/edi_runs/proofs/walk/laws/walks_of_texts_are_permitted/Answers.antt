use Rattle.edi_runs.proofs.walk.Texts.{walks_of_texts_are_permitted}
use Rattle.edi_runs.proofs.walk.laws.walks_of_texts_are_permitted.Goals as goal

pub returns : goal.returns
returns c = record { law = walks_of_texts_are_permitted }
