use Rattle.edi_meaning.proofs.Permitted.{select_is_permitted}
use Rattle.edi_meaning.proofs.laws.select_is_permitted.Goals as goal

pub returns : goal.returns
returns c = record { law = select_is_permitted }
