use Rattle.edi_meaning.proofs.Dangling.{references_live}
use Rattle.edi_meaning.proofs.laws.references_live.Goals as goal

pub returns : goal.returns
returns c = record { law = references_live }
