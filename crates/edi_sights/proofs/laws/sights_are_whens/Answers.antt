use Rattle.edi_sights.proofs.told.Met.{sights_are_whens}
use Rattle.edi_sights.proofs.laws.sights_are_whens.Goals as goal

pub returns : goal.returns
returns c = record { law = sights_are_whens }
