use Rattle.edi_target.proofs.Histories.{comes_through_its_past}
use Rattle.edi_target.proofs.laws.comes_through_its_past.Goals as goal

pub returns : goal.returns
returns c = record { law = comes_through_its_past }
