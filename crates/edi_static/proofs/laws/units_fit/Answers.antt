use Rattle.edi_static.proofs.FitnessPrograms.{units_fit}
use Rattle.edi_static.proofs.laws.units_fit.Goals as goal

pub returns : goal.returns
returns c = record { law = units_fit }
