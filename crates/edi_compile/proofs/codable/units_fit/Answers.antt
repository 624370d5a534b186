use Rattle.edi_compile.proofs.codable.Following.{units_fit}
use Rattle.edi_compile.proofs.codable.units_fit.Goals as goal

pub returns : goal.returns
returns c = record { law = units_fit }
