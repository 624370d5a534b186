use Rattle.edi_unit.proofs.Example.{showing, showing_fits}
use Rattle.edi_unit.proofs.laws.a_unit_fits.Goals as goal

pub returns : goal.returns
returns c = record { exact = (showing, showing_fits) }
