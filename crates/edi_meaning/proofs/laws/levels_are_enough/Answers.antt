use Rattle.edi_meaning.proofs.Levels.{levels_are_enough}
use Rattle.edi_meaning.proofs.laws.levels_are_enough.Goals as goal

pub returns : goal.returns
returns c = record { law = levels_are_enough }
