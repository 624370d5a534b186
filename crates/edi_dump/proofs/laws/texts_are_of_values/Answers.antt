use Rattle.edi_dump.proofs.valued.Told.{texts_are_of_values}
use Rattle.edi_dump.proofs.laws.texts_are_of_values.Goals as goal

pub returns : goal.returns
returns c = record { law = texts_are_of_values }
