use Rattle.edi_sights.proofs.naming.Procedures.{names_are_slots}
use Rattle.edi_sights.proofs.laws.names_are_slots.Goals as goal

pub returns : goal.returns
returns c = record { law = names_are_slots }
