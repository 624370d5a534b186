use Rattle.edi_static.proofs.names.Walk.{names_are_visible}
use Rattle.edi_static.proofs.names.names_are_visible.Goals as goal

pub returns : goal.returns
returns c = record { law = names_are_visible }
