use Rattle.edi_scheme.proofs.Apart.{addresses_differ}
use Rattle.edi_debug.proofs.laws.whens_stand_apart.Goals as goal

pub returns : goal.returns
returns c = record { law = addresses_differ }
