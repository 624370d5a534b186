use Rattle.std.proofs.Common.{refl}
use Rattle.edi_explain.proofs.places.There.{there}
use Rattle.edi_explain.proofs.places.laws.symbols_stand_at_their_places.Goals as goal

pub returns : goal.returns
returns c = record { law = λ text found e. there text text 0 1 0 found refl refl e }
