use Rattle.std.proofs.Common.{ap}
use Rattle.edi_explain.specs.places.Places.{Place}
use Rattle.edi_explain.proofs.told.wrong.place.Goals as goal

pub returns : goal.returns
returns c = record { exact = ap (λ (p : Place). p.0) (c.place_of-from.ensures.exact c.requires.scanned.0 c.requires.scanned.1) }
