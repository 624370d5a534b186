use Rattle.std.proofs.Common.{ℕ}
use Rattle.edi_orders.proofs.Walking.{stints_are_enough}
use Rattle.edi_orders.proofs.stints_are_enough.Goals as goal

pub returns : goal.returns
returns g c = record { law = stints_are_enough ℕ g.K.Kept.covers g.K.Kept.has }
