use Rattle.std.proofs.Common.{ℕ}
use Rattle.edi_orders.proofs.Uncut.{uncut_stints_are_whole}
use Rattle.edi_orders.proofs.uncut_stints_are_whole.Goals as goal

pub returns : goal.returns
returns g c = record { law = λ unit. uncut_stints_are_whole unit ℕ g.K.Kept.covers g.K.Kept.has }
