use Rattle.std.proofs.Common.{ℕ}
use Rattle.edi_explored.proofs.Fewer.{followed_fewer}
use Rattle.edi_explored.proofs.followed_is_fewer.Goals as goal

pub returns : goal.returns
returns g c = record {
  law = λ unit system report v most. followed_fewer unit system report ℕ g.K.Kept.covers g.K.Kept.has v most;
}
