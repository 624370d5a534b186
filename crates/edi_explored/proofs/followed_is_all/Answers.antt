use Rattle.std.proofs.Common.{ℕ}
use Rattle.edi_explored.proofs.Induction.{followed_below, followed_all}
use Rattle.edi_explored.proofs.followed_is_all.Goals as goal

pub returns : goal.returns
returns g c = record {
  all = λ unit system report v. followed_all unit system report ℕ g.K.Kept.covers g.K.Kept.has v;
  below = λ unit system report v most. followed_below unit system report ℕ g.K.Kept.covers g.K.Kept.has v most;
}
