use Rattle.std.proofs.Common.{refl, inr, rules}
use Rattle.edi_statuses.proofs.Fronts.{front_put}
use Rattle.edi_statuses.proofs.showing.show_status.Goals as goal

pub returns-in-Failed-clause-exact : goal.returns-in-Failed-clause-exact
returns-in-Failed-clause-exact g c = inr (refl, front_put c.put.result.taken _ _ _ (search rules))
