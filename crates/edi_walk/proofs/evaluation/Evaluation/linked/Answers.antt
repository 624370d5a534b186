use Rattle.std.proofs.Common.{refl}
use Rattle.edi_walk.proofs.Arms.{gave}
use Rattle.edi_walk.proofs.evaluation.Evaluation.linked.Goals as goal

pub returns-clause-exact : goal.returns-clause-exact
returns-clause-exact c levels system enough = gave levels system c.args.self.now c.give.new.self _ _ c.give.ensures.exact refl
