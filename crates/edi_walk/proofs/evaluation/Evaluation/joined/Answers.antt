use Rattle.std.proofs.Common.{ap}
use Rattle.edi_walk.specs.Frames.{a_value}
use Rattle.edi_walk.proofs.Arms.{gave}
use Rattle.edi_walk.proofs.Layers.{members_seen}
use Rattle.edi_walk.proofs.evaluation.Evaluation.joined.Goals as goal

pub returns-clause-exact : goal.returns-clause-exact
returns-clause-exact c levels system enough =
    gave levels system c.args.self.now c.give.new.self _ _ c.give.ensures.exact (ap a_value (members_seen c.args.set))
