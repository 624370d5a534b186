use Rattle.std.proofs.Common.{ap, ◌∙◌}
use Rattle.edi_unit.specs.View.{unit_of}
use Rattle.edi_meaning.specs.Whole.{result_of}
use Rattle.edi_walk.specs.Frames.{a_value}
use Rattle.edi_walk.specs.Machine.{world_of}
use Rattle.edi_walk.proofs.Arms.{gave}
use Rattle.edi_walk.proofs.Blocks.{left_over}
use Rattle.edi_walk.proofs.Calls.{same_on}
use Rattle.edi_walk.proofs.evaluation.Evaluation.end_function.Goals as goal

pub returns-clause-exact : goal.returns-clause-exact
returns-clause-exact c levels system enough =
    let old = c.args.self.now in
    left_over levels system old c.leave.new.self (a_value (result_of (unit_of old.unit.now) old.name.items old.size (world_of old system)))
    c.in_ok-leave.ensures.exact
    ∙ gave levels system c.leave.new.self c.give.new.self _ _ c.give.ensures.exact (ap a_value (c.in_ok-result.ensures.exact system))

pub returns-clause-same : goal.returns-clause-same
returns-clause-same c = same_on c.args.self.now c.leave.new.self c.give.new.self c.in_ok-leave.ensures.same c.give.ensures.same
