use Rattle.std.proofs.Common.{ap, ◌∙◌}
use Rattle.edi_unit.specs.View.{unit_of}
use Rattle.edi_walk.specs.Machine.{deeper_of, given_of, next_of, rest_of, world_of}
use Rattle.edi_unit.specs.View.{expression_of}
use Rattle.edi_walk.specs.Data.{designated_of}
use Rattle.edi_walk.specs.Frames.{assigns}
use Rattle.edi_walk.proofs.ActSteps.{value_goes}
use Rattle.edi_walk.proofs.evaluation.Evaluation.assign.Goals as goal

pub returns-clause-exact : goal.returns-clause-exact
returns-clause-exact c levels system enough =
    c.put_two.ensures.exact levels system _
    (ap (λ g. next_of levels c.args.self.now (assigns (expression_of c.args.e.now)) (given_of g) (world_of c.args.self.now system)) c.in_ok-target.ensures.exact
    ∙ value_goes (unit_of c.args.self.now.unit.now) c.args.self.now.name.items c.args.self.now.size (deeper_of levels c.args.self.now) (rest_of levels c.args.self.now) (designated_of c.in_ok-target.target) (expression_of c.args.e.now) (given_of c.args.self.now.given) (world_of c.args.self.now system))
