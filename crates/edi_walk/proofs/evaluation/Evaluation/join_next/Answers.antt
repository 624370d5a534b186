use Rattle.edi_unit.specs.View.{unit_of}
use Rattle.edi_walk.specs.Machine.{deeper_of, given_of, rest_of, world_of}
use Rattle.std.specs.Prelude.{map}
use Rattle.edi_unit.specs.View.{expression_of, expressions}
use Rattle.edi_walk.specs.Frames.{nothing}
use Rattle.edi_walk.proofs.FrameSteps.{join_goes}
use Rattle.edi_walk.proofs.evaluation.Evaluation.join_next.Goals as goal

pub returns-clause-exact : goal.returns-clause-exact
returns-clause-exact c levels system enough =
    c.put_two.ensures.exact levels system _
    (join_goes (unit_of c.args.self.now.unit.now) c.args.self.now.name.items c.args.self.now.size (deeper_of levels c.args.self.now) (rest_of levels c.args.self.now) c.args.set (expression_of c.args.first.now) (expressions (map expression_of c.args.rest.now)) c.args.line nothing (given_of c.args.self.now.given) (world_of c.args.self.now system))
