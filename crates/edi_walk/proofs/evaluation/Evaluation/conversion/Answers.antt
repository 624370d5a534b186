use Rattle.edi_unit.specs.View.{unit_of}
use Rattle.edi_walk.specs.Machine.{deeper_of, given_of, rest_of, world_of}
use Rattle.edi_walk.proofs.FrameSteps.{convert_goes}
use Rattle.edi_unit.specs.View.{expression_of}
use Rattle.edi_walk.proofs.evaluation.Evaluation.conversion.Goals as goal

pub returns-clause-exact : goal.returns-clause-exact
returns-clause-exact c levels system enough =
    c.put_two.ensures.exact levels system _
    (convert_goes (unit_of c.args.self.now.unit.now) c.args.self.now.name.items c.args.self.now.size (deeper_of levels c.args.self.now) (rest_of levels c.args.self.now) c.args.of (expression_of c.args.e.now) c.args.line (given_of c.args.self.now.given) (world_of c.args.self.now system))
