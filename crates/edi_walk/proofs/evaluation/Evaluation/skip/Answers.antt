use Rattle.edi_unit.specs.View.{unit_of}
use Rattle.edi_walk.specs.Machine.{deeper_of, rest_of, world_of}
use Rattle.edi_walk.proofs.ActSteps.{skip_goes}
use Rattle.std.specs.Prelude.{map}
use Rattle.edi_unit.specs.View as view
use Rattle.edi_unit.specs.View.{act_of, arguments_of, argument_of, clause_of, clauses_of, expression_of, place_of}
use Rattle.edi_walk.specs.Frames.{nothing}
use Rattle.edi_walk.proofs.evaluation.Evaluation.skip.Goals as goal

pub returns-clause-exact : goal.returns-clause-exact
returns-clause-exact c levels system enough =
    c.put.ensures.exact levels system _
    (skip_goes (unit_of c.args.self.now.unit.now) c.args.self.now.name.items c.args.self.now.size (deeper_of levels c.args.self.now) (rest_of levels c.args.self.now) (view.acts (map act_of c.args.rest.now)) nothing (world_of c.args.self.now system))
