use Rattle.std.proofs.Common.{ap, ◌∙◌}
use Rattle.edi_unit.specs.View.{unit_of}
use Rattle.edi_walk.specs.Machine.{deeper_of, given_of, rest_of, world_of}
use Rattle.std.specs.Prelude.{map}
use Rattle.edi_unit.specs.View as view
use Rattle.edi_unit.specs.View.{argument_of, expression_of, expressions, place_of}
use Rattle.edi_walk.specs.Data.{cell_of}
use Rattle.edi_walk.specs.Frames.{collects, nothing}
use Rattle.std.proofs.lemmas.List.{append-nil}
use Rattle.edi_walk.specs.Frames.{evaluates}
use Rattle.edi_walk.proofs.FrameSteps.{by_value_goes, two}
use Rattle.edi_walk.proofs.evaluation.Evaluation.collect_value.Goals as goal

pub returns-clause-exact : goal.returns-clause-exact
returns-clause-exact c levels system enough =
    c.put_two.ensures.exact levels system _
    (by_value_goes (unit_of c.args.self.now.unit.now) c.args.self.now.name.items c.args.self.now.size (deeper_of levels c.args.self.now) (rest_of levels c.args.self.now) (map cell_of c.args.cells.items) (expression_of c.args.e.now) (view.arguments (map argument_of c.args.rest.now)) nothing (given_of c.args.self.now.given) (world_of c.args.self.now system)
    ∙ ap (λ xs. two (unit_of c.args.self.now.unit.now) c.args.self.now.name.items c.args.self.now.size (deeper_of levels c.args.self.now) (rest_of levels c.args.self.now) (evaluates (expression_of c.args.e.now)) (collects xs (view.arguments (map argument_of c.args.rest.now))) (given_of c.args.self.now.given) (world_of c.args.self.now system))
    (append-nil (map cell_of c.args.cells.items)))
