use Rattle.std.proofs.Common.{ap, ◌∙◌}
use Rattle.edi_unit.specs.View.{unit_of}
use Rattle.edi_walk.specs.Machine.{deeper_of, given_of, rest_of, world_of}
use Rattle.std.specs.Prelude.{map}
use Rattle.edi_unit.specs.View.{expression_of, expressions}
use Rattle.edi_walk.specs.Data.{value_of}
use Rattle.edi_walk.specs.Frames.{gathers, nothing}
use Rattle.std.proofs.lemmas.List.{append-nil}
use Rattle.edi_walk.specs.Frames.{evaluates}
use Rattle.edi_walk.proofs.FrameSteps.{gather_goes, two}
use Rattle.edi_walk.proofs.evaluation.Evaluation.gather_next.Goals as goal

pub returns-clause-exact : goal.returns-clause-exact
returns-clause-exact c levels system enough =
    c.put_two.ensures.exact levels system _
    (gather_goes (unit_of c.args.self.now.unit.now) c.args.self.now.name.items c.args.self.now.size (deeper_of levels c.args.self.now) (rest_of levels c.args.self.now) (map value_of c.args.values.items) (expression_of c.args.first.now) (expressions (map expression_of c.args.rest.now)) nothing (given_of c.args.self.now.given) (world_of c.args.self.now system)
    ∙ ap (λ vs. two (unit_of c.args.self.now.unit.now) c.args.self.now.name.items c.args.self.now.size (deeper_of levels c.args.self.now) (rest_of levels c.args.self.now) (evaluates (expression_of c.args.first.now)) (gathers vs (expressions (map expression_of c.args.rest.now))) (given_of c.args.self.now.given) (world_of c.args.self.now system))
    (append-nil (map value_of c.args.values.items)))
