use Rattle.std.proofs.Common.{sym}
use Rattle.edi_unit.specs.View.{unit_of}
use Rattle.edi_walk.specs.Machine.{deeper_of, given_of, rest_of, world_of}
use Rattle.std.specs.Prelude.{map}
use Rattle.edi_unit.specs.View as view
use Rattle.edi_unit.specs.View.{argument_of, expression_of, expressions, place_of}
use Rattle.edi_walk.specs.Data.{cell_of}
use Rattle.std.proofs.Common.{subst}
use Rattle.edi_walk.specs.Machine.{Follows}
use Rattle.edi_walk.proofs.ActSteps.{collects_taken}
use Rattle.edi_walk.proofs.evaluation.Evaluation.collect.Goals as goal

pub returns-clause-exact : goal.returns-clause-exact
returns-clause-exact c levels system enough =
    subst (Follows levels c.collect_on.result c.collect_on.new.self system)
    (sym (collects_taken (unit_of c.args.self.now.unit.now) c.args.self.now.name.items c.args.self.now.size (deeper_of levels c.args.self.now) (rest_of levels c.args.self.now) (map cell_of c.args.cells.items) (map cell_of c.in_ok-cells.cells.items) (view.arguments (map argument_of c.args.more.now))
    (given_of c.args.given) (world_of c.args.self.now system) c.in_ok-cells.ensures.exact))
    (c.collect_on.ensures.exact levels system enough)
