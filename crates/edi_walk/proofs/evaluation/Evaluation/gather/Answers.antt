use Rattle.std.proofs.Common.{sym}
use Rattle.edi_unit.specs.View.{unit_of}
use Rattle.edi_walk.specs.Machine.{deeper_of, given_of, rest_of, world_of}
use Rattle.std.specs.Prelude.{map}
use Rattle.edi_unit.specs.View.{expression_of, expressions}
use Rattle.edi_walk.specs.Data.{value_of}
use Rattle.std.proofs.Common.{subst}
use Rattle.edi_walk.specs.Machine.{Follows}
use Rattle.edi_walk.proofs.ActSteps.{gathers_taken}
use Rattle.edi_walk.proofs.evaluation.Evaluation.gather.Goals as goal

pub returns-clause-exact : goal.returns-clause-exact
returns-clause-exact c levels system enough =
    subst (Follows levels c.gather_on.result c.gather_on.new.self system)
    (sym (gathers_taken (unit_of c.args.self.now.unit.now) c.args.self.now.name.items c.args.self.now.size (deeper_of levels c.args.self.now) (rest_of levels c.args.self.now) (map value_of c.args.values.items) (map value_of c.in_ok-values.values.items) (expressions (map expression_of c.args.more.now))
    (given_of c.args.given) (world_of c.args.self.now system) c.in_ok-values.ensures.exact))
    (c.gather_on.ensures.exact levels system enough)
