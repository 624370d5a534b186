use Rattle.std.proofs.Common.{sym}
use Rattle.edi_unit.specs.View.{unit_of}
use Rattle.edi_walk.specs.Machine.{deeper_of, given_of, rest_of, world_of}
use Rattle.std.specs.Prelude.{map}
use Rattle.edi_unit.specs.View.{expression_of, expressions}
use Rattle.std.proofs.Common.{subst}
use Rattle.edi_walk.specs.Machine.{Follows}
use Rattle.edi_walk.proofs.ActSteps.{members_taken}
use Rattle.edi_walk.proofs.evaluation.Evaluation.join.Goals as goal

pub returns-clause-exact : goal.returns-clause-exact
returns-clause-exact c levels system enough =
    subst (Follows levels c.join_on.result c.join_on.new.self system)
    (sym (members_taken (unit_of c.args.self.now.unit.now) c.args.self.now.name.items c.args.self.now.size (deeper_of levels c.args.self.now) (rest_of levels c.args.self.now) c.args.set c.in_ok-set.set (expressions (map expression_of c.args.more.now)) c.args.line
    (given_of c.args.given) (world_of c.args.self.now system) (c.in_ok-set.ensures.exact (world_of c.args.self.now system))))
    (c.join_on.ensures.exact levels system enough)
