use Rattle.std.proofs.Common.{sym, ap}
use Rattle.std.proofs.Common.{subst}
use Rattle.std.specs.Prelude.{map}
use Rattle.edi_unit.specs.View as view
use Rattle.edi_unit.specs.View.{link_of}
use Rattle.edi_walk.specs.Frames.{links_on}
use Rattle.edi_walk.specs.Machine.{Follows, given_of, next_of, world_of}
use Rattle.edi_walk.proofs.evaluation.Evaluation.link.Goals as goal

pub returns-clause-exact : goal.returns-clause-exact
returns-clause-exact c levels system enough =
    subst (Follows levels c.link_on.result c.link_on.new.self system)
    (sym (ap (λ g. next_of levels c.args.self.now (links_on (view.links (map link_of c.args.links.now))) (given_of g) (world_of c.args.self.now system)) c.in_ok-left.ensures.exact))
    (c.link_on.ensures.exact levels system enough)
