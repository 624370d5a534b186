use Rattle.std.proofs.Common.{sym, ap, ◌∙◌}
use Rattle.edi_unit.specs.View.{unit_of}
use Rattle.edi_walk.specs.Machine.{deeper_of, given_of, rest_of, world_of}
use Rattle.edi_walk.proofs.FrameSteps.{chain_goes}
use Rattle.std.specs.Prelude.{map}
use Rattle.edi_unit.specs.View.{expression_of, links, links_of, link_of}
use Rattle.edi_walk.specs.Frames.{evaluates, links_on}
use Rattle.edi_walk.proofs.FrameSteps.{two}
use Rattle.edi_walk.proofs.evaluation.Evaluation.chain.Goals as goal

pub returns-clause-exact : goal.returns-clause-exact
returns-clause-exact c levels system enough =
    c.put_two.ensures.exact levels system _
    (chain_goes (unit_of c.args.self.now.unit.now) c.args.self.now.name.items c.args.self.now.size (deeper_of levels c.args.self.now) (rest_of levels c.args.self.now) (expression_of c.args.e.now) (links_of c.args.links.now) (given_of c.args.self.now.given) (world_of c.args.self.now system)
    ∙ ap (λ ls. two (unit_of c.args.self.now.unit.now) c.args.self.now.name.items c.args.self.now.size (deeper_of levels c.args.self.now) (rest_of levels c.args.self.now) (evaluates (expression_of c.args.e.now)) (links_on (links (map link_of ls))) (given_of c.args.self.now.given) (world_of c.args.self.now system)) (sym c.items.ensures.exact))
