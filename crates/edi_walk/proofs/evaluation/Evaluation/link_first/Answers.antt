use Rattle.std.proofs.Common.{sym, ap, ◌∙◌}
use Rattle.edi_unit.specs.View.{unit_of}
use Rattle.edi_walk.specs.Machine.{deeper_of, given_of, next_of, rest_of, world_of}
use Rattle.std.specs.Prelude.{map}
use Rattle.edi_unit.specs.View as view
use Rattle.edi_unit.specs.View.{expression_of, link_of}
use Rattle.edi_walk.specs.declared.evaluation.Evaluation as code
use Rattle.edi_walk.specs.Data.{value_of}
use Rattle.edi_walk.specs.Frames.{a_value, links_on}
use Rattle.edi_unit.specs.Tree.{link_then}
use Rattle.edi_walk.proofs.Layers.{link_seen}
use Rattle.edi_walk.proofs.FrameSteps.{decided_goes}
use Rattle.edi_walk.proofs.Calls.{same_on}
use Rattle.edi_walk.proofs.evaluation.Evaluation.link_first.Goals as goal

pub returns-then-decides-clause-exact : goal.returns-then-decides-clause-exact
returns-then-decides-clause-exact c levels system enough =
    c.put.ensures.exact levels system _
    (ap (λ l. next_of levels c.args.self.now (links_on (link_then l (view.links (map link_of c.args.rest.now)))) (a_value (value_of c.args.left)) (world_of c.args.self.now system))
    (link_seen c.args.first.now)
    ∙ decided_goes (unit_of c.args.self.now.unit.now) c.args.self.now.name.items c.args.self.now.size (deeper_of levels c.args.self.now) (rest_of levels c.args.self.now) (value_of c.args.left) c.args.first.now.operator (expression_of c.args.first.now.right) c.args.first.now.line (view.links (map link_of c.args.rest.now)) (world_of c.args.self.now system)
    (sym c.decides.ensures.exact ∙ c.if-decides.true)
    ∙ ap (λ (e : code.Evaluation). next_of levels e (links_on (view.links (map link_of c.args.rest.now))) (given_of e.given) (world_of e system)) (sym c.give.ensures.exact))

pub returns-then-decides-clause-same : goal.returns-then-decides-clause-same
returns-then-decides-clause-same c = same_on c.args.self.now c.give.new.self c.put.new.self c.give.ensures.same c.put.ensures.same
