use Rattle.std.proofs.Common.{sym, ap, ◌∙◌}
use Rattle.edi_unit.specs.View.{unit_of}
use Rattle.edi_walk.specs.Machine.{deeper_of, given_of, next_of, rest_of, world_of}
use Rattle.std.specs.Prelude.{map}
use Rattle.std.specs.Option.{option_map}
use Rattle.edi_unit.specs.View as view
use Rattle.edi_unit.specs.View.{link_of}
use Rattle.edi_walk.specs.declared.evaluation.Evaluation as code
use Rattle.edi_walk.specs.Data.{value_of}
use Rattle.edi_walk.specs.Frames.{links_on, operates}
use Rattle.edi_walk.proofs.FrameSteps.{operated_goes}
use Rattle.edi_walk.proofs.Calls.{same_on}
use Rattle.edi_walk.proofs.evaluation.Evaluation.operate.Goals as goal

pub returns-clause-exact : goal.returns-clause-exact
returns-clause-exact c levels system enough =
    c.put.ensures.exact levels system _
    (ap (λ g. next_of levels c.args.self.now (operates (value_of c.args.left) c.args.operator c.args.line (view.links (map link_of c.args.links.now))) (given_of g) (world_of c.args.self.now system)) c.in_ok-right.ensures.exact
    ∙ operated_goes (unit_of c.args.self.now.unit.now) c.args.self.now.name.items c.args.self.now.size (deeper_of levels c.args.self.now) (rest_of levels c.args.self.now) (value_of c.args.left) (value_of c.in_ok-right.right) (value_of c.in_ok-value.value) c.args.operator c.args.line (view.links (map link_of c.args.links.now)) (world_of c.args.self.now system)
    (sym c.apply.ensures.exact ∙ ap (option_map value_of) c.in_ok-value.ensures.exact)
    ∙ ap (λ (e : code.Evaluation). next_of levels e (links_on (view.links (map link_of c.args.links.now))) (given_of e.given) (world_of e system)) (sym c.give.ensures.exact))

pub returns-clause-same : goal.returns-clause-same
returns-clause-same c = same_on c.args.self.now c.give.new.self c.put.new.self c.give.ensures.same c.put.ensures.same
