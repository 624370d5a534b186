use Rattle.std.proofs.Common.{sym, ap, ◌∙◌}
use Rattle.edi_unit.specs.View.{unit_of}
use Rattle.edi_walk.specs.Machine.{deeper_of, given_of, rest_of, world_of}
use Rattle.edi_walk.proofs.ActSteps.{while_goes}
use Rattle.std.specs.Prelude.{map}
use Rattle.edi_unit.specs.View as view
use Rattle.edi_unit.specs.View.{act_of, arguments_of, argument_of, clause_of, clauses_of, expression_of, place_of}
use Rattle.edi_walk.specs.Frames.{nothing, performs, tries, loops}
use Rattle.edi_walk.proofs.FrameSteps.{two, then_go}
use Rattle.edi_walk.proofs.evaluation.Evaluation.looping.Goals as goal

pub returns-clause-exact : goal.returns-clause-exact
returns-clause-exact c levels system enough =
    c.put_three.ensures.exact levels system _
    (while_goes (unit_of c.args.self.now.unit.now) c.args.self.now.name.items c.args.self.now.size (deeper_of levels c.args.self.now) (rest_of levels c.args.self.now) (clauses_of c.args.clauses.now) (view.acts (map act_of c.args.rest.now)) nothing (given_of c.args.self.now.given) (world_of c.args.self.now system)
    ∙ ap (λ l. then_go (unit_of c.args.self.now.unit.now) c.args.self.now.name.items c.args.self.now.size (deeper_of levels c.args.self.now) (rest_of levels c.args.self.now) (tries (view.clauses (map clause_of l))) (two (unit_of c.args.self.now.unit.now) c.args.self.now.name.items c.args.self.now.size (deeper_of levels c.args.self.now) (rest_of levels c.args.self.now) (loops (clauses_of c.args.clauses.now)) (performs (view.acts (map act_of c.args.rest.now))))
    (given_of c.args.self.now.given) (world_of c.args.self.now system)) (sym c.items-2.ensures.exact)
    ∙ ap (λ l. then_go (unit_of c.args.self.now.unit.now) c.args.self.now.name.items c.args.self.now.size (deeper_of levels c.args.self.now) (rest_of levels c.args.self.now) (tries (view.clauses (map clause_of c.items-2.result.now))) (two (unit_of c.args.self.now.unit.now) c.args.self.now.name.items c.args.self.now.size (deeper_of levels c.args.self.now) (rest_of levels c.args.self.now) (loops (view.clauses (map clause_of l))) (performs (view.acts (map act_of c.args.rest.now))))
    (given_of c.args.self.now.given) (world_of c.args.self.now system)) (sym c.items.ensures.exact))
