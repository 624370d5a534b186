use Rattle.std.proofs.Common.{[], sym, ap, ◌∙◌}
use Rattle.edi_unit.specs.View.{unit_of}
use Rattle.edi_walk.specs.Machine.{deeper_of, rest_of, world_of}
use Rattle.edi_walk.proofs.ActSteps.{call_goes}
use Rattle.std.specs.Prelude.{map}
use Rattle.edi_unit.specs.View as view
use Rattle.edi_unit.specs.View.{act_of, arguments_of, argument_of, clause_of, clauses_of, expression_of, place_of}
use Rattle.edi_walk.specs.Data.{cell_of}
use Rattle.edi_walk.specs.Frames.{nothing, performs, collects, calls_procedure}
use Rattle.edi_walk.proofs.FrameSteps.{two, then_go}
use Rattle.edi_walk.proofs.evaluation.Evaluation.call.Goals as goal

pub returns-clause-exact : goal.returns-clause-exact
returns-clause-exact c levels system enough =
    c.put_three.ensures.exact levels system _
    (call_goes (unit_of c.args.self.now.unit.now) c.args.self.now.name.items c.args.self.now.size (deeper_of levels c.args.self.now) (rest_of levels c.args.self.now) c.args.callee (arguments_of c.args.arguments.now) c.args.line (view.acts (map act_of c.args.rest.now)) nothing (world_of c.args.self.now system)
    ∙ ap (λ l. then_go (unit_of c.args.self.now.unit.now) c.args.self.now.name.items c.args.self.now.size (deeper_of levels c.args.self.now) (rest_of levels c.args.self.now) (collects [] (view.arguments (map argument_of l)))
    (two (unit_of c.args.self.now.unit.now) c.args.self.now.name.items c.args.self.now.size (deeper_of levels c.args.self.now) (rest_of levels c.args.self.now) (calls_procedure c.args.callee c.args.line) (performs (view.acts (map act_of c.args.rest.now)))) nothing (world_of c.args.self.now system)) (sym c.items.ensures.exact)
    ∙ ap (λ xs. then_go (unit_of c.args.self.now.unit.now) c.args.self.now.name.items c.args.self.now.size (deeper_of levels c.args.self.now) (rest_of levels c.args.self.now) (collects (map cell_of xs) (view.arguments (map argument_of c.items.result.now)))
    (two (unit_of c.args.self.now.unit.now) c.args.self.now.name.items c.args.self.now.size (deeper_of levels c.args.self.now) (rest_of levels c.args.self.now) (calls_procedure c.args.callee c.args.line) (performs (view.acts (map act_of c.args.rest.now)))) nothing (world_of c.args.self.now system))
    (sym c.new.ensures.items))
