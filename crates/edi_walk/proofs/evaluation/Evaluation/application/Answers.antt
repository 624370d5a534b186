use Rattle.std.proofs.Common.{[], sym, ap, ◌∙◌}
use Rattle.edi_unit.specs.View.{unit_of}
use Rattle.edi_walk.specs.Machine.{deeper_of, given_of, rest_of, world_of}
use Rattle.edi_walk.proofs.FrameSteps.{function_goes}
use Rattle.std.specs.Prelude.{map}
use Rattle.edi_unit.specs.View.{arguments, arguments_of, argument_of}
use Rattle.edi_walk.specs.Data.{cell_of}
use Rattle.edi_walk.specs.Frames.{calls_function, collects, nothing}
use Rattle.edi_walk.proofs.FrameSteps.{two}
use Rattle.edi_walk.proofs.evaluation.Evaluation.application.Goals as goal

pub returns-clause-exact : goal.returns-clause-exact
returns-clause-exact c levels system enough =
    c.put_two.ensures.exact levels system _
    (function_goes (unit_of c.args.self.now.unit.now) c.args.self.now.name.items c.args.self.now.size (deeper_of levels c.args.self.now) (rest_of levels c.args.self.now) c.args.callee (arguments_of c.args.arguments.now) c.args.line (given_of c.args.self.now.given) (world_of c.args.self.now system)
    ∙ ap (λ as'. two (unit_of c.args.self.now.unit.now) c.args.self.now.name.items c.args.self.now.size (deeper_of levels c.args.self.now) (rest_of levels c.args.self.now) (collects [] (arguments (map argument_of as'))) (calls_function c.args.callee c.args.line) nothing (world_of c.args.self.now system)) (sym c.items.ensures.exact)
    ∙ ap (λ xs. two (unit_of c.args.self.now.unit.now) c.args.self.now.name.items c.args.self.now.size (deeper_of levels c.args.self.now) (rest_of levels c.args.self.now) (collects (map cell_of xs) (arguments (map argument_of c.items.result.now))) (calls_function c.args.callee c.args.line) nothing (world_of c.args.self.now system))
    (sym c.new.ensures.items))
