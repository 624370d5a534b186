use Rattle.std.proofs.Common.{sym, ap, ◌∙◌}
use Rattle.edi_unit.specs.View.{unit_of}
use Rattle.edi_walk.specs.Machine.{deeper_of, rest_of, world_of}
use Rattle.std.specs.Prelude.{map}
use Rattle.edi_unit.specs.View.{expression_of, expressions}
use Rattle.edi_walk.specs.Data.{value_of}
use Rattle.edi_walk.specs.Frames.{gathers, joins_members, nothing}
use Rattle.edi_walk.proofs.FrameSteps.{alone, compound_goes, set_goes}
use Rattle.edi_walk.proofs.evaluation.Evaluation.make.Goals as goal

pub returns-then-is_set-clause-exact : goal.returns-then-is_set-clause-exact
returns-then-is_set-clause-exact c levels system enough =
    c.put.ensures.exact levels system _
    (set_goes (unit_of c.args.self.now.unit.now) c.args.self.now.name.items c.args.self.now.size (deeper_of levels c.args.self.now) (rest_of levels c.args.self.now) c.args.of (expressions (map expression_of c.args.parts.now)) c.args.line nothing (world_of c.args.self.now system) (sym c.is_set.ensures.exact ∙ c.if-is_set.true)
    ∙ ap (λ s. alone (unit_of c.args.self.now.unit.now) c.args.self.now.name.items c.args.self.now.size (deeper_of levels c.args.self.now) (rest_of levels c.args.self.now) (joins_members s (expressions (map expression_of c.args.parts.now)) c.args.line) nothing (world_of c.args.self.now system)) (sym c.empty.ensures.exact))

pub returns-clause-exact : goal.returns-clause-exact
returns-clause-exact c levels system enough =
    c.put-2.ensures.exact levels system _
    (compound_goes (unit_of c.args.self.now.unit.now) c.args.self.now.name.items c.args.self.now.size (deeper_of levels c.args.self.now) (rest_of levels c.args.self.now) c.args.of (expressions (map expression_of c.args.parts.now)) c.args.line nothing (world_of c.args.self.now system) (sym c.is_set.ensures.exact ∙ c.if-is_set.false)
    ∙ ap (λ vs. alone (unit_of c.args.self.now.unit.now) c.args.self.now.name.items c.args.self.now.size (deeper_of levels c.args.self.now) (rest_of levels c.args.self.now) (gathers (map value_of vs) (expressions (map expression_of c.args.parts.now))) nothing (world_of c.args.self.now system)) (sym c.new.ensures.items))
