use Rattle.std.proofs.Common.{sym, ap, ◌∙◌}
use Rattle.edi_unit.specs.View.{unit_of}
use Rattle.edi_walk.specs.Machine.{deeper_of, rest_of, world_of}
use Rattle.std.specs.Prelude.{map}
use Rattle.edi_walk.specs.Data.{value_of}
use Rattle.edi_walk.specs.Frames.{a_value, nothing}
use Rattle.std.proofs.lemmas.List.{append-nil}
use Rattle.edi_unit.specs.Values.{compound, values}
use Rattle.edi_walk.proofs.Arms.{gave}
use Rattle.edi_walk.proofs.Layers.{compound_seen}
use Rattle.edi_walk.proofs.FrameSteps.{gathered_goes}
use Rattle.edi_walk.proofs.evaluation.Evaluation.gathered.Goals as goal

pub returns-clause-exact : goal.returns-clause-exact
returns-clause-exact c levels system enough =
    gathered_goes (unit_of c.args.self.now.unit.now) c.args.self.now.name.items c.args.self.now.size (deeper_of levels c.args.self.now) (rest_of levels c.args.self.now) (map value_of c.args.values.items) nothing (world_of c.args.self.now system)
    ∙ gave levels system c.args.self.now c.give.new.self _ _ c.give.ensures.exact
    (ap a_value (compound_seen c.args.values ∙ ap (λ vs. compound (values vs)) (sym (append-nil (map value_of c.args.values.items)))))
