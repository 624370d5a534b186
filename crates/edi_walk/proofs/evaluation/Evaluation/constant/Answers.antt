use Rattle.std.proofs.Common.{ap, ◌∙◌}
use Rattle.std.proofs.Common.{rules, w16}
use Rattle.std.proofs.lemmas.Int.{to_z-of_z}
use Rattle.edi_unit.specs.Values.{ordinal}
use Rattle.edi_walk.specs.Frames.{a_value}
use Rattle.edi_walk.proofs.Arms.{gave}
use Rattle.edi_walk.proofs.Layers.{ordinal_seen}
use Rattle.edi_walk.proofs.evaluation.Evaluation.constant.Goals as goal

pub returns-clause-exact : goal.returns-clause-exact
returns-clause-exact c levels system enough =
    gave levels system c.args.self.now c.give.new.self _ _ c.give.ensures.exact
    (ap a_value (ordinal_seen _ ∙ ap ordinal (to_z-of_z w16 c.args.ordinal (search rules))))
