use Rattle.std.proofs.Common.{◌∙◌, ap, subst, rules, w16, Err}
use Rattle.std.proofs.lemmas.Int.{to_z-of_z}
use Rattle.edi_unit.specs.Values.{ordinal}
use Rattle.edi_unit.specs.View.{expression_of}
use Rattle.edi_walk.specs.Frames.{a_value}
use Rattle.edi_walk.specs.Reads.{ReadsValue}
use Rattle.edi_walk.proofs.AtOnce.{value_fails, value_read}
use Rattle.edi_walk.proofs.Layers.{ordinal_seen}
use Rattle.edi_walk.proofs.evaluation.Evaluation.evaluate.Goals as goal

pub returns-in-Ok-clause-exact : goal.returns-in-Ok-clause-exact
returns-in-Ok-clause-exact c =
    value_read c.args.self.now c.give.new.self (expression_of c.args.e.now) c.in-Ok.n _ c.in-Ok.ensures.exact c.give.ensures.exact
    (ap a_value (ordinal_seen _ ∙ ap ordinal (to_z-of_z w16 c.in-Ok.n (search rules))))

pub returns-in-Range-clause-exact : goal.returns-in-Range-clause-exact
returns-in-Range-clause-exact c =
    value_fails c.args.self.now (expression_of c.args.e.now) c.in-Range.line
    (subst (λ h. ReadsValue (expression_of c.args.e.now) (Err h) c.args.self.now) c.in-Range.is c.in-Err.ensures.exact)
