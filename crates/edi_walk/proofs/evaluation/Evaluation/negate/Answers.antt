use Rattle.std.proofs.Common.{sym, ap, ◌∙◌}
use Rattle.edi_unit.specs.Values.{negation}
use Rattle.edi_walk.specs.Frames.{a_value, value_given}
use Rattle.edi_walk.specs.Machine.{given_of}
use Rattle.edi_walk.proofs.Arms.{gave}
use Rattle.edi_walk.proofs.evaluation.Evaluation.negate.Goals as goal

pub returns-clause-exact : goal.returns-clause-exact
returns-clause-exact c levels system enough =
    gave levels system c.args.self.now c.give.new.self _ _ c.give.ensures.exact
    (ap a_value c.negation.ensures.exact ∙ ap (λ g. a_value (negation (value_given (given_of g)))) (sym c.in_ok-value.ensures.exact))
