use Rattle.std.proofs.Common.{refl, sym, ap, ◌∙◌}
use Rattle.edi_walk.specs.Frames.{a_value, loads}
use Rattle.edi_walk.specs.Machine.{given_of, next_of, rest_of, world_of}
use Rattle.edi_walk.proofs.Arms.{gave}
use Rattle.edi_walk.proofs.evaluation.Evaluation.load.Goals as goal

pub returns-clause-exact : goal.returns-clause-exact
returns-clause-exact c levels system enough =
    ap (λ g. next_of levels c.args.self.now loads (given_of g) (world_of c.args.self.now system)) c.in_ok-target.ensures.exact
    ∙ ap (λ v. rest_of levels c.args.self.now (a_value v) (world_of c.args.self.now system)) (sym (c.in_ok-value.ensures.exact ∙ c.in-Some.ensures.exact))
    ∙ gave levels system c.args.self.now c.give.new.self _ _ c.give.ensures.exact refl
