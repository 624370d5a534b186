use Rattle.std.proofs.Common.{refl, sym, ap, ◌∙◌}
use Rattle.std.specs.Option.{option_map}
use Rattle.edi_meaning.specs.Evaluation.{gives, ◌>>=◌}
use Rattle.edi_meaning.specs.Whole.{in_range}
use Rattle.edi_walk.specs.Data.{value_of}
use Rattle.edi_walk.specs.Frames.{a_value, signs}
use Rattle.edi_walk.specs.Machine.{given_of, next_of, rest_of, world_of}
use Rattle.edi_walk.proofs.Arms.{gave}
use Rattle.edi_walk.proofs.evaluation.Evaluation.sign.Goals as goal

pub returns-clause-exact : goal.returns-clause-exact
returns-clause-exact c levels system enough =
    ap (λ g. next_of levels c.args.self.now (signs c.args.line) (given_of g) (world_of c.args.self.now system)) c.in_ok-value.ensures.exact
    ∙ ap (λ v. (in_range c.args.line v (world_of c.args.self.now system) >>= λ v w. gives (a_value v) w) >>= rest_of levels c.args.self.now)
    (sym c.sign.ensures.exact ∙ ap (option_map value_of) c.in_ok-value-2.ensures.exact)
    ∙ gave levels system c.args.self.now c.give.new.self _ _ c.give.ensures.exact refl
