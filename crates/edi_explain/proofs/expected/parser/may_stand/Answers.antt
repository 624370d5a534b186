use Rattle.std.proofs.Common.{rules, sym, subst}
use Rattle.edi_explain.specs.expected.Reaches.{May}
use Rattle.edi_explain.proofs.expected.Reaching.{may_by_step}
use Rattle.edi_explain.proofs.expected.parser.may_stand.Goals as goal

pub returns : goal.returns
returns c = record {
  exact = λ before h. subst (λ b. May before c.args.kind b) (sym c.may_follow.ensures.exact)
      (may_by_step before c.args.numbers.now c.extend_from_slice.new.self.items _ _ c.args.kind c.in_ok-step.step c.in_ok-_end._end c.requires.known c.in_ok-step.ensures.exact
      c.in_ok-_end.ensures.exact (search rules) h);
}
