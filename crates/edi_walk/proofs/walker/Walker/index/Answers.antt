use Rattle.std.proofs.Common.{◌+◌, sym, subst, ap, ◌∙◌, arith}
use Rattle.edi_calls.specs.Names.{same}
use Rattle.edi_walk.specs.Processes.{LivesAt, NoneLives}
use Rattle.edi_walk.proofs.Livings.{lives_there, none_passed, passed_by}
use Rattle.edi_walk.proofs.walker.Walker.index.Goals as goal

pub returns-then-is_same-clause-exact : goal.returns-then-is_same-clause-exact
returns-then-is_same-clause-exact c =
    let process = c.process-item.result in
    let it = sym (ap (same c.args.name.now) c.deref.ensures.value) ∙ sym c.is_same.ensures.exact ∙ c.if-is_same.true in
    subst (λ k. LivesAt c.args.name.now k c.args.self.now.live.items) (sym c.loop-process.invariant.at)
    (subst (LivesAt c.args.name.now c.loop-process.process-index) c.deref-process-items.ensures.value
    (lives_there c.args.name.now c.loop-process.process-index c.deref-process-items.result.now process c.loop-process-test.true c.process-item.is it
    c.loop-process.invariant.passed))

pub loop-process-preserved : goal.loop-process-preserved
loop-process-preserved c =
    let process = c.process-item.result in
    let other = sym (ap (same c.args.name.now) c.deref.ensures.value) ∙ sym c.is_same.ensures.exact ∙ c.if-is_same.false in
    record {
      at = ap (λ n. n + 1) c.loop-process.invariant.at;
      passed = passed_by c.args.name.now c.loop-process.process-index c.deref-process-items.result.now process c.loop-process-test.true c.process-item.is other
          c.loop-process.invariant.passed;
    }

pub returns-clause-none : goal.returns-clause-none
returns-clause-none c none =
    subst (NoneLives c.args.name.now) c.deref-process-items.ensures.value
    (none_passed c.args.name.now c.loop-process.process-index c.deref-process-items.result.now (omega (arith, c.loop-process-test.false)) c.loop-process.invariant.passed)
