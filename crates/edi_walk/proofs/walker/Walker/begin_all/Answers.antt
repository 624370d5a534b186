use Rattle.std.proofs.Common.{◌+◌, refl, ap, ◌∙◌, rules, arith}
use Rattle.edi_walk.proofs.Births.{all_begun, begun_first, begun_step}
use Rattle.edi_walk.proofs.walker.Walker.begin_all.Goals as goal

pub loop-number-init : goal.loop-number-init
loop-number-init c =
    record { at = refl; free = refl; begun = begun_first c.args.fork.now c.args.branches.now c.args.self.now }

pub loop-number-preserved : goal.loop-number-preserved
loop-number-preserved c =
    let inv = c.loop-number.invariant in
    record {
      at = ap (λ n. n + 1) inv.at;
      free = c.in-Ok.ensures.free ∙ inv.free;
      begun = begun_step c.args.fork.now c.args.branches.now c.args.self.now c.loop-number.self c.begin.new.self c.loop-number.number-index c.loop-number.i _ inv.at
          c.loop-number-test.true inv.begun c.in-Ok.ensures.exact (search rules);
    }

pub returns-clause-exact : goal.returns-clause-exact
returns-clause-exact c =
    all_begun c.args.fork.now c.loop-number.number-index c.args.branches.now c.args.self.now c.loop-number.self (omega (arith, c.loop-number-test.false)) c.loop-number.invariant.begun
