use Rattle.std.proofs.Common.{refl, rules, Ok, Err, arith}
use Rattle.edi_walk.proofs.Calls.{told_begins, told_on, told_out, told_counted, same_self, same_on}
use Rattle.edi_walk.proofs.FrameRuns.{lasts_on, err_blames_on}
use Rattle.edi_walk.proofs.evaluation.Evaluation.run.Goals as goal

pub loop-step-init : goal.loop-step-init
loop-step-init g c = record {
  working = c.requires.working;
  lasts = (λ outside. omega arith, refl, λ start led. led);
  same = same_self c.args.self.now;
  told = told_begins c.args.self.now (g.C.Calls.state c.args.calls.now);
}

pub returns-in_default-clause-exact : goal.returns-in_default-clause-exact
returns-in_default-clause-exact g c =
    told_out c.args.self.now c.loop-step.self (record c.loop-step.self { frames = c.pop.new.self }) (g.C.Calls.state c.args.calls.now)
    (g.C.Calls.state c.loop-step.calls) (search rules) refl c.loop-step.invariant.told

pub returns-in-Err-clause-exact : goal.returns-in-Err-clause-exact
returns-in-Err-clause-exact g c =
    told_on c.args.self.now c.loop-step.self (record c.loop-step.self { frames = c.pop.new.self }) c.advance.new.self c.in-Some.frame (Err c.in-Err.stop)
    (g.C.Calls.state c.args.calls.now) (g.C.Calls.state c.loop-step.calls) (g.C.Calls.state c.advance.new.calls) c.loop-step.invariant.same refl
    (search rules) c.loop-step.invariant.told c.in-Err.ensures.exact

pub loop-step-preserved : goal.loop-step-preserved
loop-step-preserved g c =
    let inv = c.loop-step.invariant in
    record {
      working = c.in-Ok.ensures.blame;
      lasts = lasts_on g.C.Calls.faults g.C.Calls.references g.C.Calls.leads _ _ _ inv.lasts c.in-Ok.ensures.lasts;
      same = same_on c.args.self.now (record c.loop-step.self { frames = c.pop.new.self }) c.advance.new.self
          (record { unit = inv.same.unit; name = inv.same.name; size = inv.same.size; turns = inv.same.turns }) c.in-Ok.ensures.same;
      told = told_on c.args.self.now c.loop-step.self (record c.loop-step.self { frames = c.pop.new.self }) c.advance.new.self c.in-Some.frame (Ok tt)
          (g.C.Calls.state c.args.calls.now) (g.C.Calls.state c.loop-step.calls) (g.C.Calls.state c.advance.new.calls) inv.same refl
          (search rules) inv.told c.in-Ok.ensures.exact;
    }

pub returns-clause-exact : goal.returns-clause-exact
returns-clause-exact g c =
    told_counted c.args.self.now c.loop-step.self (g.C.Calls.state c.args.calls.now) (g.C.Calls.state c.loop-step.calls) c.loop-step.invariant.same
    c.loop-step.invariant.told

-- ---- what its end leaves

pub returns-in-Err-clause-same : goal.returns-in-Err-clause-same
returns-in-Err-clause-same g c =
    let inv = c.loop-step.invariant in
    same_on c.args.self.now (record c.loop-step.self { frames = c.pop.new.self }) c.advance.new.self
    (record { unit = inv.same.unit; name = inv.same.name; size = inv.same.size; turns = inv.same.turns }) c.in-Err.ensures.same

pub returns-in-Err-clause-blame : goal.returns-in-Err-clause-blame
returns-in-Err-clause-blame g c =
    err_blames_on c.in-Err.stop (g.C.Calls.failed c.advance.new.calls) (g.C.Calls.faults c.args.calls.now) (g.C.Calls.faults c.loop-step.calls)
    (g.C.Calls.faults c.advance.new.calls) c.loop-step.invariant.lasts.0 c.in-Err.ensures.blame

pub returns-in-Err-clause-lasts : goal.returns-in-Err-clause-lasts
returns-in-Err-clause-lasts g c =
    lasts_on g.C.Calls.faults g.C.Calls.references g.C.Calls.leads _ _ _ c.loop-step.invariant.lasts c.in-Err.ensures.lasts
