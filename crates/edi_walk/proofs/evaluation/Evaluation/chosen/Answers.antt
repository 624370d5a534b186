use Rattle.std.proofs.Common.{refl, subst, arith, Ok}
use Rattle.std.specs.Prelude.{map}
use Rattle.edi_told.specs.Told.{WhereTold}
use Rattle.edi_unit.specs.View.{clause_of, clauses, expression_of}
use Rattle.edi_walk.specs.Steps.{Condition}
use Rattle.edi_walk.proofs.Choosing.{FarOn}
use Rattle.edi_walk.proofs.Calls.{same_self, same_on}
use Rattle.edi_walk.proofs.FrameRuns.{lasts_on, err_blames_on}
use Rattle.edi_walk.proofs.ChoosingTold.{told_far, told_false, told_true, told_stops, told_none, past_all}
use Rattle.edi_walk.proofs.evaluation.Evaluation.chosen.Goals as goal

pub loop-clause-init : goal.loop-clause-init
loop-clause-init g c = record {
  working = c.requires.working;
  lasts = (λ outside. omega arith, refl, λ start led. led);
  free = c.requires.free;
  same = same_self c.args.self.now;
  told = told_far (clauses (map clause_of c.args.clauses.now)) c.args.self.now (g.C.Calls.state c.args.calls.now);
}

pub returns-then-holds-clause-exact : goal.returns-then-holds-clause-exact
returns-then-holds-clause-exact g c =
    told_true c.args.clauses.now c.loop-clause.clause-index c.clause-item.result c.loop-clause-test.true c.clause-item.is
    (clauses (map clause_of c.args.clauses.now)) c.args.self.now c.loop-clause.self c.holds.new.self (g.C.Calls.state c.args.calls.now)
    (g.C.Calls.state c.loop-clause.calls) (g.C.Calls.state c.holds.new.calls) c.loop-clause.invariant.same c.loop-clause.invariant.told c.items.result c.items.ensures.exact
    (subst (λ b. WhereTold (g.C.Calls.state c.loop-clause.calls) (g.C.Calls.state c.holds.new.calls)
    (λ s t. Condition (expression_of c.clause-item.result.condition) (Ok b) c.loop-clause.self c.holds.new.self s t)) c.if-holds.true c.in-Ok.ensures.exact)

pub returns-in-Err-clause-exact : goal.returns-in-Err-clause-exact
returns-in-Err-clause-exact g c =
    told_stops c.args.clauses.now c.loop-clause.clause-index c.clause-item.result c.loop-clause-test.true c.clause-item.is
    (clauses (map clause_of c.args.clauses.now)) c.args.self.now c.loop-clause.self c.holds.new.self (g.C.Calls.state c.args.calls.now)
    (g.C.Calls.state c.loop-clause.calls) (g.C.Calls.state c.holds.new.calls) c.loop-clause.invariant.same c.loop-clause.invariant.told c.in-Err.stop c.in-Err.ensures.exact

pub loop-clause-preserved : goal.loop-clause-preserved
loop-clause-preserved g c = record {
  working = c.in-Ok.ensures.blame;
  lasts = lasts_on g.C.Calls.faults g.C.Calls.references g.C.Calls.leads _ _ _ c.loop-clause.invariant.lasts c.in-Ok.ensures.lasts;
  free = c.in-Ok.ensures.free;
  same = same_on c.args.self.now c.loop-clause.self c.holds.new.self c.loop-clause.invariant.same c.in-Ok.ensures.same;
  told =
      told_false c.args.clauses.now c.loop-clause.clause-index c.clause-item.result c.loop-clause-test.true c.clause-item.is
      (clauses (map clause_of c.args.clauses.now)) c.args.self.now c.loop-clause.self c.holds.new.self (g.C.Calls.state c.args.calls.now)
      (g.C.Calls.state c.loop-clause.calls) (g.C.Calls.state c.holds.new.calls) c.loop-clause.invariant.same c.loop-clause.invariant.told
      (subst (λ b. WhereTold (g.C.Calls.state c.loop-clause.calls) (g.C.Calls.state c.holds.new.calls)
      (λ s t. Condition (expression_of c.clause-item.result.condition) (Ok b) c.loop-clause.self c.holds.new.self s t)) c.if-holds.false c.in-Ok.ensures.exact);
}

pub returns-clause-exact : goal.returns-clause-exact
returns-clause-exact g c =
    let all = clauses (map clause_of c.args.clauses.now) in
    told_none all c.args.self.now c.loop-clause.self (g.C.Calls.state c.args.calls.now) (g.C.Calls.state c.loop-clause.calls)
    (subst (λ r. WhereTold (g.C.Calls.state c.args.calls.now) (g.C.Calls.state c.loop-clause.calls) (λ s t. FarOn all r c.args.self.now c.loop-clause.self s t))
    (past_all c.args.clauses.now c.loop-clause.clause-index (omega (arith, c.loop-clause-test.false))) c.loop-clause.invariant.told)

-- ---- what each end leaves

pub returns-then-holds-clause-same : goal.returns-then-holds-clause-same
returns-then-holds-clause-same g c =
    same_on c.args.self.now c.loop-clause.self c.holds.new.self c.loop-clause.invariant.same c.in-Ok.ensures.same

pub returns-then-holds-clause-lasts : goal.returns-then-holds-clause-lasts
returns-then-holds-clause-lasts g c =
    lasts_on g.C.Calls.faults g.C.Calls.references g.C.Calls.leads _ _ _ c.loop-clause.invariant.lasts c.in-Ok.ensures.lasts

pub returns-in-Err-clause-same : goal.returns-in-Err-clause-same
returns-in-Err-clause-same g c =
    same_on c.args.self.now c.loop-clause.self c.holds.new.self c.loop-clause.invariant.same c.in-Err.ensures.same

pub returns-in-Err-clause-blame : goal.returns-in-Err-clause-blame
returns-in-Err-clause-blame g c =
    err_blames_on c.in-Err.stop (g.C.Calls.failed c.holds.new.calls) (g.C.Calls.faults c.args.calls.now) (g.C.Calls.faults c.loop-clause.calls)
    (g.C.Calls.faults c.holds.new.calls) c.loop-clause.invariant.lasts.0 c.in-Err.ensures.blame

pub returns-in-Err-clause-lasts : goal.returns-in-Err-clause-lasts
returns-in-Err-clause-lasts g c =
    lasts_on g.C.Calls.faults g.C.Calls.references g.C.Calls.leads _ _ _ c.loop-clause.invariant.lasts c.in-Err.ensures.lasts
