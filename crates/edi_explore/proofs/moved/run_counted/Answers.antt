-- Round after round.
use Rattle.std.proofs.Common.{refl, sym, subst, ◌∙◌, arith}
use Rattle.edi_explore.specs.Underway.{Comes}
use Rattle.edi_explore.specs.Systems.{system_of}
use Rattle.edi_explore.proofs.Rounds.{begins, never_begins}
use Rattle.edi_explore.proofs.moved.run_counted.Goals as goal

pub returns-then-bound-eq0-clause-exact : goal.returns-then-bound-eq0-clause-exact
returns-then-bound-eq0-clause-exact c =
    never_begins c.args.code.now (system_of c.args.calls.now) c.args.bound c.args.choices.now.source c.start.new.self c.args.choices.now c.start.ensures.exact
    c.if-bound-eq0.true c.requires.first

pub rounds-init : goal.rounds-init
rounds-init c = record {
  kernel = c.start.ensures.exact.kernel;
  taken = c.start.ensures.taken;
  working = c.requires.working;
  used = omega (arith, c.start.ensures.exact.used);
  few = omega arith;
  source = refl;
  drawn = omega (arith, c.requires.first);
  underway =
      begins c.args.code.now (system_of c.args.calls.now) c.args.bound c.args.choices.now.source c.start.new.self c.args.choices.now c.start.ensures.exact
      (omega (arith, c.if-bound-eq0.false)) c.requires.first;
}

pub rounds-preserved : goal.rounds-preserved
rounds-preserved c = record {
  kernel = c.round.ensures.kernel;
  taken = c.round.ensures.taken c.in_default.is;
  working = c.round.ensures.working c.in_default.is;
  used = c.round.ensures.used;
  few = c.round.ensures.few c.in_default.is;
  source = c.round.ensures.source ∙ c.rounds.invariant.source;
  drawn = omega (arith, c.round.ensures.drawn, c.rounds.invariant.drawn);
  underway =
      subst (λ o. Comes c.args.code.now (system_of c.args.calls.now) c.args.bound c.args.choices.now.source o c.round.new.kernel (system_of c.round.new.calls)
      c.round.new.choices c.round.new.moves) c.in_default.is
      (c.round.ensures.exact (omega (arith, c.rounds.invariant.drawn, c.rounds.invariant.used, c.ranges.bound.fits)) (system_of c.args.calls.now) c.args.choices.now
      (sym c.rounds.invariant.source) c.rounds.invariant.underway);
}

pub returns-in-Some-clause-exact : goal.returns-in-Some-clause-exact
returns-in-Some-clause-exact c =
    subst (λ o. Comes c.args.code.now (system_of c.args.calls.now) c.args.bound c.args.choices.now.source o c.round.new.kernel (system_of c.round.new.calls)
    c.round.new.choices c.round.new.moves) c.in-Some.is
    (c.round.ensures.exact (omega (arith, c.rounds.invariant.drawn, c.rounds.invariant.used, c.ranges.bound.fits)) (system_of c.args.calls.now) c.args.choices.now
    (sym c.rounds.invariant.source) c.rounds.invariant.underway)
