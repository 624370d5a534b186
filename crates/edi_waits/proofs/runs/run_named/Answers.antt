-- Round after round, up to the end.
use Rattle.std.proofs.Common.{refl, arith, ◌∙◌}
use Rattle.edi_kernel.proofs.Stretches.{lasts_on}
use Rattle.edi_kernel.proofs.Underway.{told_never, told_never_stands}
use Rattle.edi_waits.proofs.Asked.{asked_then, nothing_asked}
use Rattle.edi_waits.proofs.Whole.{goes_more, named_out, never_named, ran_out, stands_out, told_begins}
use Rattle.edi_waits.proofs.runs.run_named.Goals as goal

pub returns-then-bound-eq0-clause-exact : goal.returns-then-bound-eq0-clause-exact
returns-then-bound-eq0-clause-exact g c = λ small.
    told_never c.args.code.now c.args.bound c.args.choices.now (g.C.Calls.state c.args.calls.now) c.start.new.self c.start.new.self
    c.start.ensures.exact c.if-bound-eq0.true c.start.ensures.exact.used

pub returns-then-bound-eq0-clause-asked : goal.returns-then-bound-eq0-clause-asked
returns-then-bound-eq0-clause-asked g c = λ small.
    nothing_asked c.args.code.now c.args.bound c.args.choices.now (g.C.Calls.failed c.args.calls.now) (g.C.Calls.state c.args.calls.now)
    c.start.new.self.used c.args.choices.now

pub returns-then-bound-eq0-clause-stands : goal.returns-then-bound-eq0-clause-stands
returns-then-bound-eq0-clause-stands g c = λ small.
    told_never_stands c.args.code.now c.args.bound c.args.choices.now (g.C.Calls.state c.args.calls.now) c.start.new.self c.start.new.self
    c.start.ensures.exact c.if-bound-eq0.true refl refl refl

pub returns-then-bound-eq0-clause-named : goal.returns-then-bound-eq0-clause-named
returns-then-bound-eq0-clause-named g c = λ small.
    never_named c.args.code.now c.args.bound c.args.choices.now (g.C.Calls.state c.args.calls.now) c.start.new.self c.first-names.result
    c.start.ensures.exact c.if-bound-eq0.true c.first-names.ensures.wide c.first-names.ensures.births

pub rounds-init : goal.rounds-init
rounds-init g c = record {
  kernel = c.start.ensures.exact.kernel;
  taken = c.start.ensures.taken;
  working = c.requires.working;
  lasts = (λ outside. omega arith, refl, λ start led. led);
  used = omega (arith, c.start.ensures.exact.used);
  source = refl;
  drawn = omega arith;
  wide = c.first-names.ensures.wide;
  exact = λ small.
      told_begins c.args.code.now c.args.bound c.args.choices.now (g.C.Calls.state c.args.calls.now) c.start.new.self c.first-names.result
      c.start.ensures.exact (omega (arith, c.if-bound-eq0.false)) c.first-names.ensures.wide c.first-names.ensures.births;
}

pub rounds-preserved : goal.rounds-preserved
rounds-preserved g c = record {
  kernel = c.in_default.ensures.kernel;
  taken = c.in_default.ensures.taken refl;
  working = c.in_default.ensures.blame;
  lasts = lasts_on g.C.Calls.faults g.C.Calls.references g.C.Calls.leads _ _ _ c.rounds.invariant.lasts c.in_default.ensures.lasts;
  used = c.in_default.ensures.used;
  source = c.in_default.ensures.source ∙ c.rounds.invariant.source;
  drawn = omega (arith, c.in_default.ensures.drawn, c.rounds.invariant.drawn);
  wide = c.in_default.ensures.wide;
  exact = λ small.
      goes_more c.args.code.now c.args.bound c.args.choices.now (g.C.Calls.state c.args.calls.now) (g.C.Calls.state c.rounds.calls)
      (g.C.Calls.state c.round.new.calls) c.rounds.kernel c.round.new.kernel c.rounds.choices c.round.new.choices c.rounds.names c.round.new.names
      c.rounds.invariant.source (c.rounds.invariant.exact small)
      (c.in_default.ensures.exact (omega (arith, small, c.rounds.invariant.drawn, c.rounds.invariant.used)));
}

pub returns-in-Some-clause-exact : goal.returns-in-Some-clause-exact
returns-in-Some-clause-exact g c = λ small.
    ran_out c.args.code.now c.args.bound c.args.choices.now (g.C.Calls.state c.args.calls.now) (g.C.Calls.state c.rounds.calls)
    (g.C.Calls.state c.round.new.calls) c.rounds.kernel c.round.new.kernel c.rounds.choices c.round.new.choices c.rounds.names c.round.new.names
    c.rounds.invariant.source c.in-Some.ending (c.rounds.invariant.exact small)
    (c.in-Some.ensures.exact (omega (arith, small, c.rounds.invariant.drawn, c.rounds.invariant.used)))

pub returns-in-Some-clause-stands : goal.returns-in-Some-clause-stands
returns-in-Some-clause-stands g c = λ small.
    stands_out c.args.code.now c.args.bound c.args.choices.now (g.C.Calls.state c.args.calls.now) (g.C.Calls.state c.rounds.calls)
    (g.C.Calls.state c.round.new.calls) c.rounds.kernel c.round.new.kernel c.rounds.choices c.round.new.choices c.rounds.names c.round.new.names
    c.rounds.invariant.source c.in-Some.ending (c.rounds.invariant.exact small)
    (c.in-Some.ensures.exact (omega (arith, small, c.rounds.invariant.drawn, c.rounds.invariant.used)))

pub returns-in-Some-clause-named : goal.returns-in-Some-clause-named
returns-in-Some-clause-named g c = λ small.
    named_out c.args.code.now c.args.bound c.args.choices.now (g.C.Calls.state c.args.calls.now) (g.C.Calls.state c.rounds.calls)
    (g.C.Calls.state c.round.new.calls) c.rounds.kernel c.round.new.kernel c.rounds.choices c.round.new.choices c.rounds.names c.round.new.names
    c.rounds.invariant.source c.in-Some.ending (c.rounds.invariant.exact small)
    (c.in-Some.ensures.exact (omega (arith, small, c.rounds.invariant.drawn, c.rounds.invariant.used)))

pub returns-in-Some-clause-asked : goal.returns-in-Some-clause-asked
returns-in-Some-clause-asked g c = λ small.
    asked_then c.args.code.now c.args.bound c.rounds.kernel c.rounds.choices c.rounds.names (g.C.Calls.failed c.round.new.calls)
    (g.C.Calls.state c.args.calls.now) (g.C.Calls.state c.rounds.calls) (g.C.Calls.state c.round.new.calls) c.args.choices.now c.round.new.kernel
    c.round.new.choices c.in-Some.ending c.rounds.invariant.source (c.rounds.invariant.exact small) c.in-Some.ensures.asked
