-- A run of the kernel is the machine's.
use Rattle.std.proofs.Common.{refl, ap, arith, ◌∙◌, false}
use Rattle.std.specs.Prelude.{is_some}
use Rattle.edi_kernel.proofs.Rounds.{nothing_told}
use Rattle.edi_kernel.proofs.Underway.{told_never, told_begins, told_ends, told_faults, told_more, told_never_stands, told_stands}
use Rattle.edi_kernel.proofs.Stretches.{lasts_on}
use Rattle.edi_kernel.proofs.state.KernelState.run.Goals as goal

pub returns-then-bound-eq0-clause-exact : goal.returns-then-bound-eq0-clause-exact
returns-then-bound-eq0-clause-exact g c =
    λ small.
    told_never c.args.code.now c.args.bound c.args.choices.now (g.C.Calls.state c.args.calls.now) c.start.new.self
    (record c.start.new.self { entering = false }) c.start.ensures c.if-bound-eq0.true c.start.ensures.used

pub returns-then-bound-eq0-clause-stands : goal.returns-then-bound-eq0-clause-stands
returns-then-bound-eq0-clause-stands g c =
    λ small.
    told_never_stands c.args.code.now c.args.bound c.args.choices.now (g.C.Calls.state c.args.calls.now) c.start.new.self
    (record c.start.new.self { entering = false }) c.start.ensures c.if-bound-eq0.true refl refl refl

pub rounds-init : goal.rounds-init
rounds-init g c = record {
  kernel = record { table = c.start.ensures.kernel.table; taken = c.start.ensures.kernel.taken; arrived = c.start.ensures.kernel.arrived };
  taken = ap is_some c.start.ensures.taken;
  working = c.requires.working;
  lasts = (λ outside. omega arith, refl, λ start led. led);
  used = omega (arith, c.if-bound-eq0.false);
  source = refl;
  drawn = omega arith;
  exact = λ small.
      told_begins c.args.code.now c.args.bound c.args.choices.now (g.C.Calls.state c.args.calls.now) c.start.new.self
      (record c.start.new.self { entering = false; used = 1 }) c.start.ensures (omega (arith, c.if-bound-eq0.false)) refl refl refl refl;
}

pub returns-in-Some-clause-exact : goal.returns-in-Some-clause-exact
returns-in-Some-clause-exact g c =
    λ small.
    told_ends c.args.code.now c.args.bound c.args.choices.now (g.C.Calls.state c.args.calls.now) (g.C.Calls.state c.rounds.calls)
    (g.C.Calls.state c.round.new.calls) c.rounds.self c.round.new.self c.rounds.choices c.round.new.choices c.in-Some.ending
    c.rounds.invariant.source c.round.ensures.used (c.rounds.invariant.exact small)
    (c.in-Some.ensures.exact (omega (arith, small, c.rounds.invariant.drawn, c.rounds.invariant.used)))

pub returns-in-Some-clause-stands : goal.returns-in-Some-clause-stands
returns-in-Some-clause-stands g c =
    λ small.
    told_stands c.args.code.now c.args.bound c.args.choices.now (g.C.Calls.state c.args.calls.now) (g.C.Calls.state c.rounds.calls)
    (g.C.Calls.state c.round.new.calls) c.rounds.self c.round.new.self c.rounds.choices c.round.new.choices c.in-Some.ending
    c.rounds.invariant.source (c.rounds.invariant.exact small)
    (c.in-Some.ensures.exact (omega (arith, small, c.rounds.invariant.drawn, c.rounds.invariant.used))) c.in-Some.ensures.ends

pub rounds-preserved : goal.rounds-preserved
rounds-preserved g c = record {
  kernel = c.in_default.ensures.kernel;
  taken = c.in_default.ensures.taken refl;
  working = c.in_default.ensures.blame;
  lasts = lasts_on g.C.Calls.faults g.C.Calls.references g.C.Calls.leads _ _ _ c.rounds.invariant.lasts c.in_default.ensures.lasts;
  used = c.in_default.ensures.used;
  source = c.in_default.ensures.source ∙ c.rounds.invariant.source;
  drawn = omega (arith, c.in_default.ensures.drawn, c.in_default.ensures.spent refl, c.rounds.invariant.drawn);
  exact = λ small.
      told_more c.args.code.now c.args.bound c.args.choices.now (g.C.Calls.state c.args.calls.now) (g.C.Calls.state c.rounds.calls)
      (g.C.Calls.state c.round.new.calls) c.rounds.self c.round.new.self c.rounds.choices c.round.new.choices
      c.rounds.invariant.source (c.rounds.invariant.exact small)
      (c.in_default.ensures.exact (omega (arith, small, c.rounds.invariant.drawn, c.rounds.invariant.used)));
}

pub returns-then-bound-eq0-clause-asked : goal.returns-then-bound-eq0-clause-asked
returns-then-bound-eq0-clause-asked g c = λ small. nothing_told (g.C.Calls.state c.args.calls.now)

pub returns-in-Some-clause-asked : goal.returns-in-Some-clause-asked
returns-in-Some-clause-asked g c =
    λ small.
    told_faults c.args.code.now c.args.bound c.args.choices.now (g.C.Calls.failed c.round.new.calls) (g.C.Calls.state c.args.calls.now)
    (g.C.Calls.state c.rounds.calls)
    (g.C.Calls.state c.round.new.calls) c.rounds.self c.round.new.self c.rounds.choices c.round.new.choices c.in-Some.ending
    c.rounds.invariant.source c.round.ensures.used (c.rounds.invariant.exact small) c.in-Some.ensures.asked
