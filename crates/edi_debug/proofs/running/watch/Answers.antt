-- A watched run.
use Rattle.std.proofs.Common.{refl, arith, map, subst, ◌∙◌}
use Rattle.edi_tree.specs.Whole.{program_of}
use Rattle.edi_debug.specs.Points.{watched}
use Rattle.edi_debug.specs.stops.Near.{TellsPoints}
use Rattle.edi_debug.proofs.Watched.{are_named, nothing_asked, watched_asks, watched_more, watched_ends, watched_first, watched_never}
use Rattle.edi_debug.proofs.Logged.{grows_none, grows_on}
use Rattle.edi_kernel.proofs.Stretches.{lasts_on}
use Rattle.edi_debug.proofs.running.watch.Goals as goal

pub returns-then-bound-eq0-clause-exact : goal.returns-then-bound-eq0-clause-exact
returns-then-bound-eq0-clause-exact g c =
    λ small.
    watched_never (program_of c.args.tree.now) c.requires.sound c.args.mapped.now c.args.points.now c.requires.points c.args.bound c.args.choices.now
    c.args.log.now c.code.result.now c.code.ensures.exact c.start.new.self c.start.ensures.exact (g.C.Calls.state c.args.calls.now) c.if-bound-eq0.true

pub rounds-init : goal.rounds-init
rounds-init g c = record {
  taken = c.start.ensures.taken;
  working = c.requires.working;
  lasts = (λ outside. omega arith, refl, λ start led. led);
  used = omega (arith, c.start.ensures.exact.used);
  source = refl;
  grows = grows_none c.args.log.now;
  drawn = omega arith;
  exact = λ small.
      watched_first (program_of c.args.tree.now) c.requires.sound c.args.mapped.now c.args.points.now c.requires.points c.args.bound c.args.choices.now
      c.args.log.now c.code.result.now c.code.ensures.exact c.start.new.self c.start.ensures.exact (g.C.Calls.state c.args.calls.now)
      (omega (arith, c.if-bound-eq0.false));
}

pub returns-in-Some-clause-exact : goal.returns-in-Some-clause-exact
returns-in-Some-clause-exact g c =
    λ small.
    watched_ends (program_of c.args.tree.now) c.requires.sound c.args.mapped.now c.args.points.now c.requires.points c.args.bound c.args.choices.now
    c.args.log.now (g.C.Calls.state c.args.calls.now) (g.C.Calls.state c.rounds.calls) (g.C.Calls.state c.watch_round.new.calls) c.rounds.kernel
    c.watch_round.new.kernel c.rounds.choices c.watch_round.new.choices c.rounds.log c.watch_round.new.log c.rounds.invariant.source c.in-Some.ending
    (c.rounds.invariant.exact small) (c.in-Some.ensures.exact (omega (arith, small, c.rounds.invariant.drawn, c.rounds.invariant.used)))

pub returns-then-bound-eq0-clause-asked : goal.returns-then-bound-eq0-clause-asked
returns-then-bound-eq0-clause-asked g c =
    λ small.
    nothing_asked (program_of c.args.tree.now) c.requires.sound c.args.mapped.now c.args.points.now c.requires.points c.args.bound c.args.choices.now
    c.args.log.now c.code.result.now c.code.ensures.exact c.start.new.self c.start.ensures.exact (g.C.Calls.state c.args.calls.now)
    (g.C.Calls.failed c.args.calls.now)

pub returns-in-Some-clause-asked : goal.returns-in-Some-clause-asked
returns-in-Some-clause-asked g c =
    λ small.
    watched_asks (program_of c.args.tree.now) c.requires.sound c.args.mapped.now c.args.points.now c.requires.points c.args.bound c.args.choices.now
    c.args.log.now (g.C.Calls.state c.args.calls.now) (g.C.Calls.state c.rounds.calls) (g.C.Calls.state c.watch_round.new.calls) c.rounds.kernel
    c.watch_round.new.kernel c.rounds.choices c.watch_round.new.choices c.rounds.log c.watch_round.new.log c.rounds.invariant.source
    (g.C.Calls.failed c.watch_round.new.calls) c.in-Some.ending (c.rounds.invariant.exact small) c.in-Some.ensures.asked

pub rounds-preserved : goal.rounds-preserved
rounds-preserved g c = record {
  taken = c.in_default.ensures.taken refl;
  working = c.in_default.ensures.blame;
  lasts = lasts_on g.C.Calls.faults g.C.Calls.references g.C.Calls.leads _ _ _ c.rounds.invariant.lasts c.in_default.ensures.lasts;
  used = c.in_default.ensures.used;
  source = c.in_default.ensures.source ∙ c.rounds.invariant.source;
  grows = grows_on c.args.log.now c.rounds.log c.watch_round.new.log c.rounds.invariant.grows c.in_default.ensures.grows;
  drawn = omega (arith, c.in_default.ensures.drawn, c.rounds.invariant.drawn);
  exact = λ small.
      watched_more (program_of c.args.tree.now) c.requires.sound c.args.mapped.now c.args.points.now c.requires.points c.args.bound c.args.choices.now
      c.args.log.now (g.C.Calls.state c.args.calls.now) (g.C.Calls.state c.rounds.calls) (g.C.Calls.state c.watch_round.new.calls) c.rounds.kernel
      c.watch_round.new.kernel c.rounds.choices c.watch_round.new.choices c.rounds.log c.watch_round.new.log c.rounds.invariant.source
      (c.rounds.invariant.exact small) (c.in_default.ensures.exact (omega (arith, small, c.rounds.invariant.drawn, c.rounds.invariant.used)));
}

pub watch_round-requires-clause-named : goal.watch_round-requires-clause-named
watch_round-requires-clause-named g c = are_named (program_of c.args.tree.now) c.args.points.now c.requires.points

pub returns-in-Some-clause-drawn : goal.returns-in-Some-clause-drawn
returns-in-Some-clause-drawn g c = omega (arith, c.watch_round.ensures.drawn, c.watch_round.ensures.used, c.rounds.invariant.drawn)

pub watch_round-requires-clause-near : goal.watch_round-requires-clause-near
watch_round-requires-clause-near g c =
    λ unit mapped.
    subst (λ points. TellsPoints unit c.near_points-near.result (map watched points)) c.as_slice.ensures.value
    (c.near_points-near.ensures.tells unit mapped)

pub returns-in-Some-clause-grows : goal.returns-in-Some-clause-grows
returns-in-Some-clause-grows g c = grows_on c.args.log.now c.rounds.log c.watch_round.new.log c.rounds.invariant.grows c.in-Some.ensures.grows
