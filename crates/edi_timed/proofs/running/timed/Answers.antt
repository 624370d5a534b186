-- A timed run.
use Rattle.std.proofs.Common.{refl, arith, ap, sym, ◌∙◌}
use Rattle.std.specs.Prelude.{replicate}
use Rattle.edi_timeline.specs.Timelines.{Told}
use Rattle.edi_timed.proofs.Asked.{asked_then, nothing_asked}
use Rattle.edi_timed.proofs.Whole.{first_fits, timed_ends, timed_first, timed_never}
use Rattle.std.proofs.lemmas.Bool.{leb-false, leb-true}
use Rattle.edi_timed.proofs.running.timed.Goals as goal

pub returns-then-bound-eq0-clause-exact : goal.returns-then-bound-eq0-clause-exact
returns-then-bound-eq0-clause-exact g c = λ small.
    timed_never c.args.code.now c.args.bound c.args.choices.now c.new-seats.result.items c.args.timeline.now c.start.new.self c.start.ensures.exact
    (g.C.Calls.state c.args.calls.now.calls.now) c.requires.empty c.if-bound-eq0.true (record { characters = replicate 7 0; many = 0 }) refl (omega arith)
    c.add.new.self c.add.ensures.exact

pub rounds-init : goal.rounds-init
rounds-init g c = record {
  taken = c.start.ensures.taken;
  kernel = c.start.ensures.exact.kernel;
  working = c.requires.working;
  lasts = (λ outside. omega arith, refl, λ start led. led);
  same_reference = refl;
  used = omega (arith, c.start.ensures.exact.used);
  fits = first_fits c.new-seats.result.items c.args.timeline.now c.new-seats.ensures c.requires.empty;
  count = omega (arith, ap (λ (t : Told). t.count) c.requires.empty);
  source = refl;
  drawn = omega arith;
  exact = λ small.
      timed_first c.args.code.now c.args.bound c.args.choices.now c.new-seats.result.items c.args.timeline.now c.start.new.self c.start.ensures.exact
      (g.C.Calls.state c.args.calls.now.calls.now) c.requires.empty (omega (arith, c.if-bound-eq0.false)) c.new-seats.ensures;
}

pub returns-then-bound-eq0-clause-asked : goal.returns-then-bound-eq0-clause-asked
returns-then-bound-eq0-clause-asked g c = λ small.
    nothing_asked c.args.code.now c.args.bound c.args.choices.now (g.C.Calls.failed c.args.calls.now.calls.now) (g.C.Calls.state c.args.calls.now.calls.now)
    c.start.new.self.used c.args.choices.now

pub returns-in-Some-clause-asked : goal.returns-in-Some-clause-asked
returns-in-Some-clause-asked g c = λ small.
    asked_then c.args.code.now c.args.bound c.rounds.kernel c.rounds.choices c.rounds.seats.items c.rounds.timeline
    (g.C.Calls.failed c.timed_round.new.heard.calls.now) (g.C.Calls.state c.args.calls.now.calls.now) (g.C.Calls.state c.rounds.calls.calls.now)
    (g.C.Calls.state c.timed_round.new.heard.calls.now) c.args.choices.now c.timed_round.new.kernel c.timed_round.new.choices c.in-Some.ending
    c.rounds.invariant.source (c.rounds.invariant.exact small) c.in-Some.ensures.asked

pub timed_round-requires-clause-room : goal.timed_round-requires-clause-room
timed_round-requires-clause-room g c = leb-false 100000 c.rounds.timeline.count (sym c.is_full.ensures ∙ c.if-is_full.false)

-- where the timeline is full, the further stints are counted
pub count_on-requires-clause-full : goal.count_on-requires-clause-full
count_on-requires-clause-full g c = leb-true 100000 c.rounds.timeline.count (sym c.is_full.ensures ∙ c.if-is_full.true)

pub returns-then-is_full-clause-exact : goal.returns-then-is_full-clause-exact
returns-then-is_full-clause-exact g c = λ small.
    timed_ends c.args.code.now c.args.bound c.args.choices.now c.rounds.seats.items c.rounds.timeline (g.C.Calls.state c.args.calls.now.calls.now)
    (g.C.Calls.state c.rounds.calls.calls.now) (g.C.Calls.state c.count_on.new.calls) c.rounds.kernel c.count_on.new.kernel c.rounds.choices
    c.count_on.new.choices c.rounds.seats.items c.rounds.seats.items c.rounds.timeline c.count_on.new.timeline c.rounds.invariant.source c.count_on.result
    (c.rounds.invariant.exact small)
    (c.count_on.ensures.counts.ends c.rounds.seats.items (omega (arith, small, c.rounds.invariant.drawn, c.rounds.invariant.used)))

pub returns-then-is_full-clause-asked : goal.returns-then-is_full-clause-asked
returns-then-is_full-clause-asked g c = λ small.
    asked_then c.args.code.now c.args.bound c.rounds.kernel c.rounds.choices c.rounds.seats.items c.rounds.timeline
    (g.C.Calls.failed c.count_on.new.calls) (g.C.Calls.state c.args.calls.now.calls.now) (g.C.Calls.state c.rounds.calls.calls.now)
    (g.C.Calls.state c.count_on.new.calls) c.args.choices.now c.count_on.new.kernel c.count_on.new.choices c.count_on.result
    c.rounds.invariant.source (c.rounds.invariant.exact small)
    (c.count_on.ensures.counts.asked c.rounds.seats.items (omega (arith, small, c.rounds.invariant.drawn, c.rounds.invariant.used)))
