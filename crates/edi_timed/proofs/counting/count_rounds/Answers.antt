-- A run whose stints are counted, until it ends.
use Rattle.std.proofs.Common.{◌≡◌, ◌+◌, suc, Some, refl, arith, ◌∙◌}
use Rattle.edi_kernel.proofs.Stretches.{lasts_on}
use Rattle.edi_timeline.specs.Adding.{skipped}
use Rattle.edi_timeline.specs.Told.{meant}
use Rattle.edi_timed.proofs.Counted.{asks_at_end, full_still, goes_first, goes_more, goes_to_end, rounds_told}
use Rattle.edi_timed.proofs.counting.count_rounds.Goals as goal

pub rounds-init : goal.rounds-init
rounds-init g c = record {
  taken = c.requires.taken;
  kernel = c.requires.kernel;
  working = c.requires.working;
  lasts = (λ outside. omega arith, refl, λ start led. led);
  same_reference = refl;
  used = c.requires.used;
  later = omega arith;
  timeline = refl;
  source = refl;
  drawn = omega arith;
  goes = λ seats small.
      goes_first c.args.code.now c.args.bound seats c.args.kernel.now c.args.choices.now c.args.timeline.now (g.C.Calls.state c.args.calls.now.calls.now);
}

pub rounds-preserved : goal.rounds-preserved
rounds-preserved g c = record {
  taken = c.in_default.ensures.taken refl;
  kernel = c.in_default.ensures.kernel refl;
  working = c.in_default.ensures.blame;
  lasts = lasts_on g.C.Calls.faults g.C.Calls.references g.C.Calls.leads _ _ _ c.rounds.invariant.lasts c.in_default.ensures.lasts;
  same_reference = c.in_default.ensures.same_reference ∙ c.rounds.invariant.same_reference;
  used = c.in_default.ensures.used;
  later = omega (arith, c.rounds.invariant.later, c.in_default.ensures.spent refl);
  timeline = c.rounds.invariant.timeline;
  source = c.in_default.ensures.source ∙ c.rounds.invariant.source;
  drawn = omega (arith, c.rounds.invariant.drawn, c.in_default.ensures.drawn);
  goes = λ seats small.
      goes_more c.args.code.now c.args.bound seats c.args.kernel.now c.args.choices.now c.args.timeline.now (g.C.Calls.state c.args.calls.now.calls.now)
      (g.C.Calls.state c.rounds.calls.calls.now) (g.C.Calls.state c.counted_round.new.calls.calls.now) c.rounds.kernel c.counted_round.new.kernel
      c.rounds.choices c.counted_round.new.choices c.rounds.before c.rounds.invariant.source (c.rounds.before + 1) (omega arith)
      (c.rounds.invariant.goes seats small) (c.in_default.ensures.exact seats (rounds_told c.rounds.before c.args.timeline.now)
      (full_still c.rounds.before c.args.timeline.now c.requires.full)
      (omega (arith, small, c.rounds.invariant.drawn, c.rounds.invariant.used, c.rounds.invariant.later)));
}

pub returns-in-Some-clause-counts : goal.returns-in-Some-clause-counts
returns-in-Some-clause-counts g c =
    let number : c.rounds.before + 1 ≡ suc c.rounds.before = omega arith in
    record {
      ends = λ seats small.
          goes_to_end c.args.code.now c.args.bound seats c.args.kernel.now c.args.choices.now c.args.timeline.now (g.C.Calls.state c.args.calls.now.calls.now)
          (g.C.Calls.state c.rounds.calls.calls.now) (g.C.Calls.state c.counted_round.new.calls.calls.now) c.rounds.kernel c.counted_round.new.kernel
          c.rounds.choices c.counted_round.new.choices c.rounds.before c.rounds.invariant.source c.in-Some.ending c.skip.new.self
          (c.skip.ensures.exact ∙ (λ i. skipped (c.rounds.invariant.timeline i) (number i) (Some (meant c.in-Some.ending))))
          (c.rounds.invariant.goes seats small)
          (c.in-Some.ensures.exact seats (rounds_told c.rounds.before c.args.timeline.now)
          (full_still c.rounds.before c.args.timeline.now c.requires.full)
          (omega (arith, small, c.rounds.invariant.drawn, c.rounds.invariant.used, c.rounds.invariant.later)));
      asked = λ seats small.
          asks_at_end c.args.code.now c.args.bound seats c.args.kernel.now c.args.choices.now c.args.timeline.now (g.C.Calls.state c.args.calls.now.calls.now)
          (g.C.Calls.state c.rounds.calls.calls.now) (g.C.Calls.state c.counted_round.new.calls.calls.now) c.rounds.kernel c.counted_round.new.kernel
          c.rounds.choices c.counted_round.new.choices c.rounds.before c.rounds.invariant.source (g.C.Calls.failed c.counted_round.new.calls.calls.now)
          c.in-Some.ending (c.rounds.invariant.goes seats small)
          (c.in-Some.ensures.asked seats (rounds_told c.rounds.before c.args.timeline.now));
    }
