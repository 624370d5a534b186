-- From a state back to the first one.
use Rattle.std.proofs.Common.{◌≡◌, suc, ◌+◌, ◌-◌, ◌<◌, length, reverse, sym, ap, ◌∙◌, arith}
use Rattle.edi_explore.specs.Records.{noted, trail}
use Rattle.edi_explore.proofs.Trails.{trail_ends, trail_goes}
use Rattle.edi_explore.proofs.record.choices_to.Goals as goal

pub returns-then-state-eq0 : goal.returns-then-state-eq0
returns-then-state-eq0 c =
    let s = c.args.states.now in
    let n = length s.keys.keys - (c.loop.counter + 1) in
    let left : length s.keys.keys - c.loop.counter ≡ suc n = omega (arith, c.loop-test.true, c.len-end.ensures) in
    c.reverse.ensures.items
    ∙ ap reverse (sym (trail_ends s n c.loop.at c.loop.choices.items c.note.new.choices.items
    (c.in_ok-note.ensures ∙ ap (λ k. noted k c.loop.at.index c.loop.choices.items) c.ready.ensures.slots) c.if-state-eq0.true)
    ∙ ap (λ k. trail s k c.loop.at c.loop.choices.items) (sym left) ∙ c.loop.invariant.so_far)

pub loop-preserved : goal.loop-preserved
loop-preserved c =
    let s = c.args.states.now in
    let n = length s.keys.keys - (c.loop.counter + 1) in
    let left : length s.keys.keys - c.loop.counter ≡ suc n = omega (arith, c.loop-test.true, c.len-end.ensures) in
    let more : 0 < c.loop.at.state = grind (arith, c.if-state-eq0.false) in
    record {
      so_far =
          sym (trail_goes s n c.loop.at c.loop.choices.items c.note.new.choices.items
          (c.in_ok-note.ensures ∙ ap (λ k. noted k c.loop.at.index c.loop.choices.items) c.ready.ensures.slots) c.origin-at.result c.if-state-eq0.false
          c.origin-at.ensures.is)
          ∙ ap (λ k. trail s k c.loop.at c.loop.choices.items) (sym left) ∙ c.loop.invariant.so_far;
      state = omega (arith, c.origin-at.ensures.before more, c.loop.invariant.state);
    }

pub returns : goal.returns
returns c =
    let s = c.args.states.now in
    let none : length s.keys.keys - c.loop.counter ≡ 0 = omega (arith, c.loop-test.false, c.len-end.ensures) in
    c.reverse-2.ensures.items
    ∙ ap reverse (ap (λ k. trail s k c.loop.at c.loop.choices.items) (sym none) ∙ c.loop.invariant.so_far)
