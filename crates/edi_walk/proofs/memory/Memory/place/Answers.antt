use Rattle.std.proofs.Common.{◌+◌, sym, subst, ap, ◌∙◌}
use Rattle.edi_calls.specs.Names.{same}
use Rattle.edi_walk.specs.Memory.{StandsAt}
use Rattle.edi_walk.proofs.Entries.{stands_there, passed_one}
use Rattle.edi_walk.proofs.memory.Memory.place.Goals as goal

pub returns-then-is_same-clause-exact : goal.returns-then-is_same-clause-exact
returns-then-is_same-clause-exact c =
    let entry = c.entry-item.result in
    let it = sym (ap (same c.args.name.now) c.deref.ensures.value) ∙ sym c.is_same.ensures.exact ∙ c.if-is_same.true in
    subst (λ k. StandsAt c.args.name.now k c.args.self.now.entries.items) (sym c.loop-entry.invariant.at)
    (subst (StandsAt c.args.name.now c.loop-entry.entry-index) c.deref-entry-items.ensures.value
    (stands_there c.args.name.now c.loop-entry.entry-index c.deref-entry-items.result.now entry c.loop-entry-test.true c.entry-item.is it
    c.loop-entry.invariant.passed))

pub loop-entry-preserved : goal.loop-entry-preserved
loop-entry-preserved c =
    let entry = c.entry-item.result in
    let other = sym (ap (same c.args.name.now) c.deref.ensures.value) ∙ sym c.is_same.ensures.exact ∙ c.if-is_same.false in
    record {
      at = ap (λ n. n + 1) c.loop-entry.invariant.at;
      passed = passed_one c.args.name.now c.loop-entry.entry-index c.deref-entry-items.result.now entry c.loop-entry-test.true c.entry-item.is other
          c.loop-entry.invariant.passed;
    }
