-- Frame after frame is kept.
use Rattle.std.proofs.Common.{◌≡◌, suc, ◌+◌, ◌-◌, ◌++◌, true, sym, ap, ap₂, ◌∙◌, arith}
use Rattle.edi_target.specs.Memory.{word}
use Rattle.edi_kernel.specs.Kept.{kept_of, kept_words, leads_down}
use Rattle.edi_kernel.proofs.Keeping.{kept_last, kept_more, leads_from, leads_long, leads_under}
use Rattle.edi_kernel.proofs.kept.keep_words.Goals as goal

-- src/kept.rt:104:13
pub returns-then-not-leads_down : goal.returns-then-not-leads_down
returns-then-not-leads_down c =
    let m = c.args.store.now in
    let left : c.args.top - c.args.first - c.loop.counter ≡ suc (c.args.top - c.args.first - (c.loop.counter + 1)) = omega (arith, c.loop-test.true) in
    record {
      exact =
          c.in_ok-keep_frame.ensures.exact
          ∙ kept_last c.loop.words.items m (c.args.top - c.args.first - (c.loop.counter + 1)) c.args.first c.loop.from c.loop.to
          (kept_of m c.args.first c.args.base c.args.top)
          (ap₂ (leads_down c.args.first c.loop.from) (sym c.below-x.ensures.base) (sym c.below-x.ensures.top) ∙ sym c.leads_down.ensures ∙ c.if-not-leads_down.true)
          (ap (λ n. c.loop.words.items ++ kept_words n m c.args.first c.loop.from c.loop.to) (sym left) ∙ c.loop.invariant.so_far);
      whole = c.get-whole.ensures.whole;
    }

-- src/kept.rt:100:5
pub loop-preserved : goal.loop-preserved
loop-preserved c =
    let m = c.args.store.now in
    let x = c.below-x.result.0 in
    let t = c.below-x.result.1 in
    let n = c.args.top - c.args.first - (c.loop.counter + 1) in
    let left : c.args.top - c.args.first - c.loop.counter ≡ suc n = omega (arith, c.loop-test.true) in
    let leads : leads_down c.args.first c.loop.from x t ≡ true = sym c.leads_down.ensures ∙ c.if-not-leads_down.false in
    record {
      so_far =
          ap₂ (λ a b. c.keep_frame.new.words.items ++ kept_words n m c.args.first a b) c.below-x.ensures.base c.below-x.ensures.top
          ∙ ap (λ ws. ws ++ kept_words n m c.args.first (word m (c.loop.from + 1)) (word m (c.loop.from + 4))) c.in_ok-keep_frame.ensures.exact
          ∙ kept_more c.loop.words.items m n c.args.first c.loop.from c.loop.to (kept_of m c.args.first c.args.base c.args.top)
          (ap₂ (leads_down c.args.first c.loop.from) (sym c.below-x.ensures.base) (sym c.below-x.ensures.top) ∙ leads)
          (ap (λ k. c.loop.words.items ++ kept_words k m c.args.first c.loop.from c.loop.to) (sym left) ∙ c.loop.invariant.so_far);
      first = leads_from c.args.first c.loop.from x t leads;
      base = leads_long c.args.first c.loop.from x t leads;
      top = omega (arith, leads_under c.args.first c.loop.from x t leads, c.loop.invariant.base, c.loop.invariant.top);
    }
