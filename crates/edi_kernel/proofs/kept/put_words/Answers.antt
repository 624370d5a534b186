-- Frame after frame is put back.
use Rattle.std.proofs.Common.{◌≡◌, suc, ◌+◌, ◌-◌, ◌^◌, ◌≤◌, List, ℕ, true, false, length, take, drop, sym, ap, ap₂, ◌∙◌, arith, length-take}
use Rattle.std.proofs.lemmas.List.{drop-drop}
use Rattle.edi_store.specs.Memory.{written}
use Rattle.edi_store.proofs.MemoryLaws.{length-written}
use Rattle.edi_target.specs.Memory.{word}
use Rattle.edi_kernel.specs.Kept.{kept_words, leads_down, AgreeOutside}
use Rattle.edi_kernel.specs.Frames.{put_frames}
use Rattle.edi_kernel.proofs.Keeping.{put_more, put_last, put_kept, put_outside, left_more, leads_from, leads_long, leads_under}
use Rattle.edi_kernel.proofs.kept.put_words.Goals as goal

-- what has been put when all has, kept again
whole : (n : ℕ) (ws old new m : List ℕ) (first base top : ℕ) → first ≤ base → base + 5 ≤ top → top ≤ 2 ^ 16 → length m ≡ 2 ^ 16 → length old ≡ 2 ^ 16 →
    ws ≡ kept_words n m first base top → new ≡ put_frames n ws old first base top → kept_words n new first base top ≡ ws
whole n ws old new m first base top a b c d e is put =
    ap (λ v. kept_words n v first base top) (put ∙ ap (λ w. put_frames n w old first base top) is)
    ∙ put_kept n m old first base top a b (omega (arith, c, d)) (omega (arith, c, e)) ∙ sym is

outside : (n : ℕ) (ws old new : List ℕ) (first base top : ℕ) → first ≤ base → base + 5 ≤ top → top ≤ 2 ^ 16 → length old ≡ 2 ^ 16 →
    new ≡ put_frames n ws old first base top → AgreeOutside first top old new
outside n ws old new first base top a b c e put at o =
    ap (λ v. word v at) put ∙ put_outside n ws old first base top a b (omega (arith, c, e)) at o

-- the words of the frame, as they are cut out
cut : (done n : ℕ) (ws old now : List ℕ) (at : ℕ) → now ≡ written old at (take (done + n - done) (drop done ws)) → now ≡ written old at (take n (drop done ws))
cut done n ws old now at is = is ∙ ap (λ k. written old at (take k (drop done ws))) (omega arith)

-- the end at a frame without one below it
last : (n i done : ℕ) (ws old now whole : List ℕ) (first base top : ℕ) (k : ℕ) → k ≡ suc n → now ≡ written old base (take (done + (top - base) - done) (drop done ws))
    → leads_down first base (word now (base + 1)) (word now (base + 4)) ≡ false → put_frames k (drop done ws) old first base top ≡ whole → now ≡ whole
last n i done ws old now all first base top k left is leads e =
    put_last n (drop done ws) old now all first base top (cut done (top - base) ws old now base is) leads
    (ap (λ j. put_frames j (drop done ws) old first base top) (sym left) ∙ e)

-- src/kept.rt:142:13
pub returns-then-not-leads_down-clause-kept : goal.returns-then-not-leads_down-clause-kept
returns-then-not-leads_down-clause-kept c =
    whole (c.args.top - c.args.first) c.args.words.now c.args.store.now c.put_frame.new.store c.requires.kept.0 c.args.first c.args.base c.args.top
    c.requires.first c.requires.base c.requires.top c.requires.kept.1 c.loop.invariant.was_long c.requires.kept.2
    (last (c.args.top - c.args.first - (c.loop.counter + 1)) 0 c.loop.done c.args.words.now c.loop.store c.put_frame.new.store
    (put_frames (c.args.top - c.args.first) c.args.words.now c.args.store.now c.args.first c.args.base c.args.top) c.args.first c.loop.from c.loop.to
    (c.args.top - c.args.first - c.loop.counter) (omega (arith, c.loop-test.true)) c.put_frame.ensures.exact
    (ap₂ (leads_down c.args.first c.loop.from) (sym c.below-x.ensures.base) (sym c.below-x.ensures.top) ∙ sym c.leads_down.ensures ∙ c.if-not-leads_down.true)
    c.loop.invariant.so_far)

-- src/kept.rt:142:13
pub returns-then-not-leads_down-clause-outside : goal.returns-then-not-leads_down-clause-outside
returns-then-not-leads_down-clause-outside c =
    outside (c.args.top - c.args.first) c.args.words.now c.args.store.now c.put_frame.new.store c.args.first c.args.base c.args.top
    c.requires.first c.requires.base c.requires.top c.loop.invariant.was_long
    (last (c.args.top - c.args.first - (c.loop.counter + 1)) 0 c.loop.done c.args.words.now c.loop.store c.put_frame.new.store
    (put_frames (c.args.top - c.args.first) c.args.words.now c.args.store.now c.args.first c.args.base c.args.top) c.args.first c.loop.from c.loop.to
    (c.args.top - c.args.first - c.loop.counter) (omega (arith, c.loop-test.true)) c.put_frame.ensures.exact
    (ap₂ (leads_down c.args.first c.loop.from) (sym c.below-x.ensures.base) (sym c.below-x.ensures.top) ∙ sym c.leads_down.ensures ∙ c.if-not-leads_down.true)
    c.loop.invariant.so_far)

-- src/kept.rt:137:5
pub loop-preserved : goal.loop-preserved
loop-preserved c =
    let x = c.below-x.result.0 in
    let t = c.below-x.result.1 in
    let n = c.args.top - c.args.first - (c.loop.counter + 1) in
    let now = c.put_frame.new.store in
    let ws = drop c.loop.done c.args.words.now in
    let left : c.args.top - c.args.first - c.loop.counter ≡ suc n = omega (arith, c.loop-test.true) in
    let leads : leads_down c.args.first c.loop.from x t ≡ true = sym c.leads_down.ensures ∙ c.if-not-leads_down.false in
    let there : leads_down c.args.first c.loop.from (word now (c.loop.from + 1)) (word now (c.loop.from + 4)) ≡ true =
    ap₂ (leads_down c.args.first c.loop.from) (sym c.below-x.ensures.base) (sym c.below-x.ensures.top) ∙ leads in
    let is : now ≡ written c.loop.store c.loop.from (take (c.loop.to - c.loop.from) ws) =
    cut c.loop.done (c.loop.to - c.loop.from) c.args.words.now c.loop.store now c.loop.from c.put_frame.ensures.exact in
    let m = c.loop.invariant.left.0 in
    record {
      so_far =
          ap₂ (λ a b. put_frames n (drop (c.loop.done + (c.loop.to - c.loop.from)) c.args.words.now) now c.args.first a b) c.below-x.ensures.base c.below-x.ensures.top
          ∙ ap (λ w. put_frames n w now c.args.first (word now (c.loop.from + 1)) (word now (c.loop.from + 4)))
          (sym (drop-drop (c.loop.to - c.loop.from) c.loop.done c.args.words.now))
          ∙ put_more n ws c.loop.store now
          (put_frames (c.args.top - c.args.first) c.args.words.now c.args.store.now c.args.first c.args.base c.args.top) c.args.first c.loop.from c.loop.to is there
          (ap (λ k. put_frames k ws c.loop.store c.args.first c.loop.from c.loop.to) (sym left) ∙ c.loop.invariant.so_far);
      left = (
        m,
        c.loop.invariant.left.1,
        sym (drop-drop (c.loop.to - c.loop.from) c.loop.done c.args.words.now)
            ∙ left_more n m ws c.loop.store now c.args.first c.loop.from c.loop.to c.loop.invariant.base
            (omega (arith, c.loop.invariant.top, c.loop.invariant.left.1)) (omega (arith, c.loop.invariant.top, c.loop.invariant.long))
            (c.loop.invariant.left.2 ∙ ap (λ k. kept_words k m c.args.first c.loop.from c.loop.to) left) is there
            ∙ ap₂ (λ a b. kept_words n m c.args.first a b) (sym c.below-x.ensures.base) (sym c.below-x.ensures.top),
      );
      first = leads_from c.args.first c.loop.from x t leads;
      base = leads_long c.args.first c.loop.from x t leads;
      top = omega (arith, leads_under c.args.first c.loop.from x t leads, c.loop.invariant.base, c.loop.invariant.top);
      long = ap length is ∙ length-written c.loop.store c.loop.from (take (c.loop.to - c.loop.from) ws)
          (omega (arith, length-take (c.loop.to - c.loop.from) ws, c.loop.invariant.base, c.loop.invariant.top, c.loop.invariant.long)) ∙ c.loop.invariant.long;
      was_long = c.loop.invariant.was_long;
    }

-- src/kept.rt:125:1
pub returns-clause-kept : goal.returns-clause-kept
returns-clause-kept c =
    whole (c.args.top - c.args.first) c.args.words.now c.args.store.now c.loop.store c.requires.kept.0 c.args.first c.args.base c.args.top
    c.requires.first c.requires.base c.requires.top c.requires.kept.1 c.loop.invariant.was_long c.requires.kept.2
    (none c.args.first c.loop.from c.loop.to (c.args.top - c.args.first - c.loop.counter) (omega (arith, c.loop-test.false)) (drop c.loop.done c.args.words.now)
    c.loop.store ∙ c.loop.invariant.so_far)
  where
    none : (first base top n : ℕ) → n ≡ 0 → (ws old : List ℕ) → old ≡ put_frames n ws old first base top
    none first base top n e ws old = ap (λ k. put_frames k ws old first base top) (sym e)

-- src/kept.rt:125:1
pub returns-clause-outside : goal.returns-clause-outside
returns-clause-outside c =
    outside (c.args.top - c.args.first) c.args.words.now c.args.store.now c.loop.store c.args.first c.args.base c.args.top
    c.requires.first c.requires.base c.requires.top c.loop.invariant.was_long
    (none c.args.first c.loop.from c.loop.to (c.args.top - c.args.first - c.loop.counter) (omega (arith, c.loop-test.false)) (drop c.loop.done c.args.words.now)
    c.loop.store ∙ c.loop.invariant.so_far)
  where
    none : (first base top n : ℕ) → n ≡ 0 → (ws old : List ℕ) → old ≡ put_frames n ws old first base top
    none first base top n e ws old = ap (λ k. put_frames k ws old first base top) (sym e)
