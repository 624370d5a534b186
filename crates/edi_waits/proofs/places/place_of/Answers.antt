-- Frame after frame, down to the lowest.
use Rattle.std.proofs.Common.{◌≡◌, suc, ◌+◌, ◌-◌, List, ℕ, [], ◌∷◌, ◌++◌, None, Some, sym, ap, ◌∙◌, arith, append-nil, append_assoc}
use Rattle.edi_kernel.specs.Kept.{below_of}
use Rattle.edi_waits.specs.Places.{call_lines, line_before}
use Rattle.edi_waits.proofs.CallLines.{lines_none, lines_some}
use Rattle.edi_waits.proofs.places.place_of.Goals as goal

pub returns-in_default : goal.returns-in_default
returns-in_default c =
    let words = c.args.code.now.words in
    let memory = c.args.kernel.now.store in
    let e : 5 - c.loop.counter ≡ suc (4 - c.loop.counter) = omega (arith, c.loop-test.true) in
    let none : below_of memory c.args.first c.loop.at ≡ None = sym c.below.ensures.exact ∙ c.in_default.is in
    let nil : call_lines words (5 - c.loop.counter) memory c.args.first c.loop.at ≡ [] =
    ap (λ n. call_lines words n memory c.args.first c.loop.at) e ∙ lines_none words memory c.args.first c.loop.at (4 - c.loop.counter) none in
    record {
      exact = sym (append-nil c.loop.lines.items) ∙ ap (λ (xs : List ℕ). c.loop.lines.items ++ xs) (sym nil) ∙ c.loop.invariant.so_far;
    }

pub loop-preserved : goal.loop-preserved
loop-preserved c =
    let words = c.args.code.now.words in
    let memory = c.args.kernel.now.store in
    let e : 5 - c.loop.counter ≡ suc (4 - c.loop.counter) = omega (arith, c.loop-test.true) in
    let less : 5 - (c.loop.counter + 1) ≡ 4 - c.loop.counter = omega arith in
    let some : below_of memory c.args.first c.loop.at ≡ Some c.in-Some.below = sym c.below.ensures.exact ∙ c.in-Some.is in
    let next : call_lines words (5 - c.loop.counter) memory c.args.first c.loop.at
    ≡ line_before words c.in-Some.below.back ∷ call_lines words (4 - c.loop.counter) memory c.args.first c.in-Some.below.base =
    ap (λ n. call_lines words n memory c.args.first c.loop.at) e ∙ lines_some words memory c.args.first c.loop.at (4 - c.loop.counter) c.in-Some.below some in
    record {
      so_far =
          ap (λ (xs : List ℕ). xs ++ call_lines words (5 - (c.loop.counter + 1)) memory c.args.first c.in-Some.below.base)
          (c.in_ok-push-2.ensures.items ∙ ap (λ (l : ℕ). c.loop.lines.items ++ l ∷ []) c.line_before-in-loop.ensures)
          ∙ ap (λ n. (c.loop.lines.items ++ line_before words c.in-Some.below.back ∷ []) ++ call_lines words n memory c.args.first c.in-Some.below.base) less
          ∙ append_assoc c.loop.lines.items (line_before words c.in-Some.below.back ∷ [])
          (call_lines words (4 - c.loop.counter) memory c.args.first c.in-Some.below.base)
          ∙ ap (λ (xs : List ℕ). c.loop.lines.items ++ xs) (sym next) ∙ c.loop.invariant.so_far;
      within = c.in-Some.ensures.within;
    }
