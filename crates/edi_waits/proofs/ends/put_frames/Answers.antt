-- Frame after frame, down to the lowest.
use Rattle.std.proofs.Common.{◌≡◌, suc, ◌+◌, ◌-◌, List, [], ◌∷◌, ◌++◌, None, Some, sym, ap, ◌∙◌, arith, append-nil, append_assoc}
use Rattle.edi_kernel.specs.declared.frames.Below.{Below}
use Rattle.edi_kernel.specs.Kept.{below_of}
use Rattle.edi_waits.specs.Left.{frames_after, frames_below}
use Rattle.edi_waits.proofs.ends.put_frames.Goals as goal

pub returns-in_default : goal.returns-in_default
returns-in_default c =
    let memory = c.args.kernel.now.store in
    let first = c.args.first in
    let left = c.args.base - c.args.first in
    let e : left - c.loop.counter ≡ suc (left - c.loop.counter - 1) = omega (arith, c.loop-test.true) in
    let none : below_of memory first c.loop.at ≡ None = sym c.below.ensures.exact ∙ c.in_default.is in
    let nil : frames_below (left - c.loop.counter) memory first c.loop.at ≡ [] =
    ap (λ n. frames_below n memory first c.loop.at) e ∙ ap (frames_after (frames_below (left - c.loop.counter - 1) memory first)) none in
    record {
      exact = sym (append-nil c.loop.frames.items) ∙ ap (λ (xs : List Below). c.loop.frames.items ++ xs) (sym nil) ∙ c.loop.invariant.so_far;
    }

pub loop-preserved : goal.loop-preserved
loop-preserved c =
    let memory = c.args.kernel.now.store in
    let first = c.args.first in
    let left = c.args.base - c.args.first in
    let e : left - c.loop.counter ≡ suc (left - (c.loop.counter + 1)) = omega (arith, c.loop-test.true) in
    let some : below_of memory first c.loop.at ≡ Some c.in-Some.below = sym c.below.ensures.exact ∙ c.in-Some.is in
    let next : frames_below (left - c.loop.counter) memory first c.loop.at
    ≡ c.in-Some.below ∷ frames_below (left - (c.loop.counter + 1)) memory first c.in-Some.below.base =
    ap (λ n. frames_below n memory first c.loop.at) e ∙ ap (frames_after (frames_below (left - (c.loop.counter + 1)) memory first)) some in
    record {
      so_far =
          ap (λ (xs : List Below). xs ++ frames_below (left - (c.loop.counter + 1)) memory first c.in-Some.below.base) c.in_ok-push.ensures.items
          ∙ append_assoc c.loop.frames.items (c.in-Some.below ∷ []) (frames_below (left - (c.loop.counter + 1)) memory first c.in-Some.below.base)
          ∙ ap (λ (xs : List Below). c.loop.frames.items ++ xs) (sym next) ∙ c.loop.invariant.so_far;
      within = c.in-Some.ensures.within;
    }

pub returns : goal.returns
returns c =
    let memory = c.args.kernel.now.store in
    let first = c.args.first in
    let left = c.args.base - c.args.first in
    let none : left - c.loop.counter ≡ 0 = omega (arith, c.loop-test.false) in
    let nil : frames_below (left - c.loop.counter) memory first c.loop.at ≡ [] = ap (λ n. frames_below n memory first c.loop.at) none in
    record {
      exact = sym (append-nil c.loop.frames.items) ∙ ap (λ (xs : List Below). c.loop.frames.items ++ xs) (sym nil) ∙ c.loop.invariant.so_far;
    }
