-- From the process up to the first one.
use Rattle.std.proofs.Common.{◌≡◌, suc, ℕ, ◌+◌, ◌-◌, ◌++◌, List, ap, sym, ◌∙◌, arith, append-nil, reverse}
use Rattle.edi_waits.specs.declared.births.Birth.{Birth}
use Rattle.edi_waits.specs.declared.births.Branch.{Branch}
use Rattle.edi_waits.specs.Names.{name_from}
use Rattle.edi_waits.specs.Told.{name_of}
use Rattle.edi_waits.proofs.Naming.{name_more}
use Rattle.edi_waits.proofs.births.Names.climb.Goals as goal

pub loop-init : goal.loop-init
loop-init c =
    let whole = name_from c.args.self.now c.args.kernel.now.table c.args.depth c.args.slot in
    let all : c.args.depth - 0 ≡ c.args.depth = omega arith in
    record {
      so_far =
          ap (λ n. name_from c.args.self.now c.args.kernel.now.table n c.args.slot ++ name_of (reverse c.new-name.result.items)) all
          ∙ ap (λ (bs : List Branch). whole ++ name_of (reverse bs)) c.new-name.ensures.items
          ∙ append-nil whole;
      inside = c.requires.slot;
    }

pub loop-preserved : goal.loop-preserved
loop-preserved c =
    let names = c.args.self.now in
    let t = c.args.kernel.now.table in
    let left : ℕ = c.args.depth - (c.loop.counter + 1) in
    let e : c.args.depth - c.loop.counter ≡ suc left = omega (arith, c.loop-test.true) in
    let branch : Branch = record { fork = c.birth-birth.result.fork; number = c.birth-birth.result.number } in
    record {
      so_far =
          (λ i. name_from names t left (c.parent-at.ensures.exact i) ++ name_of (reverse (c.in_ok-push.ensures.items i)))
          ∙ name_more names t left c.loop.at c.loop.name.items branch (ap (λ (z : Birth). z.fork) c.birth-birth.ensures.exact)
          (ap (λ (z : Birth). z.number) c.birth-birth.ensures.exact)
          ∙ ap (λ n. name_from names t n c.loop.at ++ name_of (reverse c.loop.name.items)) (sym e)
          ∙ c.loop.invariant.so_far;
      inside = c.parent-at.ensures.inside;
    }

pub returns : goal.returns
returns c =
    let names = c.args.self.now in
    let t = c.args.kernel.now.table in
    let none : c.args.depth - c.loop.counter ≡ 0 = omega (arith, c.loop-test.false) in
    record {
      exact =
          ap name_of c.reverse.ensures.items
          ∙ ap (λ n. name_from names t n c.loop.at ++ name_of (reverse c.loop.name.items)) (sym none)
          ∙ c.loop.invariant.so_far;
    }
