-- Index after index.
use Rattle.std.proofs.Common.{◌≡◌, suc, ◌+◌, drop, map, sym, ap, ◌∙◌, arith}
use Rattle.std.proofs.lemmas.List.{drop_all}
use Rattle.edi_disjoint.specs.Openly.{index_among, use_of}
use Rattle.edi_disjoint.proofs.Placing.{found_at, not_at}
use Rattle.edi_disjoint.proofs.openly.index_among.Goals as goal

pub returns-then-is_past-clause-exact : goal.returns-then-is_past-clause-exact
returns-then-is_past-clause-exact c =
    let none = found_at (use_of c.args.one) c.args.list.now c.loop-index.index (sym c.is_past.ensures.exact ∙ c.if-is_past.true) in
    omega (arith, none, c.loop-index.invariant)

pub loop-index-preserved : goal.loop-index-preserved
loop-index-preserved c =
    let next : suc c.loop-index.index ≡ c.loop-index.index + 1 = omega arith in
    let more = not_at (use_of c.args.one) c.args.list.now c.loop-index.index (sym c.is_past.ensures.exact ∙ c.if-is_past.false) in
    let same = ap (λ n. index_among (use_of c.args.one) (map use_of (drop n c.args.list.now))) next in
    omega (arith, more, same, c.loop-index.invariant)

pub returns-clause-exact : goal.returns-clause-exact
returns-clause-exact c =
    let none : index_among (use_of c.args.one) (map use_of (drop c.loop-index.index c.args.list.now)) ≡ 0 =
    ap (λ xs. index_among (use_of c.args.one) (map use_of xs)) (drop_all c.loop-index.index c.args.list.now (omega (arith, c.loop-index-test.false))) in
    omega (arith, none, c.loop-index.invariant, c.loop-index-test.false, c.loop-index.auto.index-end)
