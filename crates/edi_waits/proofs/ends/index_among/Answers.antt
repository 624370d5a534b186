-- Process after process.
use Rattle.std.proofs.Common.{◌≡◌, suc, ◌+◌, drop, map, sym, ap, ◌∙◌, arith}
use Rattle.std.proofs.lemmas.List.{drop_all}
use Rattle.edi_waits.specs.Left.{index_among, told_end}
use Rattle.edi_waits.specs.Told.{name_of}
use Rattle.edi_waits.proofs.Ordered.{found_at, not_at}
use Rattle.edi_waits.proofs.ends.index_among.Goals as goal

pub returns-then-comes_before-clause-exact : goal.returns-then-comes_before-clause-exact
returns-then-comes_before-clause-exact c =
    let none = found_at (name_of c.args.name.now) c.args.processes.now c.loop-index.index (sym c.comes_before.ensures.exact ∙ c.if-comes_before.true) in
    omega (arith, none, c.loop-index.invariant)

pub loop-index-preserved : goal.loop-index-preserved
loop-index-preserved c =
    let p = name_of c.args.name.now in
    let next : suc c.loop-index.index ≡ c.loop-index.index + 1 = omega arith in
    let more = not_at p c.args.processes.now c.loop-index.index (sym c.comes_before.ensures.exact ∙ c.if-comes_before.false) in
    let same = ap (λ n. index_among p (map told_end (drop n c.args.processes.now))) next in
    omega (arith, more, same, c.loop-index.invariant)

pub returns-clause-exact : goal.returns-clause-exact
returns-clause-exact c =
    let p = name_of c.args.name.now in
    let none : index_among p (map told_end (drop c.loop-index.index c.args.processes.now)) ≡ 0 =
    ap (λ ps. index_among p (map told_end ps)) (drop_all c.loop-index.index c.args.processes.now (omega (arith, c.loop-index-test.false))) in
    omega (arith, none, c.loop-index.invariant, c.loop-index-test.false, c.loop-index.auto.index-end)
