use Rattle.std.proofs.Common.{arith, sym, ap, not, ◌∙◌, ◌≤◌, length}
use Rattle.edi_catalog.proofs.StoredIndex.{free_at, free_nowhere}
use Rattle.edi_catalog.proofs.storing.free_index.Goals as goal

pub returns-clause-exact : goal.returns-clause-exact
returns-clause-exact c =
    let past : length c.args.files.now ≤ c.loop-index.index = c.loop-index-test.false in
    sym (free_nowhere c.args.files.now (λ k h. c.loop-index.invariant k (omega arith)))

pub returns-then-is_none-clause-exact : goal.returns-then-is_none-clause-exact
returns-then-is_none-clause-exact c =
    sym (free_at c.args.files.now c.loop-index.index _ c.loop-index.invariant c.loop-index-test.true c.index-files-index.is
    (ap not (c.is_none.ensures ∙ ap not c.if-is_none.true)))
