use Rattle.std.proofs.Common.{arith, sym, ◌∙◌, ◌≤◌, length}
use Rattle.edi_catalog.proofs.FileIndices.{index_at, index_none}
use Rattle.edi_catalog.proofs.files.index_of.Goals as goal

pub returns-then-is_titled-clause-exact : goal.returns-then-is_titled-clause-exact
returns-then-is_titled-clause-exact c =
    sym (index_at c.args.title.now _ _ _ c.loop-index.invariant c.loop-index-test.true
    c.index-files-index.is (sym c.is_titled.ensures ∙ c.if-is_titled.true))

pub returns-clause-exact : goal.returns-clause-exact
returns-clause-exact c =
    let past : length c.args.files.now ≤ c.loop-index.index = c.loop-index-test.false in
    sym (index_none c.args.title.now _ (λ k h. c.loop-index.invariant k (omega arith)))
