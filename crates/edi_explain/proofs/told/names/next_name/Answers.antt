use Rattle.edi_explain.proofs.told.Marked.{passes}
use Rattle.edi_explain.proofs.told.names.next_name.Goals as goal

pub loop-index-preserved : goal.loop-index-preserved
loop-index-preserved c =
    passes c.args.marks.now c.args.line c.loop-index.index c.loop-index-test.true _ c.in_default.ensures.exact c.loop-index.invariant
