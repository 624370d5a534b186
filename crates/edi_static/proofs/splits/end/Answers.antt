use Rattle.std.proofs.Common.{arith}
use Rattle.edi_static.proofs.Rows.{end_within, end_beyond}
use Rattle.edi_static.proofs.splits.end.Goals as goal

pub returns-then-place-len : goal.returns-then-place-len
returns-then-place-len c = record {
  exact = end_within c.args.rows.now.items c.args.place c.index_mut.result.now (omega (arith, c.if-place-len.true, c.len.ensures, c.args.rows.now.ok.0))
      c.index_mut.ensures.value;
}

pub returns-else-place-len : goal.returns-else-place-len
returns-else-place-len c = record {
  exact = end_beyond c.args.rows.now.items c.args.place (omega (arith, c.if-place-len.false, c.len.ensures, c.args.rows.now.ok.0));
}
