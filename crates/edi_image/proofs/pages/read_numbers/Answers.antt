use Rattle.std.proofs.Common.{arith}
use Rattle.edi_image.proofs.Scans.{numbers_more}
use Rattle.edi_image.proofs.pages.read_numbers.Goals as goal

pub loop-i-preserved : goal.loop-i-preserved
loop-i-preserved c = record {
  so_far =
      numbers_more _ _ _ c.args.block.now c.loop-i.i _ (omega arith) c.short_at.ensures c.loop-i.invariant.so_far c.push.ensures.items;
  many = omega (arith, c.push.ensures.len, c.loop-i.invariant.many);
}
