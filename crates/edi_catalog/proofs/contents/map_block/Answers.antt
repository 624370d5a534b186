use Rattle.std.proofs.Common.{refl, arith}
use Rattle.edi_catalog.proofs.MapBytes.{map_more, map_done}
use Rattle.edi_catalog.proofs.contents.map_block.Goals as goal

pub loop-i-preserved : goal.loop-i-preserved
loop-i-preserved c =
    map_more c.args.pages.now c.loop-i.block _ c.loop-i.i _ c.loop-i-test.true refl c.loop-i.invariant c.put_short-in-loop-i.ensures

pub returns : goal.returns
returns c = map_done c.args.pages.now c.loop-i.block c.loop-i.i (omega arith) (omega arith) c.loop-i.invariant
