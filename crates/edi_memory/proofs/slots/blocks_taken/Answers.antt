use Rattle.std.proofs.Common.{arith}
use Rattle.edi_calls.proofs.Indices.{blocks_taken-more}
use Rattle.edi_memory.proofs.slots.blocks_taken.Goals as goal

pub loop-slot-preserved : goal.loop-slot-preserved
loop-slot-preserved c =
    let more = blocks_taken-more c.args.slots.now c.loop-slot.slot-index c.slot-item.result c.loop-slot-test.true c.slot-item.is in
    record { exact = cc; bound = omega arith }
