use Rattle.std.proofs.Common.{[], false}
use Rattle.edi_disk.specs.declared.cache.Slot.{Slot}
use Rattle.edi_disk.proofs.View.{settled_more}
use Rattle.edi_disk.proofs.cache.settle.Goals as goal

pub loop-slot-preserved : goal.loop-slot-preserved
loop-slot-preserved c =
    let d : Slot = record { number = 0; unwritten = false; bytes = [] } in
    settled_more c.args.slots.now c.loop-slot.slots c.loop-slot.slot-index d c.told-slots c.loop-slot-test.true c.loop-slot.invariant
