use Rattle.std.proofs.Common.{arith}
use Rattle.edi_image.proofs.migrate.MigratedMaps.{numbers_from, numbers_on, numbers_done}
use Rattle.edi_image.proofs.migrate.building.put_numbers.Goals as goal

pub loop-i-init : goal.loop-i-init
loop-i-init c = numbers_from c.args.bytes.now.items c.args.first c.args.count

pub loop-i-preserved : goal.loop-i-preserved
loop-i-preserved c =
    numbers_on c.loop-i.bytes.items _ _ c.args.first c.loop-i.i c.args.count c.loop-i-test.true c.loop-i.invariant c.in-Ok.ensures

pub returns : goal.returns
returns c = numbers_done c.loop-i.bytes.items _ c.args.first c.loop-i.i c.args.count (omega arith) c.loop-i.invariant
