use Rattle.edi_image.proofs.migrate.MigratedMaps.{two_put}
use Rattle.edi_image.proofs.migrate.building.put_short.Goals as goal

pub returns-in-Ok : goal.returns-in-Ok
returns-in-Ok c = two_put c.args.bytes.now.items _ _ c.args.number c.ranges.number.fits c.write_u16.ensures c.in-Ok.ensures.items
