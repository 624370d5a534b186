use Rattle.std.proofs.Common.{refl}
use Rattle.edi_image.proofs.migrate.MigratedMaps.{map_put}
use Rattle.edi_image.proofs.migrate.building.put_map.Goals as goal

pub returns-in-Ok-extend_from_slice : goal.returns-in-Ok-extend_from_slice
returns-in-Ok-extend_from_slice c =
    map_put c.args.bytes.now.items c.put_short.new.bytes.items c.put_numbers.new.bytes.items c.split_at.result.0.now
    c.extend_from_slice.new.self.items c.args.first c.args.count _ c.requires.few refl c.in-Ok.ensures c.in-Ok-put_numbers.ensures
    c.split_at.ensures.front c.in-Ok-extend_from_slice.ensures.items
