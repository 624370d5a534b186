use Rattle.std.proofs.Common.{◌∙◌}
use Rattle.edi_image.proofs.migrate.MigratedSteps.{image_put}
use Rattle.edi_image.proofs.migrate.building.image_bytes.Goals as goal

pub returns-in-Ok-put_files : goal.returns-in-Ok-put_files
returns-in-Ok-put_files c =
    image_put c.args.old.now c.args.count c.args.files.now c.in_ok-bytes.bytes.items c.put_entries.new.bytes.items c.put_files.new.bytes.items
    (c.in_ok-bytes.ensures.items ∙ c.header_block.ensures) c.in-Ok.ensures c.in-Ok-put_files.ensures
