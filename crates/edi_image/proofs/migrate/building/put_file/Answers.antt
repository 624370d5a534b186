use Rattle.std.proofs.Common.{ap}
use Rattle.edi_image.specs.Stored.{StoredFile}
use Rattle.edi_image.proofs.migrate.MigratedSteps.{file_put}
use Rattle.edi_image.proofs.migrate.building.put_file.Goals as goal

pub returns-in-Ok-put_pages-clause-puts : goal.returns-in-Ok-put_pages-clause-puts
returns-in-Ok-put_pages-clause-puts c =
    file_put c.args.old.now c.args.bytes.now.items c.put_map.new.bytes.items c.put_pages.new.bytes.items c.args.first c.len.result c.args.file.now
    c.in-Some.file c.file.inside.pages.items c.as_slice.result.now c.in-Some.is (ap (λ (f : StoredFile). f.pages) c.file.view_is) c.len.ensures.value
    c.as_slice.ensures.value c.in-Ok.ensures c.in-Ok-put_pages.ensures
