use Rattle.std.proofs.Common.{◌∙◌, ap}
use Rattle.std.specs.List.{list_all}
use Rattle.edi_disk.specs.Shown.{drive_of}
use Rattle.edi_catalog.specs.Mounted.{disk_of, files_of}
use Rattle.edi_image.specs.Stored.{is_sized}
use Rattle.edi_catalog.proofs.FileIndices.{all_sized}
use Rattle.edi_catalog.proofs.catalog.Catalog.free_kept.Goals as goal

pub blocks_taken-requires-clause-sized : goal.blocks_taken-requires-clause-sized
blocks_taken-requires-clause-sized g c =
    ap (list_all is_sized) c.deref.ensures.value
    ∙ all_sized (g.D.Drive.count (drive_of (disk_of c.args.self.now))) (files_of c.args.self.now) c.requires.stored
