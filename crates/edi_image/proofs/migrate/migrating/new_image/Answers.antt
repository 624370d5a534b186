use Rattle.std.proofs.Common.{◌∙◌, ap, arith}
use Rattle.std.specs.Prelude.{length}
use Rattle.std.specs.List.{list_all}
use Rattle.edi_image.specs.Stored.{blocks_taken, is_sized}
use Rattle.edi_image.specs.migrate.Migrated.{blocks_of_slots}
use Rattle.edi_image.proofs.migrate.MigratedBytes.{length-old_files}
use Rattle.edi_image.proofs.migrate.Migrations.{all_old_sized, taken_same}
use Rattle.edi_image.proofs.migrate.migrating.new_image.Goals as goal

pub blocks_taken-wanted-requires-clause-slots : goal.blocks_taken-wanted-requires-clause-slots
blocks_taken-wanted-requires-clause-slots c =
    omega (arith, ap length (c.deref.ensures.value ∙ c.in-Ok.ensures.finds.1), length-old_files c.args.old.now)

pub blocks_taken-wanted-requires-clause-sized : goal.blocks_taken-wanted-requires-clause-sized
blocks_taken-wanted-requires-clause-sized c =
    ap (list_all is_sized) c.deref.ensures.value ∙ all_old_sized (length c.args.old.now) c.in-Ok.files.items c.in-Ok.ensures.stored

pub image_bytes-requires-clause-room : goal.image_bytes-requires-clause-room
image_bytes-requires-clause-room c =
    omega (
      arith,
      ap blocks_of_slots c.deref-2.ensures.value,
      taken_same (length c.args.old.now) c.in-Ok.files.items c.in-Ok.ensures.stored,
      ap blocks_taken c.deref.ensures.value,
      c.blocks_taken-wanted.ensures.exact,
      c.if-wanted-free.false,
      c.requires.least,
      c.requires.most,
    )
