use Rattle.std.proofs.Common.{refl}
use Rattle.std.specs.Prelude.{length}
use Rattle.edi_image.specs.migrate.Migrated.{blocks_bytes, laid_from}
use Rattle.edi_image.proofs.migrate.MigratedSteps.{item_next, none_left_over, file_on, count_on, count_room, stored_on}
use Rattle.edi_image.proofs.migrate.building.put_files.Goals as goal

pub put_file-requires-clause-room : goal.put_file-requires-clause-room
put_file-requires-clause-room c =
    count_room c.args.files.now c.loop-file.file-index c.loop-file.first _ 4096 c.file-item.result
    (item_next c.args.files.now c.loop-file.file-index c.file-item.result _ c.loop-file-test.true c.file-item.is) c.loop-file.invariant.many c.requires.room

pub put_file-requires-clause-stored : goal.put_file-requires-clause-stored
put_file-requires-clause-stored c =
    (stored_on (length c.args.old.now) c.args.files.now c.loop-file.file-index c.file-item.result
    (item_next c.args.files.now c.loop-file.file-index c.file-item.result _ c.loop-file-test.true c.file-item.is) c.loop-file.invariant.stored).0

pub loop-file-preserved : goal.loop-file-preserved
loop-file-preserved c =
    let next = item_next c.args.files.now c.loop-file.file-index c.file-item.result _ c.loop-file-test.true c.file-item.is in
    record {
      so_far =
          file_on c.args.old.now c.args.files.now c.loop-file.bytes.items _ _ c.loop-file.file-index c.loop-file.first c.in-Ok.next c.file-item.result next
          c.loop-file.invariant.so_far c.in-Ok.ensures.puts c.in-Ok.ensures.next;
      many = count_on c.args.files.now c.loop-file.file-index c.loop-file.first c.in-Ok.next _ c.file-item.result next c.loop-file.invariant.many
          c.in-Ok.ensures.next;
      stored = (stored_on (length c.args.old.now) c.args.files.now c.loop-file.file-index c.file-item.result next c.loop-file.invariant.stored).1;
    }

pub returns : goal.returns
returns c =
    none_left_over c.args.files.now c.loop-file.file-index (λ fs. blocks_bytes (laid_from c.args.old.now c.loop-file.first fs)) c.loop-file.bytes.items _
    c.loop-file-test.false refl c.loop-file.invariant.so_far
