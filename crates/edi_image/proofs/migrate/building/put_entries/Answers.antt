use Rattle.std.proofs.Common.{refl}
use Rattle.edi_image.specs.migrate.Migrated.{entries_bytes, moved_from}
use Rattle.edi_image.proofs.migrate.MigratedSteps.{item_next, none_left_over, entry_on, count_on, count_room}
use Rattle.edi_image.proofs.migrate.building.put_entries.Goals as goal

pub put_entry-requires : goal.put_entry-requires
put_entry-requires c =
    count_room c.args.files.now c.loop-file.file-index c.loop-file.first _ 4096 c.file-item.result
    (item_next c.args.files.now c.loop-file.file-index c.file-item.result _ c.loop-file-test.true c.file-item.is) c.loop-file.invariant.many c.requires

pub loop-file-preserved : goal.loop-file-preserved
loop-file-preserved c =
    let next = item_next c.args.files.now c.loop-file.file-index c.file-item.result _ c.loop-file-test.true c.file-item.is in
    record {
      so_far =
          entry_on c.args.files.now c.loop-file.bytes.items _ _ c.loop-file.file-index c.loop-file.first c.in-Ok.next c.file-item.result next
          c.loop-file.invariant.so_far c.in-Ok.ensures.puts c.in-Ok.ensures.next;
      many = count_on c.args.files.now c.loop-file.file-index c.loop-file.first c.in-Ok.next _ c.file-item.result next c.loop-file.invariant.many
          c.in-Ok.ensures.next;
    }

pub returns : goal.returns
returns c =
    none_left_over c.args.files.now c.loop-file.file-index (λ fs. entries_bytes (moved_from c.loop-file.first fs)) c.loop-file.bytes.items _
    c.loop-file-test.false refl c.loop-file.invariant.so_far
