use Rattle.std.proofs.Common.{ap, arith}
use Rattle.std.specs.Prelude.{length}
use Rattle.std.specs.List.{list_all}
use Rattle.edi_image.specs.migrate.OldFiles.{is_old_stored, old_said_at}
use Rattle.edi_image.specs.migrate.OldImage.{old_entries_from, old_entries_of}
use Rattle.edi_image.proofs.Versions.{progress_from, progress_on, progress_fails, progress_ends}
use Rattle.edi_image.proofs.migrate.OldRules.{old_tells}
use Rattle.edi_image.proofs.migrate.old.read_slots.Goals as goal

pub loop-slot-init : goal.loop-slot-init
loop-slot-init c = record {
  progress = progress_from 5 64 c.args.blocks.now (old_said_at c.args.blocks.now) (old_entries_from c.args.blocks.now) (old_tells c.args.blocks.now) _ _
      c.new-used.ensures.items c.new-files.ensures.items;
  stored = ap (list_all (is_old_stored (length c.args.blocks.now))) c.new-files.ensures.items;
}

pub loop-slot-preserved : goal.loop-slot-preserved
loop-slot-preserved c = record {
  progress =
      progress_on 5 64 c.args.blocks.now (old_said_at c.args.blocks.now) (old_entries_from c.args.blocks.now) (old_tells c.args.blocks.now)
      c.loop-slot.slot c.loop-slot.used.items c.read_slot.new.used.items c.loop-slot.files.items c.read_slot.new.files.items c.loop-slot-test.true
      c.loop-slot.invariant.progress c.in-Ok.ensures.finds.0 c.in-Ok.ensures.finds.1;
  stored = c.in-Ok.ensures.stored c.loop-slot.invariant.stored;
}

pub returns-in-Err-clause-finds : goal.returns-in-Err-clause-finds
unfolding old_entries_of
returns-in-Err-clause-finds c =
    progress_fails 5 64 c.args.blocks.now (old_said_at c.args.blocks.now) (old_entries_from c.args.blocks.now) (old_tells c.args.blocks.now) c.loop-slot.slot
    c.loop-slot.used.items c.loop-slot.files.items c.in-Err.fault c.loop-slot-test.true c.loop-slot.invariant.progress c.in-Err.ensures.finds

pub returns-clause-finds : goal.returns-clause-finds
unfolding old_entries_of
returns-clause-finds c =
    progress_ends 5 64 c.args.blocks.now (old_said_at c.args.blocks.now) (old_entries_from c.args.blocks.now) (old_tells c.args.blocks.now) c.loop-slot.slot
    c.loop-slot.used.items c.loop-slot.files.items (omega arith) c.loop-slot.invariant.progress
