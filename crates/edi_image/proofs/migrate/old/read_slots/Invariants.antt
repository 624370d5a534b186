use Rattle.std.proofs.Common.{◌≡◌, true}
use Rattle.std.specs.Prelude.{length}
use Rattle.std.specs.List.{list_all}
use Rattle.edi_image.specs.migrate.OldFiles.{is_old_stored}
use Rattle.edi_image.specs.migrate.OldImage.{old_entries_from}
use Rattle.edi_image.proofs.Versions.{Progress}
use Rattle.edi_image.proofs.migrate.old.read_slots.Given as goal

abbrev pub invariant-loop-slot : goal.invariant-loop-slot
invariant-loop-slot l = record {
  progress : Progress 5 64 l.blocks (old_entries_from l.blocks) l.slot l.used.items l.files.items;
  stored : list_all (is_old_stored (length l.blocks)) l.files.items ≡ true;
}
