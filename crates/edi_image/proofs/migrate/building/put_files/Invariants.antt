use Rattle.std.proofs.Common.{◌≡◌, ◌+◌, ◌++◌, drop, true}
use Rattle.std.specs.Prelude.{length}
use Rattle.std.specs.List.{list_all}
use Rattle.edi_image.specs.migrate.OldFiles.{is_old_stored}
use Rattle.edi_image.specs.migrate.Migrated.{blocks_of_slots, blocks_bytes, laid_from}
use Rattle.edi_image.proofs.migrate.building.put_files.Given as goal

abbrev pub invariant-loop-file : goal.invariant-loop-file
invariant-loop-file l = record {
  so_far : l.bytes.items ++ blocks_bytes (laid_from l.old l.first (drop l.file-index l.files))
      ≡ l.initial.bytes.items ++ blocks_bytes (laid_from l.old 33 l.files);
  many : l.first + blocks_of_slots (drop l.file-index l.files) ≡ 33 + blocks_of_slots l.files;
  stored : list_all (is_old_stored (length l.old)) (drop l.file-index l.files) ≡ true;
}
