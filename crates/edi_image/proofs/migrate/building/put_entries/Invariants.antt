use Rattle.std.proofs.Common.{◌≡◌, ◌+◌, ◌++◌, drop}
use Rattle.edi_image.specs.migrate.Migrated.{blocks_of_slots, entries_bytes, moved_from}
use Rattle.edi_image.proofs.migrate.building.put_entries.Given as goal

abbrev pub invariant-loop-file : goal.invariant-loop-file
invariant-loop-file l = record {
  so_far : l.bytes.items ++ entries_bytes (moved_from l.first (drop l.file-index l.files))
      ≡ l.initial.bytes.items ++ entries_bytes (moved_from 33 l.files);
  many : l.first + blocks_of_slots (drop l.file-index l.files) ≡ 33 + blocks_of_slots l.files;
}
