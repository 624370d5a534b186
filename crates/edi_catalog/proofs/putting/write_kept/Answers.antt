use Rattle.std.specs.Prelude.{slice_index}
use Rattle.std.proofs.Common.{◌≤◌, Some, ap, sym, subst, refl, length, ◌∙◌, arith}
use Rattle.edi_disk.specs.Shown.{drive_of}
use Rattle.edi_disk.proofs.Writing as writing
use Rattle.edi_image.specs.Stored.{StoredFile}
use Rattle.edi_image.specs.Bytes.{bytes_of_record}
use Rattle.edi_catalog.specs.Plan.{ArePut, content_of, used_in}
use Rattle.edi_catalog.specs.Writing.{PutsEntry, entries_with}
use Rattle.edi_catalog.proofs.EntryBlocks.{entries_laid}
use Rattle.edi_catalog.proofs.FileShape.{shape_of, used_behind, used_data}
use Rattle.edi_catalog.proofs.NewFile.{new_fails, new_entry, puts_there}
use Rattle.edi_catalog.proofs.StillCached.{entry_then}
use Rattle.edi_catalog.proofs.Unchanged.{not_early}
use Rattle.edi_catalog.proofs.putting.write_kept.Goals as goal

pub put_kept_entry-requires-clause-disk : goal.put_kept_entry-requires-clause-disk
put_kept_entry-requires-clause-disk g c = record {
  works = c.in-Ok.ensures.puts.works refl;
  settled = c.in-Ok.ensures.settles refl;
  catalogue = subst (λ n. 33 ≤ n) (sym c.in-Ok.ensures.puts.count_stays) c.requires.disk.catalogue;
}

pub put_kept_entry-requires-clause-kept : goal.put_kept_entry-requires-clause-kept
put_kept_entry-requires-clause-kept g c = λ laid told.
    let old = writing.told (ArePut (used_in (Some c.args.file.now)) (content_of c.args.file.now c.args.bytes.now) (length (used_in (Some c.args.file.now))))
    (g.D.Drive.contents (drive_of c.args.disk.now)) (g.D.Drive.contents (drive_of c.write_file.new.disk)) laid
    (puts_there g.D.Drive.contents g.D.Drive.count g.D.Drive.faults _ _ _ c.args.disk.now c.write_file.new.disk c.requires.disk.settled
    (c.in-Ok.ensures.settles refl) c.in-Ok.ensures.puts) told in
    entries_laid (g.D.Drive.count (drive_of c.args.disk.now)) (used_in (Some c.args.file.now)) c.args.room.now.entries.items old.0 laid
    (used_data (g.D.Drive.count (drive_of c.args.disk.now)) c.args.file.now
    (shape_of (g.D.Drive.count (drive_of c.args.disk.now)) c.args.file.now c.requires.file.stored)) old.2.others (c.requires.kept old.0 old.1)

pub returns-in-Ok-clause-writes : goal.returns-in-Ok-clause-writes
returns-in-Ok-clause-writes g c =
    new_entry g.D.Drive.contents g.D.Drive.count g.D.Drive.faults c.put_kept_entry.result c.args.index c.args.file.now c.args.bytes.now
    c.args.disk.now c.write_file.new.disk c.put_kept_entry.new.disk c.requires.disk.settled (c.in-Ok.ensures.settles refl) c.in-Ok.ensures.puts
    (subst (λ e. PutsEntry g.D.Drive.contents g.D.Drive.count g.D.Drive.faults c.put_kept_entry.result c.args.index e c.write_file.new.disk c.put_kept_entry.new.disk)
    (c.entry_bytes.ensures ∙ ap bytes_of_record (ap (λ (f : StoredFile). f.record_) c.file.view_is)) c.put_kept_entry.ensures.puts)

pub returns-in-Ok-clause-kept : goal.returns-in-Ok-clause-kept
returns-in-Ok-clause-kept g c = λ done.
    c.put_kept_entry.ensures.kept
    ∙ ap (λ bytes. entries_with c.args.index bytes c.args.room.now.entries.items)
    (c.entry_bytes.ensures ∙ ap bytes_of_record (ap (λ (f : StoredFile). f.record_) c.file.view_is))

pub returns-in-Fault-clause-writes : goal.returns-in-Fault-clause-writes
returns-in-Fault-clause-writes g c =
    new_fails g.D.Drive.contents g.D.Drive.count g.D.Drive.faults c.args.index c.args.file.now c.args.bytes.now c.args.disk.now c.write_file.new.disk
    c.requires.disk.settled c.in-Fault.ensures.puts

pub returns-in-Ok-clause-entry_cached : goal.returns-in-Ok-clause-entry_cached
returns-in-Ok-clause-entry_cached g c = λ done.
    entry_then _ _ c.args.disk.now c.write_file.new.disk c.put_kept_entry.new.disk
    (λ m h. c.in-Ok.ensures.puts.others_cached refl m
    (not_early (g.D.Drive.count (drive_of c.args.disk.now)) (used_in (Some c.args.file.now)) m
    (used_data (g.D.Drive.count (drive_of c.args.disk.now)) c.args.file.now
    (shape_of (g.D.Drive.count (drive_of c.args.disk.now)) c.args.file.now c.requires.file.stored)) h))
    (c.put_kept_entry.ensures.cached done)

pub returns-in-Ok-clause-file_cached : goal.returns-in-Ok-clause-file_cached
returns-in-Ok-clause-file_cached g c = λ done i block h e.
    c.in-Ok.ensures.puts.put_cached refl i block h
    ((c.put_kept_entry.ensures.cached done).others (slice_index (used_in (Some c.args.file.now)) i)
    (λ same.
    let low : 33 ≤ slice_index (used_in (Some c.args.file.now)) i =
    used_behind (g.D.Drive.count (drive_of c.args.disk.now)) c.args.file.now i c.requires.file.stored h in
    omega (arith, low, same))
    block e)
