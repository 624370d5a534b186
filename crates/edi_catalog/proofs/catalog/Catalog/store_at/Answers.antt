use borrow.Rule.Reborrow.{re_v}
use Rattle.std.specs.Vec.{with_item}
use Rattle.std.proofs.Common.{Some, refl, ap, set, sym, arith}
use Rattle.edi_disk.specs.Shown.{drive_of}
use Rattle.edi_catalog.specs.Mounted.{disk_of, files_of}
use Rattle.edi_catalog.specs.declared.entry.Entry.{Entry}
use Rattle.edi_catalog.proofs.StoredFiles.{changes_done, changes_failed, stores_from}
use Rattle.edi_catalog.proofs.catalog.Catalog.store_at.Goals as goal

pub write_kept-requires-clause-disk : goal.write_kept-requires-clause-disk
write_kept-requires-clause-disk g c = record {
  works = c.requires.mounted.works;
  settled = c.requires.mounted.settled;
  catalogue = omega (arith, c.requires.room);
}

pub write_kept-requires-clause-file : goal.write_kept-requires-clause-file
write_kept-requires-clause-file g c = record {
  stored = c.lay_kept-file.ensures.kept;
  different = c.lay_kept-file.ensures.free.different;
  size = sym (ap (λ (e : Entry). e.length) c.lay_kept-file.ensures.entry);
}

pub write_kept-requires-clause-many : goal.write_kept-requires-clause-many
write_kept-requires-clause-many g c = (c.requires.mounted.room (omega (arith, c.requires.room))).many

pub returns-in-Ok : goal.returns-in-Ok
returns-in-Ok g c = record {
  changes =
      changes_done g.D.Drive.contents g.D.Drive.count g.D.Drive.faults g.met.D.Drive.counted c.args.self.now
      (record {
        disk = c.write_kept.new.disk;
        room = re_v
            (record { files = with_item c.write_kept.new.room.files c.args.index (Some c.lay_kept-file.result); entries = c.write_kept.new.room.entries })
            (re_v c.write_kept.new.room c.args.self.now.room);
      })
      c.args.title.now c.args.kind c.args.bytes.now
      c.args.index c.lay_kept-file.result c.requires.mounted
      (stores_from (g.D.Drive.count (drive_of (disk_of c.args.self.now))) (files_of c.args.self.now) c.args.title.now c.args.kind c.args.bytes.now
      c.args.index c.lay_kept-file.result c.requires.within c.requires.mounted.stored
      c.lay_kept-file.ensures.kept c.lay_kept-file.ensures.free c.lay_kept-file.ensures.entry c.requires.index c.requires.open)
      c.in-Ok.ensures.writes refl (ap (λ files. set files c.args.index (Some c.lay_kept-file.result)) c.in-Ok.ensures.files)
      (c.requires.mounted.room (omega (arith, c.requires.room)))
      (c.in-Ok.ensures.kept refl) (c.in-Ok.ensures.entry_cached refl) (c.in-Ok.ensures.file_cached refl);
}

pub returns-in-Fault : goal.returns-in-Fault
returns-in-Fault g c = record {
  changes =
      changes_failed g.D.Drive.contents g.D.Drive.count g.D.Drive.faults g.met.D.Drive.counted c.args.self.now _ c.args.title.now c.args.kind c.args.bytes.now
      c.args.index c.lay_kept-file.result c.requires.mounted
      (stores_from (g.D.Drive.count (drive_of (disk_of c.args.self.now))) (files_of c.args.self.now) c.args.title.now c.args.kind c.args.bytes.now
      c.args.index c.lay_kept-file.result c.requires.within c.requires.mounted.stored
      c.lay_kept-file.ensures.kept c.lay_kept-file.ensures.free c.lay_kept-file.ensures.entry c.requires.index c.requires.open)
      c.in-Fault.ensures.writes refl;
}
