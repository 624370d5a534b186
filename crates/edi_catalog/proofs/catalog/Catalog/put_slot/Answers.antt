use Rattle.std.proofs.Common.{◌∙◌, ap, length, rules, refl}
use Rattle.edi_catalog.specs.Writing.{put_kept}
use Rattle.edi_catalog.specs.Mounted.{files_of}
use Rattle.edi_catalog.proofs.Changing.{has_catalogue, slot_done, slot_failed, slot_kept, slot_room}
use Rattle.edi_catalog.proofs.catalog.Catalog.put_slot.Goals as goal

pub put_kept_entry-requires-clause-disk : goal.put_kept_entry-requires-clause-disk
put_kept_entry-requires-clause-disk g c = record {
  works = c.requires.mounted.works;
  settled = c.requires.mounted.settled;
  catalogue = has_catalogue _ (files_of c.args.self.now) c.args.index c.args.entry c.requires.mounted.stored c.requires.fits;
}

pub put_kept_entry-requires-clause-many : goal.put_kept_entry-requires-clause-many
put_kept_entry-requires-clause-many g c =
    (slot_room _ _ c.args.self.now c.args.index c.args.entry c.requires.mounted c.requires.fits).many

pub returns-in-Ok : goal.returns-in-Ok
returns-in-Ok g c = record {
  changes =
      slot_done _ _ _ tt c.args.index _ _ c.args.entry c.args.self.now _ c.requires.mounted c.requires.within c.requires.fits
      (search rules) c.slot_bytes-bytes.ensures refl c.in-Ok.ensures.puts refl
      (slot_kept c.put_kept_entry.new.room.files.items c.args.index c.take-file.new.self c.kept_as.result c.take-file.result c.index_mut.result.now c.args.entry
      (ap length c.in-Ok.ensures.files ∙ c.requires.mounted.many) c.requires.within c.kept_as.ensures c.take-file.ensures.value c.index_mut.ensures.value
      ∙ ap (λ files. put_kept files c.args.index c.args.entry) c.in-Ok.ensures.files)
      c.in-Ok.ensures.kept (c.in-Ok.ensures.cached refl);
}

pub returns-in-Fault : goal.returns-in-Fault
returns-in-Fault g c = record {
  changes =
      slot_failed _ _ _ c.args.index _ _ c.args.entry c.args.self.now _ c.requires.mounted c.requires.within c.requires.fits
      (search rules) c.slot_bytes-bytes.ensures refl c.in-Fault.ensures.puts refl;
}
