use Rattle.std.proofs.Common.{ap, sym, refl, inl, Some}
use Rattle.edi_catalog.specs.Mounted.{files_of}
use Rattle.edi_catalog.specs.Changes.{kept_protected, not_found}
use Rattle.edi_catalog.specs.SlotsChanged.{file_protected}
use Rattle.edi_catalog.specs.Writing.{file_as, kept_as, record_protected}
use Rattle.edi_image.proofs.KeptFiles.{file_of}
use Rattle.edi_catalog.proofs.Changing.{changes_as, entry_is, has_file, kept_title, record_at}
use Rattle.edi_catalog.proofs.catalog.Catalog.protect_kept.Goals as goal

pub put_slot-requires-clause-fits : goal.put_slot-requires-clause-fits
put_slot-requires-clause-fits g c =
    let files = files_of c.args.self.now in
    let found = has_file c.args.title.now files c.in-Some.index (sym c.in-Some.ensures.exact) in
    record_at files c.in-Some.index found.file _ c.record_protected-entry.result found.there
    (record {
      title = kept_title _ files c.in-Some.index found.file c.requires.mounted.stored found.there;
      maps = refl;
      length_ = refl;
      free = inl refl;
    })
    (entry_is files c.in-Some.index _ found.file c.record_protected-entry.result (record_protected c.args.protected) c.requires.mounted.many c.in-Some.ensures.bound
    c.index.ensures found.there c.record_protected-entry.ensures)

pub returns : goal.returns
returns g c =
    let files = files_of c.args.self.now in
    let found = has_file c.args.title.now files c.in-Some.index (sym c.in-Some.ensures.exact) in
    let is = entry_is files c.in-Some.index _ found.file c.record_protected-entry.result (record_protected c.args.protected) c.requires.mounted.many c.in-Some.ensures.bound
    c.index.ensures found.there c.record_protected-entry.ensures in
    record {
      changes =
          changes_as _ _ _ c.put_slot.result _ c.args.title.now c.in-Some.index c.record_protected-entry.result (kept_protected c.args.protected)
          (file_protected c.args.protected) found.file c.args.self.now _ c.requires.mounted (sym c.in-Some.ensures.exact) found.there (ap not_found found.titled)
          (ap (λ e. kept_as e (Some found.file)) is) (λ blocks. ap (λ e. file_as e (Some (file_of blocks found.file))) is)
          c.put_slot.ensures.changes;
    }
