use Rattle.std.proofs.Common.{sym, refl, None}
use Rattle.edi_catalog.specs.Mounted.{files_of}
use Rattle.edi_catalog.specs.SlotsChanged.{deleted}
use Rattle.edi_catalog.proofs.Changing.{changes_as, delete_refusal, has_file, has_unprotected}
use Rattle.edi_catalog.proofs.catalog.Catalog.delete_kept.Goals as goal

pub put_slot-requires-clause-fits : goal.put_slot-requires-clause-fits
put_slot-requires-clause-fits g c =
    let found = has_file c.args.title.now (files_of c.args.self.now) c.in-Some.index (sym c.in-Some.ensures.exact) in
    record { file = found.file; there = found.there; fits = tt }

pub returns : goal.returns
returns g c =
    let h = has_unprotected c.args.title.now (files_of c.args.self.now) c.in-Some.index _ _ (sym c.in-Some.ensures.exact) c.requires.mounted.many
    c.in-Some.ensures.bound c.index.ensures c.is_protected.ensures c.if-is_protected.false in
    record {
      changes =
          changes_as _ _ _ c.put_slot.result _ c.args.title.now c.in-Some.index None deleted deleted h.found.file c.args.self.now _ c.requires.mounted
          (sym c.in-Some.ensures.exact) h.found.there (delete_refusal c.args.title.now (files_of c.args.self.now) c.in-Some.index h.found h.free) refl (λ blocks. refl) c.put_slot.ensures.changes;
    }
