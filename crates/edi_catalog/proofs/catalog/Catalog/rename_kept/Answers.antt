use Rattle.std.proofs.Common.{◌≡◌, ◌∙◌, ap, sym, refl, inr, Some, Err}
use Rattle.edi_catalog.specs.Mounted.{files_of}
use Rattle.edi_catalog.specs.Changes.{kept_renamed}
use Rattle.edi_catalog.specs.SlotsChanged.{file_renamed}
use Rattle.edi_catalog.specs.Writing.{file_as, kept_as, record_renamed}
use Rattle.std.specs.Prelude.{is_some}
use Rattle.edi_catalog.specs.declared.ends.CatEnd.TheVariants as cat
use Rattle.edi_image.proofs.KeptFiles.{file_of}
use Rattle.edi_catalog.proofs.Changing.{changes_as, entry_is, has_file, has_unprotected, none_there, not_changed, record_at, rename_refusal}
use Rattle.edi_catalog.proofs.Changing.{some_title, titled_some, untitled_none}
use Rattle.edi_catalog.proofs.catalog.Catalog.rename_kept.Goals as goal

pub returns-then-is_some : goal.returns-then-is_some
returns-then-is_some g c =
    let h = has_unprotected c.args.from.now (files_of c.args.self.now) c.in-Some.index _ _ (sym c.in-Some.ensures.exact) c.requires.mounted.many
    c.in-Some.ensures.bound c.index.ensures c.is_protected.ensures c.if-is_protected.false in
    record {
      changes =
          not_changed _ _ _ _ _ _ _ c.args.self.now c.requires.mounted (
            rename_refusal c.args.from.now c.args.to.now (files_of c.args.self.now) c.in-Some.index h.found _ h.free
                (titled_some c.args.to.now (files_of c.args.self.now) c.index_kept-2.result (sym c.index_kept-2.ensures.exact) (sym c.is_some.ensures ∙ c.if-is_some.true)),
            refl,
          )
          (λ blocks. refl) (λ e. absurd (let never : Err cat.Taken ≡ Err cat.Fault = e in cc));
    }

pub put_slot-requires-clause-fits : goal.put_slot-requires-clause-fits
put_slot-requires-clause-fits g c =
    let files = files_of c.args.self.now in
    let found = has_file c.args.from.now files c.in-Some.index (sym c.in-Some.ensures.exact) in
    let is = entry_is files c.in-Some.index _ found.file c.record_renamed-entry.result (record_renamed c.args.to.now) c.requires.mounted.many c.in-Some.ensures.bound
    c.index-2.ensures found.there c.record_renamed-entry.ensures.exact in
    record_at files c.in-Some.index found.file _ c.record_renamed-entry.result found.there
    (record {
      title = some_title c.record_renamed-entry.result _ is c.record_renamed-entry.ensures.title;
      maps = refl;
      length_ = refl;
      free = inr (sym c.index_kept-2.ensures.exact ∙ none_there c.index_kept-2.result (sym c.is_some.ensures ∙ c.if-is_some.false));
    })
    is

pub returns : goal.returns
returns g c =
    let h = has_unprotected c.args.from.now (files_of c.args.self.now) c.in-Some.index _ _ (sym c.in-Some.ensures.exact) c.requires.mounted.many
    c.in-Some.ensures.bound c.index.ensures c.is_protected.ensures c.if-is_protected.false in
    let none = sym c.index_kept-2.ensures.exact ∙ none_there c.index_kept-2.result (sym c.is_some.ensures ∙ c.if-is_some.false) in
    let is = entry_is (files_of c.args.self.now) c.in-Some.index _ h.found.file c.record_renamed-entry.result (record_renamed c.args.to.now) c.requires.mounted.many c.in-Some.ensures.bound
    c.index-2.ensures h.found.there c.record_renamed-entry.ensures.exact in
    record {
      changes =
          changes_as _ _ _ c.put_slot.result _ c.args.from.now c.in-Some.index c.record_renamed-entry.result (kept_renamed c.args.to.now)
          (file_renamed c.args.to.now) h.found.file c.args.self.now _ c.requires.mounted (sym c.in-Some.ensures.exact) h.found.there
          (rename_refusal c.args.from.now c.args.to.now (files_of c.args.self.now) c.in-Some.index h.found _ h.free (ap is_some (untitled_none c.args.to.now (files_of c.args.self.now) none)))
          (ap (λ e. kept_as e (Some h.found.file)) is) (λ blocks. ap (λ e. file_as e (Some (file_of blocks h.found.file))) is)
          c.put_slot.ensures.changes;
    }
