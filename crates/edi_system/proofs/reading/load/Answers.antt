use Rattle.std.proofs.Common.{◌∙◌, refl, sym}
use Rattle.std.proofs.lemmas.Bool.{true≢false}
use Rattle.edi_catalog.specs.declared.ends.CatEnd.{CatEnd}
use Rattle.edi_system.proofs.Loading.{kept_is}
use Rattle.edi_system.proofs.Pages.{page_read}
use Rattle.edi_system.proofs.reading.load.Goals as goal

pub returns-in-Ok-clause-reading : goal.returns-in-Ok-clause-reading
returns-in-Ok-clause-reading g c =
    page_read CatEnd g.D.Drive.contents c.in-Ok.field-0 c.args.catalog.now c.read_page.new.self c.args.page.now c.read_page.new.into c.args.reading.now _
    c.requires.reading c.in-Ok.ensures.files c.in-Ok.ensures.reads

pub returns-then-is_kept-clause-loads : goal.returns-then-is_kept-clause-loads
returns-then-is_kept-clause-loads g c = record {
  keeps = kept_is _ c.args.reading.now.kept (sym c.is_kept.ensures ∙ c.if-is_kept.true);
  rests = λ yes. (refl, refl);
  gives = λ no. absurd (true≢false (sym c.if-is_kept.true ∙ c.is_kept.ensures ∙ no));
}

pub returns-in-Ok-clause-loads : goal.returns-in-Ok-clause-loads
returns-in-Ok-clause-loads g c = record {
  keeps = refl;
  rests = λ yes. absurd (true≢false (sym yes ∙ sym c.is_kept.ensures ∙ c.if-is_kept.false));
  gives = λ no. c.in-Ok.ensures.gives;
}
