use Rattle.std.proofs.Common.{◌∙◌, ap, ◌++◌, refl}
use Rattle.std.specs.Prelude.{flat_map}
use Rattle.edi_image.specs.Entries.{block_at}
use Rattle.edi_image.proofs.migrate.MigratedSteps.{page_on, none_left_over}
use Rattle.edi_image.proofs.migrate.building.put_pages.Goals as goal

pub loop-page-preserved : goal.loop-page-preserved
loop-page-preserved c =
    page_on c.args.old.now c.args.pages.now c.loop-page.bytes.items _ _ c.loop-page.page-index _ _ c.loop-page-test.true refl
    c.loop-page.invariant (c.in-Ok.ensures.items ∙ ap (λ bs. c.loop-page.bytes.items ++ bs) c.block_in.ensures)

pub returns : goal.returns
returns c =
    none_left_over c.args.pages.now c.loop-page.page-index (flat_map (block_at c.args.old.now)) c.loop-page.bytes.items _
    c.loop-page-test.false refl c.loop-page.invariant
