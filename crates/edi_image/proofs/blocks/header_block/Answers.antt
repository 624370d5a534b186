use Rattle.std.proofs.Common.{◌∙◌, ap, ◌∷◌}
use Rattle.edi_image.proofs.Headers.{header_made, two_bytes}
use Rattle.edi_image.proofs.blocks.header_block.Goals as goal

pub returns : goal.returns
returns c =
    header_made c.args.version c.args.count _ _
    (c.copy_from_slice.ensures.after
    ∙ ap (λ bs. 69 ∷ 68 ∷ 73 ∷ 83 ∷ 0 ∷ c.args.version ∷ bs) (two_bytes c.args.count _ c.ranges.count.fits c.write_u16.ensures))
    c.split_at_mut-start.ensures.back
