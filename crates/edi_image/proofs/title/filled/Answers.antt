use Rattle.edi_image.proofs.Spelled.{field_made, kept_made}
use Rattle.edi_image.proofs.title.filled.Goals as goal

pub invariant_of-result : goal.invariant_of-result
invariant_of-result c =
    field_made c.args.title.now _ _ c.requires c.copy_from_slice.ensures.after c.split_at_mut-start.ensures.back

pub returns : goal.returns
returns c = kept_made c.args.title.now _ _ c.requires c.copy_from_slice.ensures.after c.split_at_mut-start.ensures.back
