use Rattle.edi_catalog.proofs.MapBytes.{page_made}
use Rattle.edi_catalog.proofs.contents.page_block.Goals as goal

pub returns : goal.returns
returns c = page_made c.args.bytes.now _ _ c.copy_from_slice.ensures.after c.split_at_mut-start.ensures.back
