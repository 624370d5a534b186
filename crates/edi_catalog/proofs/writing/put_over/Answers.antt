use Rattle.std.proofs.Common.{rules}
use Rattle.edi_catalog.proofs.EntryFrames.{over_made}
use Rattle.edi_catalog.proofs.writing.put_over.Goals as goal

pub returns : goal.returns
returns c =
    over_made c.args.at c.args.block.now c.args.entry.now _ _ _ _ c.split_at_mut-rest.ensures.front c.copy_from_slice.ensures.after
    c.split_at_mut-rest.ensures.back c.split_at_mut-index.ensures.back (search rules)
