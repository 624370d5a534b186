use Rattle.std.proofs.Common.{refl}
use Rattle.edi_catalog.proofs.MapBytes.{part_taken}
use Rattle.edi_catalog.proofs.contents.bytes_part.Goals as goal

pub returns-clause-part : goal.returns-clause-part
returns-clause-part c =
    part_taken c.args.bytes.now _ _ 512 c.args.i _ _ refl c.split_at.ensures.back c.min.ensures c.split_at-2.ensures.front
