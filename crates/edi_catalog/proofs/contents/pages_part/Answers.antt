use Rattle.std.proofs.Common.{refl}
use Rattle.edi_catalog.proofs.MapBytes.{part_taken}
use Rattle.edi_catalog.proofs.contents.pages_part.Goals as goal

pub returns-clause-part : goal.returns-clause-part
returns-clause-part c =
    part_taken c.args.pages.now _ _ 255 c.args.i _ _ refl c.split_at.ensures.back c.min.ensures c.split_at-2.ensures.front
