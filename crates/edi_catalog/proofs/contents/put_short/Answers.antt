use Rattle.edi_catalog.proofs.MapBytes.{short_put}
use Rattle.edi_catalog.proofs.contents.put_short.Goals as goal

pub returns : goal.returns
returns c =
    short_put c.args.bytes.now _ _ _ c.args.at c.args.number c.ranges.number.fits c.split_at_mut-rest.ensures.front
    c.split_at_mut-rest.ensures.back c.write_u16.ensures
