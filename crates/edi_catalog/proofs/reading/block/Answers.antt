use Rattle.std.proofs.Common.{refl}
use Rattle.edi_catalog.proofs.StillCached.{others_stay}
use Rattle.edi_catalog.proofs.reading.block.Goals as goal

pub returns-in-Ok-clause-gives : goal.returns-in-Ok-clause-gives
returns-in-Ok-clause-gives g c = record {
  as_cached = c.in-Ok.ensures.cached;
  caches = c.in-Ok.ensures.caches refl;
  order = c.in-Ok.ensures.order refl;
}

pub returns-in-Ok-clause-others : goal.returns-in-Ok-clause-others
returns-in-Ok-clause-others g c =
    others_stay g.D.Drive.contents g.D.Drive.count c.args.n c.page.new.into c.args.disk.now c.page.new.self c.requires.works (c.in-Ok.ensures.caches refl)
    (c.in-Ok.ensures.order refl)
