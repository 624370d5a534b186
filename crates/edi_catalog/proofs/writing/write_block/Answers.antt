use Rattle.std.proofs.Common.{refl}
use Rattle.edi_image.proofs.Told.{told_map}
use Rattle.edi_catalog.proofs.PutEntry.{block_failed, block_written}
use Rattle.edi_catalog.proofs.StillCached.{others_stay, use_flushed}
use Rattle.edi_catalog.proofs.writing.write_block.Goals as goal

pub returns-in-Fault-clause-writes : goal.returns-in-Fault-clause-writes
returns-in-Fault-clause-writes g c =
    block_failed _ _ _ _ _ _ _ c.requires.settled c.in-Fault.ensures.same_reference c.in-Fault.ensures.count c.in-Fault.ensures.later
    (c.in-Fault.ensures.cause refl) c.in-Fault.ensures.since (told_map _ _ _ _ (λ old new p. tt) c.in-Fault.ensures.shows)

pub returns-in-Ok-clause-writes : goal.returns-in-Ok-clause-writes
returns-in-Ok-clause-writes g c =
    block_written _ _ _ _ _ _ _ c.put_page.new.self _ c.requires.settled c.in-Ok.ensures.same_reference c.in-Ok.ensures.count c.in-Ok.ensures.later
    c.in-Ok.ensures.since c.in-Ok.ensures.shows c.write_cached.ensures.flushes

pub returns-in-Ok-clause-cached : goal.returns-in-Ok-clause-cached
returns-in-Ok-clause-cached g c = λ done.
    use_flushed c.args.n c.args.n _ c.args.disk.now c.put_page.new.self c.write_cached.new.disk refl (c.in-Ok.ensures.caches refl).there
    (others_stay g.D.Drive.contents g.D.Drive.count _ _ c.args.disk.now c.put_page.new.self c.requires.works (c.in-Ok.ensures.caches refl)
    (c.in-Ok.ensures.order refl))
    c.write_cached.ensures.flushes.caches
