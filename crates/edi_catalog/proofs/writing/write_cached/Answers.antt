use Rattle.std.proofs.Common.{rules}
use Rattle.edi_catalog.proofs.PutEntry.{told_below}
use Rattle.edi_catalog.proofs.writing.write_cached.Goals as goal

pub returns : goal.returns
returns g c =
    let leaves = told_below g.D.Drive.contents c.args.disk.now c.flush.new.self _ c.flush.ensures.shows in record { flushes = search (rules, leaves) }
