use Rattle.std.proofs.Common.{subst, length, Some}
use Rattle.edi_catalog.specs.Plan.{content_of, used_in}
use Rattle.edi_catalog.specs.Putting.{PutsBlocks}
use Rattle.edi_catalog.proofs.PutBlocks.{puts_flushed}
use Rattle.edi_catalog.proofs.putting.write_file.Goals as goal

pub returns-in-Ok-clause-puts : goal.returns-in-Ok-clause-puts
returns-in-Ok-clause-puts g c =
    puts_flushed g.D.Drive.contents g.D.Drive.count g.D.Drive.faults c.write_cached.result _ _ _ c.args.disk.now c.put_blocks.new.disk c.write_cached.new.disk
    (subst
    (λ e. PutsBlocks g.D.Drive.contents g.D.Drive.count g.D.Drive.faults e (used_in (Some c.args.file.now)) (content_of c.args.file.now c.args.bytes.now)
    (length (used_in (Some c.args.file.now))) c.args.disk.now c.put_blocks.new.disk)
    c.in-Ok.is c.put_blocks.ensures.puts)
    c.write_cached.ensures.flushes
