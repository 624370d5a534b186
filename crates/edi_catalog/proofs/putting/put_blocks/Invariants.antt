use Rattle.std.proofs.Common.{Some}
use Rattle.edi_disk.specs.declared.disk.DiskEnd.TheVariants as disk
use Rattle.edi_catalog.specs.Plan.{content_of, used_in}
use Rattle.edi_catalog.specs.Putting.{PutsBlocks}
use Rattle.edi_catalog.proofs.putting.put_blocks.Given as goal

abbrev pub invariant-loop-i : goal.invariant-loop-i
invariant-loop-i g l =
    PutsBlocks g.D.Drive.contents g.D.Drive.count g.D.Drive.faults disk.Ok (used_in (Some l.file)) (content_of l.file l.bytes) l.i l.initial.disk l.disk
