use Rattle.std.proofs.Common.{take}
use Rattle.edi_disk.specs.Since.{AllOn, Writes}
use Rattle.edi_disk.proofs.disk.write_all.Given as goal

abbrev pub invariant-loop-i : goal.invariant-loop-i
invariant-loop-i g l = record {
  writes : Writes g.D.Drive.contents g.D.Drive.count g.D.Drive.faults l.cache l.fn.drive l.drive;
  on : AllOn g.D.Drive.contents l.drive (take l.i l.cache);
}
