use Rattle.edi_disk.specs.Shown.{IsWorking}
use Rattle.edi_system_rows.proofs.catalog.disk_calls.answered.Given as goal

abbrev pub invariant-loop-i : goal.invariant-loop-i
invariant-loop-i g l = IsWorking g.D.Drive.contents g.D.Drive.count l.disk
