use Rattle.edi_disk.proofs.Calls as calls
use Rattle.edi_disk.proofs.disk.Disk.attach.Goals as goal

pub returns-clause-begins : goal.returns-clause-begins
returns-clause-begins g c = calls.attach_begins g.D.Drive.contents g.D.Drive.count g.D.Drive.faults g.met.D.Drive.counted c.args.drive.now c.new.result
    c.new.ensures
