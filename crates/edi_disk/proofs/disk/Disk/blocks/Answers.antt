use Rattle.edi_disk.proofs.Calls as calls
use Rattle.edi_disk.proofs.disk.Disk.blocks.Goals as goal

pub returns-clause-counts : goal.returns-clause-counts
returns-clause-counts g c = rw c.blocks-2.ensures.count
    (calls.shown_counted g.D.Drive.contents g.D.Drive.count g.D.Drive.faults g.met.D.Drive.counted c.args.self.now.drive.now c.args.self.now.cache)
