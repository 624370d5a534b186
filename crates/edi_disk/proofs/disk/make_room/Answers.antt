use Rattle.std.proofs.Common.{◌≤◌, length, arith}
use Rattle.edi_disk.specs.Shown.{numbers_of}
use Rattle.edi_disk.specs.Use.{first_of_full}
use Rattle.edi_disk.proofs.Writing as writing
use Rattle.edi_disk.proofs.disk.make_room.Goals as goal

pub returns-then-len-lt-SLOTS-clause-only : goal.returns-then-len-lt-SLOTS-clause-only
returns-then-len-lt-SLOTS-clause-only g c = writing.only_none g.D.Drive.contents g.D.Drive.count g.D.Drive.faults g.met.D.Drive.counted c.args.drive.now
    (first_of_full (numbers_of c.args.cache.now))

pub returns-else-len-lt-SLOTS-clause-only : goal.returns-else-len-lt-SLOTS-clause-only
returns-else-len-lt-SLOTS-clause-only g c =
    let full : 16 ≤ length c.args.cache.now = omega arith in
    writing.only_first g.D.Drive.contents g.D.Drive.count g.D.Drive.faults g.met.D.Drive.counted c.args.cache.now c.args.drive.now c.write_one.new.drive full
    c.write_one.ensures.only
