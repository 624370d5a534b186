use Rattle.std.proofs.Common.{◌≤◌, length, arith, subst, List}
use Rattle.std.proofs.lemmas.List.{take_all}
use Rattle.edi_disk.specs.declared.cache.Slot.{Slot}
use Rattle.edi_disk.specs.Since.{AllOn}
use Rattle.edi_disk.proofs.Writing as writing
use Rattle.edi_disk.proofs.disk.write_all.Goals as goal

pub returns-in-Fault-clause-writes : goal.returns-in-Fault-clause-writes
returns-in-Fault-clause-writes g c =
    writing.writes_then g.D.Drive.contents g.D.Drive.count g.D.Drive.faults g.met.D.Drive.counted c.args.cache.now c.args.drive.now c.loop-i.drive
    c.write_one.new.drive c.loop-i.invariant.writes c.write_one.ensures.writes

pub loop-i-preserved : goal.loop-i-preserved
loop-i-preserved g c = record {
  writes = writing.writes_then g.D.Drive.contents g.D.Drive.count g.D.Drive.faults g.met.D.Drive.counted c.args.cache.now c.args.drive.now c.loop-i.drive
      c.write_one.new.drive c.loop-i.invariant.writes c.write_one.ensures.writes;
  on = c.write_one.ensures.more c.in-Ok.is c.loop-i.invariant.on;
}

pub returns-clause-all : goal.returns-clause-all
returns-clause-all g c = λ _.
    let long : length c.args.cache.now ≤ c.loop-i.i = omega (arith, c.len-i-end.ensures.exact) in
    subst (λ (v : List Slot). AllOn g.D.Drive.contents c.loop-i.drive v) (take_all c.loop-i.i c.args.cache.now long) c.loop-i.invariant.on
