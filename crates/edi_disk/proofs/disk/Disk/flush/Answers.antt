use Rattle.edi_disk.proofs.Calls as calls
use Rattle.edi_disk.proofs.Cached.{cached_settled}
use Rattle.edi_disk.proofs.Clean.{clean_settled}
use Rattle.edi_disk.proofs.disk.Disk.flush.Goals as goal

pub returns-in-Ok-clause-works : goal.returns-in-Ok-clause-works
returns-in-Ok-clause-works g c = λ _. calls.flush_works g.D.Drive.contents g.D.Drive.count g.D.Drive.faults g.met.D.Drive.counted c.args.self.now.drive.now
    c.write_all.new.drive c.args.self.now.cache c.settle.new.self c.write_all.ensures.writes (c.write_all.ensures.all c.in-Ok.is) c.settle.ensures

pub returns-in-Ok-clause-shows : goal.returns-in-Ok-clause-shows
returns-in-Ok-clause-shows g c = calls.flush_shows g.D.Drive.contents g.D.Drive.count g.D.Drive.faults g.met.D.Drive.counted c.args.self.now.drive.now
    c.write_all.new.drive c.args.self.now.cache c.settle.new.self c.write_all.ensures.writes (c.write_all.ensures.all c.in-Ok.is) c.settle.ensures

pub returns-in-Ok-clause-settles : goal.returns-in-Ok-clause-settles
returns-in-Ok-clause-settles g c = λ _. calls.flush_settles g.D.Drive.contents g.D.Drive.count g.D.Drive.faults g.met.D.Drive.counted
    c.args.self.now.drive.now c.write_all.new.drive c.args.self.now.cache c.settle.new.self c.write_all.ensures.writes (c.write_all.ensures.all c.in-Ok.is)
    c.settle.ensures

pub returns-in-Ok-clause-since : goal.returns-in-Ok-clause-since
returns-in-Ok-clause-since g c = calls.flush_since g.D.Drive.contents g.D.Drive.count g.D.Drive.faults g.met.D.Drive.counted c.args.self.now.drive.now
    c.write_all.new.drive c.args.self.now.cache c.settle.new.self c.write_all.ensures.writes (c.write_all.ensures.all c.in-Ok.is) c.settle.ensures

pub returns-in-Ok-clause-order : goal.returns-in-Ok-clause-order
returns-in-Ok-clause-order g c = calls.flush_order g.D.Drive.contents g.D.Drive.count g.D.Drive.faults g.met.D.Drive.counted c.args.self.now.drive.now
    c.write_all.new.drive c.args.self.now.cache c.settle.new.self c.write_all.ensures.writes (c.write_all.ensures.all c.in-Ok.is) c.settle.ensures

pub returns-in-Ok-clause-begins : goal.returns-in-Ok-clause-begins
returns-in-Ok-clause-begins g c = λ _. calls.flush_begins g.D.Drive.contents g.D.Drive.count g.D.Drive.faults g.met.D.Drive.counted c.args.self.now.drive.now
    c.write_all.new.drive c.args.self.now.cache c.settle.new.self c.write_all.ensures.writes (c.write_all.ensures.all c.in-Ok.is) c.settle.ensures

pub returns-in-Ok-clause-caches : goal.returns-in-Ok-clause-caches
returns-in-Ok-clause-caches g c = λ n. cached_settled n c.args.self.now.cache c.settle.new.self c.settle.ensures

pub returns-in-Ok-clause-clean : goal.returns-in-Ok-clause-clean
returns-in-Ok-clause-clean g c = λ _. clean_settled c.args.self.now.cache c.settle.new.self c.settle.ensures
