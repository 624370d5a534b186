use Rattle.std.proofs.Common.{refl, rules, false, sym, ap, ◌∙◌, ◌++◌, ◌∷◌, []}
use Rattle.edi_disk.specs.Use.{cached_slot, driven_out, with_room}
use Rattle.edi_disk.specs.Shown.{numbers_of}
use Rattle.edi_disk.proofs.Calls as calls
use Rattle.edi_disk.proofs.Writing as writing
use Rattle.edi_disk.proofs.Cached.{cached_given, none_cached, caches_hit, caches_taken}
use Rattle.edi_disk.proofs.Clean.{clean_hit, clean_taken}
use Rattle.edi_disk.proofs.Lookup.{slot_of_number}
use Rattle.edi_disk.proofs.disk.Disk.page.Goals as goal

pub returns-then-recall : goal.returns-then-recall
returns-then-recall g c =
    let f = c.recall.ensures.found c.if-recall.true in
    let hit = calls.page_hit g.D.Drive.contents g.D.Drive.count g.D.Drive.faults g.met.D.Drive.counted c.args.self.now.drive.now c.args.self.now.cache
    c.recall.new.self c.args.n f.0 c.requires.works c.recall.ensures.bound f.1 c.recall.new.into f.2 f.3 in
    record {
      same_reference = search rules;
      works = λ ok. hit.works;
      gives = hit.shows;
      cached = cached_given c.args.n c.args.self.now.cache f.0 c.recall.new.into f.1 f.2;
      caches = λ ok. caches_hit c.args.n c.args.self.now.cache c.recall.new.self f.0 c.recall.new.into
          (slot_of_number c.args.n c.args.self.now.cache f.0 f.1) (sym f.2) f.3;
      clean = λ ok clean. clean_hit c.args.n c.args.self.now.cache c.recall.new.self f.0 f.1 f.3 clean;
      since = λ base was_put. hit.since base was_put tt;
      drives_out = writing.only_none g.D.Drive.contents g.D.Drive.count g.D.Drive.faults g.met.D.Drive.counted
          c.args.self.now.drive.now (driven_out c.args.n (numbers_of c.args.self.now.cache));
      order = λ ok. hit.order;
      without_drive = search rules;
      count = search rules;
      later = search rules;
      cause = search rules;
    }

pub returns-in-Ok-read : goal.returns-in-Ok-read
returns-in-Ok-read g c =
    let f = c.recall.ensures.absent c.if-recall.false in
    let read = calls.page_read g.D.Drive.contents g.D.Drive.count g.D.Drive.faults g.met.D.Drive.counted c.args.self.now.drive.now c.make_room.new.drive
    c.read.new.self c.recall.new.self c.args.n c.read.new.into _ c.make_room.ensures.writes c.read.ensures.leaves c.read.ensures.count c.read.ensures.later
    c.args.self.now.cache c.hold.new.self f.1 c.requires.in_range f.0 (c.make_room.ensures.first c.in-Ok.is) c.in-Ok-read.is c.hold.ensures in
    record {
      same_reference = search rules;
      works = λ ok. read.works;
      gives = read.shows;
      cached = none_cached c.args.n c.args.self.now.cache _ f.0;
      caches = λ ok. caches_taken c.args.n c.args.self.now.cache c.hold.new.self (cached_slot c.args.n c.read.new.into false) c.read.new.into f.0 refl refl
          (c.hold.ensures ∙ ap (λ ps. with_room ps ++ cached_slot c.args.n c.read.new.into false ∷ []) f.1);
      clean = λ ok clean. clean_taken c.args.self.now.cache c.recall.new.self c.hold.new.self (cached_slot c.args.n c.read.new.into false) f.1 c.hold.ensures
          refl clean;
      since = λ base was_put. read.since base was_put tt;
      drives_out = calls.read_only g.D.Drive.contents g.D.Drive.count g.D.Drive.faults g.met.D.Drive.counted c.args.self.now.drive.now
          c.make_room.new.drive c.read.new.self c.args.self.now.cache c.recall.new.self c.args.n c.read.new.into _ f.1 f.0 c.make_room.ensures.only
          c.read.ensures.leaves c.read.ensures.count c.read.ensures.later;
      order = λ ok. read.order;
      without_drive = λ listed. calls.not_listed g.D.Drive.contents g.D.Drive.count g.D.Drive.faults g.met.D.Drive.counted c.args.self.now.cache c.args.n f.0 listed;
      count = search rules;
      later = search rules;
      cause = search rules;
    }

pub returns-in-Failed-clause-since : goal.returns-in-Failed-clause-since
returns-in-Failed-clause-since g c =
    calls.still_kept g.D.Drive.contents g.D.Drive.count g.D.Drive.faults g.met.D.Drive.counted c.args.self.now.drive.now c.read.new.self c.args.self.now.cache
    c.recall.new.self (c.recall.ensures.absent c.if-recall.false).1
    (calls.read_wrote g.D.Drive.contents g.D.Drive.count g.D.Drive.faults g.met.D.Drive.counted c.args.self.now.drive.now c.make_room.new.drive c.read.new.self
    c.recall.new.self c.args.n c.read.new.into _ c.make_room.ensures.writes c.read.ensures.leaves c.read.ensures.count c.read.ensures.later)

pub returns-in-Failed-clause-without_drive : goal.returns-in-Failed-clause-without_drive
returns-in-Failed-clause-without_drive g c = λ listed. calls.not_listed g.D.Drive.contents g.D.Drive.count g.D.Drive.faults g.met.D.Drive.counted
    c.args.self.now.cache c.args.n (c.recall.ensures.absent c.if-recall.false).0 listed

pub returns-in-Fault-clause-since : goal.returns-in-Fault-clause-since
returns-in-Fault-clause-since g c =
    calls.still_kept g.D.Drive.contents g.D.Drive.count g.D.Drive.faults g.met.D.Drive.counted c.args.self.now.drive.now c.make_room.new.drive
    c.args.self.now.cache c.recall.new.self (c.recall.ensures.absent c.if-recall.false).1 c.make_room.ensures.writes

pub returns-in-Fault-clause-without_drive : goal.returns-in-Fault-clause-without_drive
returns-in-Fault-clause-without_drive g c = λ listed. calls.not_listed g.D.Drive.contents g.D.Drive.count g.D.Drive.faults g.met.D.Drive.counted
    c.args.self.now.cache c.args.n (c.recall.ensures.absent c.if-recall.false).0 listed

pub returns-in-Failed-clause-drives_out : goal.returns-in-Failed-clause-drives_out
returns-in-Failed-clause-drives_out g c =
    let f = c.recall.ensures.absent c.if-recall.false in
    calls.read_only g.D.Drive.contents g.D.Drive.count g.D.Drive.faults g.met.D.Drive.counted c.args.self.now.drive.now
    c.make_room.new.drive c.read.new.self c.args.self.now.cache c.recall.new.self c.args.n c.read.new.into _ f.1 f.0 c.make_room.ensures.only
    c.read.ensures.leaves c.read.ensures.count c.read.ensures.later

pub returns-in-Fault-clause-drives_out : goal.returns-in-Fault-clause-drives_out
returns-in-Fault-clause-drives_out g c =
    let f = c.recall.ensures.absent c.if-recall.false in
    calls.taken_only g.D.Drive.contents g.D.Drive.count g.D.Drive.faults g.met.D.Drive.counted c.args.self.now.drive.now c.make_room.new.drive
    c.make_room.new.drive c.args.self.now.cache c.recall.new.self c.args.n f.1 f.0 c.make_room.ensures.only (λ _ e. e)

pub returns-in-Failed-clause-cached : goal.returns-in-Failed-clause-cached
returns-in-Failed-clause-cached g c = none_cached c.args.n c.args.self.now.cache _ (c.recall.ensures.absent c.if-recall.false).0

pub returns-in-Fault-clause-cached : goal.returns-in-Fault-clause-cached
returns-in-Fault-clause-cached g c = none_cached c.args.n c.args.self.now.cache _ (c.recall.ensures.absent c.if-recall.false).0
