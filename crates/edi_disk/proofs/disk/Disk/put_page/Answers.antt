use Rattle.std.proofs.Common.{◌<◌, List, length, refl, rules, subst, sym, true, ap, ◌∙◌, ◌++◌, ◌∷◌, []}
use Rattle.std.proofs.lemmas.List.{length-map}
use Rattle.edi_disk.specs.declared.cache.Slot.{Slot}
use Rattle.edi_disk.specs.Use.{cached_slot, driven_out, with_room}
use Rattle.edi_disk.specs.Shown.{numbers_of}
use Rattle.edi_disk.proofs.Writing as writing
use Rattle.edi_disk.proofs.Cached.{caches_hit, caches_taken}
use Rattle.edi_disk.proofs.Calls as calls
use Rattle.edi_disk.proofs.disk.Disk.put_page.Goals as goal

pub returns-then-replace : goal.returns-then-replace
returns-then-replace g c =
    let f = c.replace.ensures.found c.if-replace.true in
    let hit = calls.put_hit g.D.Drive.contents g.D.Drive.count g.D.Drive.faults g.met.D.Drive.counted c.args.self.now.drive.now c.args.self.now.cache
    c.replace.new.self c.args.n f.0 c.requires.works c.replace.ensures.bound f.1 c.args.from.now f.2 in
    record {
      same_reference = search rules;
      works = λ ok. hit.works;
      shows = hit.shows;
      caches = λ ok. caches_hit c.args.n c.args.self.now.cache c.replace.new.self (cached_slot c.args.n c.args.from.now true) c.args.from.now refl refl f.2;
      since = hit.since;
      drives_out = writing.only_none g.D.Drive.contents g.D.Drive.count g.D.Drive.faults g.met.D.Drive.counted
          c.args.self.now.drive.now (driven_out c.args.n (numbers_of c.args.self.now.cache));
      order = λ ok. hit.order;
      without_drive = search rules;
      not_yet = search rules;
      count = search rules;
      later = search rules;
      cause = search rules;
    }

pub returns-in-Ok : goal.returns-in-Ok
returns-in-Ok g c =
    let f = c.replace.ensures.absent c.if-replace.false in
    let put = calls.put_in g.D.Drive.contents g.D.Drive.count g.D.Drive.faults g.met.D.Drive.counted c.args.self.now.drive.now c.make_room.new.drive
    c.args.self.now.cache c.replace.new.self c.hold.new.self c.args.n (cached_slot c.args.n c.args.from.now true) f.1 c.requires.in_range f.0
    c.make_room.ensures.writes (c.make_room.ensures.first c.in-Ok.is) refl c.hold.ensures c.args.from.now refl refl in
    record {
      same_reference = search rules;
      works = λ ok. put.works;
      shows = put.shows;
      caches = λ ok. caches_taken c.args.n c.args.self.now.cache c.hold.new.self (cached_slot c.args.n c.args.from.now true) c.args.from.now f.0 refl refl
          (c.hold.ensures ∙ ap (λ ps. with_room ps ++ cached_slot c.args.n c.args.from.now true ∷ []) f.1);
      since = put.since;
      drives_out = calls.taken_only g.D.Drive.contents g.D.Drive.count g.D.Drive.faults g.met.D.Drive.counted c.args.self.now.drive.now
          c.make_room.new.drive c.make_room.new.drive c.args.self.now.cache c.replace.new.self c.args.n f.1 f.0 c.make_room.ensures.only (λ _ e. e);
      order = λ ok. put.order;
      without_drive = λ listed. calls.not_listed g.D.Drive.contents g.D.Drive.count g.D.Drive.faults g.met.D.Drive.counted c.args.self.now.cache c.args.n f.0 listed;
      not_yet = λ few. (
        refl,
        (c.make_room.ensures.idle (subst (λ (ps : List Slot). length ps < 16) (sym f.1)
            (subst (λ n. n < 16) (length-map c.args.self.now.cache (λ (p : Slot). p.number)) few))).1,
      );
      count = search rules;
      later = search rules;
      cause = search rules;
    }

pub returns-in-Fault-clause-since : goal.returns-in-Fault-clause-since
returns-in-Fault-clause-since g c =
    let f = c.replace.ensures.absent c.if-replace.false in
    (λ base was_put _. calls.still_kept g.D.Drive.contents g.D.Drive.count g.D.Drive.faults g.met.D.Drive.counted c.args.self.now.drive.now
    c.make_room.new.drive c.args.self.now.cache c.replace.new.self f.1 c.make_room.ensures.writes base was_put)

pub returns-in-Fault-clause-without_drive : goal.returns-in-Fault-clause-without_drive
returns-in-Fault-clause-without_drive g c = λ listed. calls.not_listed g.D.Drive.contents g.D.Drive.count g.D.Drive.faults g.met.D.Drive.counted
    c.args.self.now.cache c.args.n (c.replace.ensures.absent c.if-replace.false).0 listed

pub returns-in-Fault-clause-drives_out : goal.returns-in-Fault-clause-drives_out
returns-in-Fault-clause-drives_out g c =
    let f = c.replace.ensures.absent c.if-replace.false in
    calls.taken_only g.D.Drive.contents g.D.Drive.count g.D.Drive.faults g.met.D.Drive.counted c.args.self.now.drive.now c.make_room.new.drive
    c.make_room.new.drive c.args.self.now.cache c.replace.new.self c.args.n f.1 f.0 c.make_room.ensures.only (λ _ e. e)
