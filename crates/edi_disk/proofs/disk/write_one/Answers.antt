use Rattle.std.proofs.Common.{sym, ◌∙◌, ap, Bor}
use Rattle.std.specs.Prelude.{Option}
use Rattle.std.specs.Option.{option_copied}
use Rattle.edi_disk.specs.declared.cache.Slot.{Slot}
use Rattle.edi_disk.proofs.Writing as writing
use Rattle.edi_disk.proofs.disk.write_one.Goals as goal

pub returns-in_default-clause-more : goal.returns-in_default-clause-more
returns-in_default-clause-more g c = λ _ on.
    writing.more_none g.D.Drive.contents g.D.Drive.count g.D.Drive.faults g.met.D.Drive.counted c.args.cache.now c.args.drive.now c.args.i
    (sym c.get.ensures ∙ ap (λ (o : Option (Bor Slot)). option_copied o) c.in_default.is) on

pub returns-then-not-slot-clause-more : goal.returns-then-not-slot-clause-more
returns-then-not-slot-clause-more g c = λ _ on.
    writing.more_clean g.D.Drive.contents g.D.Drive.count g.D.Drive.faults g.met.D.Drive.counted c.args.cache.now c.args.drive.now c.args.i c.in-Some.slot.now
    c.requires
    (sym c.get.ensures ∙ ap (λ (o : Option (Bor Slot)). option_copied o) c.in-Some.is) c.if-not-slot.true on

pub write-requires : goal.write-requires
write-requires g c =
    writing.within g.D.Drive.contents g.D.Drive.count g.D.Drive.faults g.met.D.Drive.counted c.args.cache.now c.args.drive.now c.args.i c.in-Some.slot.now
    c.requires
    (sym c.get.ensures ∙ ap (λ (o : Option (Bor Slot)). option_copied o) c.in-Some.is)

pub returns-in-Ok-clause-writes : goal.returns-in-Ok-clause-writes
returns-in-Ok-clause-writes g c =
    writing.writes_one g.D.Drive.contents g.D.Drive.count g.D.Drive.faults g.met.D.Drive.counted c.args.cache.now c.args.drive.now c.write.new.self _ c.args.i
    c.in-Some.slot.now c.requires
    (sym c.get.ensures ∙ ap (λ (o : Option (Bor Slot)). option_copied o) c.in-Some.is) c.write.ensures.leaves c.write.ensures.count c.write.ensures.later

pub returns-in-Ok-clause-more : goal.returns-in-Ok-clause-more
returns-in-Ok-clause-more g c = λ _ on.
    writing.more_one g.D.Drive.contents g.D.Drive.count g.D.Drive.faults g.met.D.Drive.counted c.args.cache.now c.args.drive.now c.write.new.self _ c.args.i
    c.in-Some.slot.now c.requires
    (sym c.get.ensures ∙ ap (λ (o : Option (Bor Slot)). option_copied o) c.in-Some.is) c.write.ensures.leaves c.write.ensures.count c.write.ensures.later
    c.in-Ok.is on

pub returns-in-Failed-clause-writes : goal.returns-in-Failed-clause-writes
returns-in-Failed-clause-writes g c =
    writing.writes_one g.D.Drive.contents g.D.Drive.count g.D.Drive.faults g.met.D.Drive.counted c.args.cache.now c.args.drive.now c.write.new.self _ c.args.i
    c.in-Some.slot.now c.requires
    (sym c.get.ensures ∙ ap (λ (o : Option (Bor Slot)). option_copied o) c.in-Some.is) c.write.ensures.leaves c.write.ensures.count c.write.ensures.later

pub returns-in_default-clause-only : goal.returns-in_default-clause-only
returns-in_default-clause-only g c = writing.only_none g.D.Drive.contents g.D.Drive.count g.D.Drive.faults g.met.D.Drive.counted c.args.drive.now _

pub returns-then-not-slot-clause-only : goal.returns-then-not-slot-clause-only
returns-then-not-slot-clause-only g c = writing.only_none g.D.Drive.contents g.D.Drive.count g.D.Drive.faults g.met.D.Drive.counted c.args.drive.now _

pub returns-in-Ok-clause-only : goal.returns-in-Ok-clause-only
returns-in-Ok-clause-only g c = writing.only_one g.D.Drive.contents g.D.Drive.count g.D.Drive.faults g.met.D.Drive.counted c.args.cache.now c.args.drive.now
    c.write.new.self _ c.args.i c.in-Some.slot.now (sym c.get.ensures ∙ ap (λ (o : Option (Bor Slot)). option_copied o) c.in-Some.is) c.write.ensures.leaves

pub returns-in-Failed-clause-only : goal.returns-in-Failed-clause-only
returns-in-Failed-clause-only g c = writing.only_one g.D.Drive.contents g.D.Drive.count g.D.Drive.faults g.met.D.Drive.counted c.args.cache.now
    c.args.drive.now c.write.new.self _ c.args.i c.in-Some.slot.now (sym c.get.ensures ∙ ap (λ (o : Option (Bor Slot)). option_copied o) c.in-Some.is)
    c.write.ensures.leaves
