use Rattle.std.proofs.Common.{◌≡◌, ◌<◌, ap, arith, rules, subst}
use Rattle.edi_disk.specs.Shown.{drive_of}
use Rattle.edi_unit.specs.View.{unit_of}
use Rattle.edi_execute.proofs.Runs.{mounted_run, none_falls, only_read}
use Rattle.edi_runs.proofs.walk.Left.{walk_leaves}
use Rattle.edi_runs.proofs.walk.run.walk_on.Goals as goal

pub returns-clause-leaves : goal.returns-clause-leaves
returns-clause-leaves g c =
    walk_leaves g.D.Drive.contents g.S.Source.left g.T.Sink.taken g.P.Sink.taken c.new-system.result c.walk_execution-end.new.system _ _
    (record {
      drive = only_read g.D.Drive.contents (drive_of c.attach-disk.result) (drive_of c.check.new.disk) _ _ _ c.in-Ok-check.ensures.leaves
          (search rules) (search rules);
      input = search rules;
      terminal = search rules;
      printer = search rules;
    })
    (record { drive = search rules; input = search rules; terminal = search rules; printer = search rules })
    (unit_of c.args.unit.now) c.args.bound c.args.choices.now
    (record { end = c.walk_execution-end.result; failed = c.failed.result; due = c.due.result }) _
    c.new-system.ensures.begins c.walk_execution-end.ensures.exact c.walk_execution-end.ensures.asked c.walk_execution-end.ensures.before_end
    c.walk_execution-end.ensures.failed.0
    c.failed.ensures.exact c.due.ensures.exact c.walk_execution-end.ensures.told
    c.walk_execution-end.ensures.due

pub returns-clause-mounted : goal.returns-clause-mounted
returns-clause-mounted g c =
    mounted_run g.D.Drive.contents g.S.Source.left g.T.Sink.taken g.P.Sink.taken c.new-system.result c.walk_execution-end.new.system g.D.Drive.count _ _
    c.new-system.ensures.ready
    (only_read g.D.Drive.contents (drive_of c.attach-disk.result) (drive_of c.check.new.disk) _ _ _ c.in-Ok-check.ensures.leaves (search rules)
    (search rules)) (search rules)
    c.walk_execution-end.ensures.told

pub returns-clause-later : goal.returns-clause-later
returns-clause-later g c =
    none_falls _ _ _ _ c.new-system.result c.walk_execution-end.new.system _ _ (search rules) (search rules) (search rules) (search rules)
    (record { drive = search rules; input = search rules; terminal = search rules; printer = search rules })
    c.walk_execution-end.ensures.keeps.later

pub returns-clause-least : goal.returns-clause-least
returns-clause-least g c = λ some few.
    let same : c.args.drive.now ≡ drive_of c.attach-disk.result = search rules in
    let never = c.in-Ok-check.ensures.short (subst (λ d. 0 < g.D.Drive.count d) same some) (subst (λ d. g.D.Drive.count d < 64) same few) in absurd (cc)

pub returns-clause-most : goal.returns-clause-most
returns-clause-most g c =
    let same : c.args.drive.now ≡ drive_of c.attach-disk.result = search rules in
    omega (arith, c.in-Ok-check.ensures.checked.most, c.check.ensures.count, ap g.D.Drive.count same)
