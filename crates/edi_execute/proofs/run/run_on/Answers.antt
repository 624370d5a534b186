use Rattle.std.proofs.Common.{◌≡◌, ◌∙◌, ◌<◌, ap, arith, rules, subst, sym}
use Rattle.edi_disk.specs.Shown.{drive_of}
use Rattle.edi_execute.proofs.Runs.{call_leaves, mounted_run, none_falls, only_read, run_leaves}
use Rattle.edi_execute.proofs.run.run_on.Goals as goal

pub returns-clause-leaves : goal.returns-clause-leaves
returns-clause-leaves g c =
    run_leaves g.D.Drive.contents g.S.Source.left g.T.Sink.taken g.P.Sink.taken c.new-system.result c.execute-ending.new.system _ _
    (record {
      drive = only_read g.D.Drive.contents (drive_of c.attach-disk.result) (drive_of c.check.new.disk) _ _ _ c.in-Ok-check.ensures.leaves
          (search rules) (search rules);
      input = search rules;
      terminal = search rules;
      printer = search rules;
    })
    (record { drive = search rules; input = search rules; terminal = search rules; printer = search rules })
    c.args.code.now c.args.bound c.args.choices.now (record { ending = c.execute-ending.result; failed = c.failed.result; due = c.due.result }) _ _ _
    c.new-system.ensures.begins c.execute-ending.ensures.exact c.execute-ending.ensures.moment c.due.ensures.exact c.execute-ending.ensures.told
    c.execute-ending.ensures.due

pub returns-clause-call : goal.returns-clause-call
returns-clause-call g c = λ outside is few.
    call_leaves g.D.Drive.contents g.S.Source.left g.T.Sink.taken g.P.Sink.taken c.new-system.result c.execute-ending.new.system _ _
    (record {
      drive = only_read g.D.Drive.contents (drive_of c.attach-disk.result) (drive_of c.check.new.disk) _ _ _ c.in-Ok-check.ensures.leaves
          (search rules) (search rules);
      input = search rules;
      terminal = search rules;
      printer = search rules;
    })
    (record { drive = search rules; input = search rules; terminal = search rules; printer = search rules })
    c.args.code.now c.args.bound c.args.choices.now outside (c.execute-ending.ensures.call outside (sym c.failed.ensures.exact ∙ is) few)

pub returns-clause-mounted : goal.returns-clause-mounted
returns-clause-mounted g c =
    mounted_run g.D.Drive.contents g.S.Source.left g.T.Sink.taken g.P.Sink.taken c.new-system.result c.execute-ending.new.system g.D.Drive.count _ _
    c.new-system.ensures.ready
    (only_read g.D.Drive.contents (drive_of c.attach-disk.result) (drive_of c.check.new.disk) _ _ _ c.in-Ok-check.ensures.leaves (search rules)
    (search rules)) (search rules)
    c.execute-ending.ensures.told

pub returns-clause-valid : goal.returns-clause-valid
returns-clause-valid g c = (returns-clause-leaves g c).told.valid

pub returns-clause-later : goal.returns-clause-later
returns-clause-later g c =
    none_falls _ _ _ _ c.new-system.result c.execute-ending.new.system _ _ (search rules) (search rules) (search rules) (search rules)
    (record { drive = search rules; input = search rules; terminal = search rules; printer = search rules })
    c.execute-ending.ensures.keeps.later

pub returns-clause-least : goal.returns-clause-least
returns-clause-least g c = λ some few.
    let same : c.args.drive.now ≡ drive_of c.attach-disk.result = search rules in
    let never = c.in-Ok-check.ensures.short (subst (λ d. 0 < g.D.Drive.count d) same some) (subst (λ d. g.D.Drive.count d < 64) same few) in absurd (cc)

pub returns-clause-most : goal.returns-clause-most
returns-clause-most g c =
    let same : c.args.drive.now ≡ drive_of c.attach-disk.result = search rules in
    omega (arith, c.in-Ok-check.ensures.checked.most, c.check.ensures.count, ap g.D.Drive.count same)
