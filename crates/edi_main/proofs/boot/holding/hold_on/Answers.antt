-- The exits of a session on four objects.
use Rattle.std.proofs.Common.{rules}
use Rattle.edi_disk.specs.Shown.{drive_of}
use Rattle.edi_execute.proofs.Runs.{mounted_run, none_falls, only_read}
use Rattle.edi_shell_io.specs.calls.Standing.{failed_by}
use Rattle.edi_shell.specs.sessions.Ends.{ends_by_fault}
use Rattle.edi_statuses.proofs.EachLeft.{mounted_image}
use Rattle.edi_main.proofs.boot.Objects.{blamed, session_left}
use Rattle.edi_main.proofs.boot.holding.hold_on.Goals as goal

pub returns-clause-leaves : goal.returns-clause-leaves
returns-clause-leaves g c =
    session_left g.D.Drive.contents g.S.Source.left g.T.Sink.taken g.P.Sink.taken c.new-system.result c.session-end.new.system _ _
    (record {
      drive = only_read g.D.Drive.contents (drive_of c.attach-disk.result) (drive_of c.check.new.disk) _ _ _ c.in-Ok-check.ensures.leaves
          (search rules) (search rules);
      input = search rules;
      terminal = search rules;
      printer = search rules;
    })
    (record { drive = search rules; input = search rules; terminal = search rules; printer = search rules })
    c.args.bound c.args.choices.now (record { end = c.session-end.result; due = c.due.result }) _ c.new-system.ensures.begins c.session-end.ensures.exact
    c.session-end.ensures.told c.session-end.ensures.due c.due.ensures.exact

pub returns-clause-mounted : goal.returns-clause-mounted
returns-clause-mounted g c =
    mounted_run g.D.Drive.contents g.S.Source.left g.T.Sink.taken g.P.Sink.taken c.new-system.result c.session-end.new.system g.D.Drive.count _ _
    c.new-system.ensures.ready
    (only_read g.D.Drive.contents (drive_of c.attach-disk.result) (drive_of c.check.new.disk) _ _ _ c.in-Ok-check.ensures.leaves (search rules)
    (search rules)) (search rules)
    c.session-end.ensures.told

pub returns-clause-blame : goal.returns-clause-blame
returns-clause-blame g c =
    blamed g.D.Drive.faults g.S.Source.faults g.T.Sink.faults g.P.Sink.faults c.new-system.result c.session-end.new.system _ _ (search rules) (search rules)
    (search rules) (search rules) (record { drive = search rules; input = search rules; terminal = search rules; printer = search rules })
    (ends_by_fault c.session-end.result) c.session-end.ensures.keeps.blame (failed_by c.session-end.result) c.session-end.ensures.failed

pub returns-clause-later : goal.returns-clause-later
returns-clause-later g c =
    none_falls _ _ _ _ c.new-system.result c.session-end.new.system _ _ (search rules) (search rules) (search rules) (search rules)
    (record { drive = search rules; input = search rules; terminal = search rules; printer = search rules })
    c.session-end.ensures.keeps.later

pub returns-clause-image : goal.returns-clause-image
returns-clause-image g c =
    mounted_image g.D.Drive.count c.args.drive.now (drive_of c.attach-disk.result) (drive_of c.check.new.disk) (search rules)
    (λ some few. let never = c.in-Ok-check.ensures.short some few in absurd (cc)) c.check.ensures.count c.in-Ok-check.ensures.checked.most
