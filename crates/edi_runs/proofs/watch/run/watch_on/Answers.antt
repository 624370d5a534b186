use Rattle.std.proofs.Common.{◌≡◌, ◌∙◌, ◌<◌, ap, arith, rules, subst, sym}
use Rattle.edi_calls.specs.State.{State, fresh}
use Rattle.edi_execute.specs.Execution.{IsAtCall, IsAtMoment}
use Rattle.edi_debug.specs.stops.Underway.{Ended}
use Rattle.edi_disk.specs.Shown.{drive_of}
use Rattle.edi_scheme.specs.Laws.{parts_of}
use Rattle.edi_system.proofs.Told.{told_map}
use Rattle.edi_execute.specs.Objects.{system_on}
use Rattle.edi_execute.proofs.Runs.{call_leaves, mounted_run, none_falls, on_objects, only_read, run_leaves}
use Rattle.edi_debug.specs.Points.{watched_in}
use Rattle.edi_runs.specs.watch.Logs.{IsLogOf}
use Rattle.edi_runs.specs.watch.Watchable.{IsWhole}
use Rattle.edi_runs.proofs.watch.Ended.{logged, told_due}
use Rattle.edi_runs.proofs.watch.run.watch_on.Goals as goal

pub returns-clause-leaves : goal.returns-clause-leaves
returns-clause-leaves g c = λ whole.
    let Ends : State → State → Type 0 = λ s t. (whole : IsWhole c.args.watched.now) →
    Ended whole.unit (watched_in c.args.points.now) (fresh s) c.args.bound c.args.choices.now c.args.log.now c.watch_execution-ending.result
    c.watch_execution-ending.new.kernel t c.watch_execution-ending.new.choices c.watch_execution-ending.new.log in
    let At : State → State → Type 0 = λ s t. (whole : IsWhole c.args.watched.now) →
    IsAtMoment (parts_of whole.unit) (fresh s) c.args.bound c.args.choices.now t in
    run_leaves g.D.Drive.contents g.S.Source.left g.T.Sink.taken g.P.Sink.taken c.new-system.result c.watch_execution-ending.new.system _ _
    (record {
      drive = only_read g.D.Drive.contents (drive_of c.attach-disk.result) (drive_of c.check.new.disk) _ _ _ c.in-Ok-check.ensures.leaves
          (search rules) (search rules);
      input = search rules;
      terminal = search rules;
      printer = search rules;
    })
    (record { drive = search rules; input = search rules; terminal = search rules; printer = search rules })
    (parts_of whole.unit) c.args.bound c.args.choices.now
    (record { ending = c.watch_execution-ending.result; failed = c.failed.result; due = c.due.result }) _ _ _
    c.new-system.ensures.begins
    (λ few. told_map Ends _ _ _ (λ s t ended. (ended whole).ran) (c.watch_execution-ending.ensures.exact few))
    (λ fault few. told_map At _ _ _ (λ s t at. at whole) (c.watch_execution-ending.ensures.moment fault few))
    c.due.ensures.exact c.watch_execution-ending.ensures.told c.watch_execution-ending.ensures.due

pub returns-clause-call : goal.returns-clause-call
returns-clause-call g c = λ whole outside is few.
    let At : State → State → Type 0 = λ s t. (whole : IsWhole c.args.watched.now) →
    IsAtCall (parts_of whole.unit) (fresh s) c.args.bound c.args.choices.now outside t in
    call_leaves g.D.Drive.contents g.S.Source.left g.T.Sink.taken g.P.Sink.taken c.new-system.result c.watch_execution-ending.new.system _ _
    (record {
      drive = only_read g.D.Drive.contents (drive_of c.attach-disk.result) (drive_of c.check.new.disk) _ _ _ c.in-Ok-check.ensures.leaves
          (search rules) (search rules);
      input = search rules;
      terminal = search rules;
      printer = search rules;
    })
    (record { drive = search rules; input = search rules; terminal = search rules; printer = search rules })
    (parts_of whole.unit) c.args.bound c.args.choices.now outside
    (told_map At _ _ _ (λ s t at. at whole) (c.watch_execution-ending.ensures.call outside (sym c.failed.ensures.exact ∙ is) few))

pub returns-clause-logs : goal.returns-clause-logs
returns-clause-logs g c = λ unfailed none empty few text is.
    let Ends : State → State → Type 0 = λ s t. (whole : IsWhole c.args.watched.now) →
    Ended whole.unit (watched_in c.args.points.now) (fresh s) c.args.bound c.args.choices.now c.args.log.now c.watch_execution-ending.result
    c.watch_execution-ending.new.kernel t c.watch_execution-ending.new.choices c.watch_execution-ending.new.log in
    on_objects g.D.Drive.contents g.S.Source.left g.T.Sink.taken g.P.Sink.taken c.new-system.result c.watch_execution-ending.new.system _ _
    (record {
      drive = only_read g.D.Drive.contents (drive_of c.attach-disk.result) (drive_of c.check.new.disk) _ _ _ c.in-Ok-check.ensures.leaves
          (search rules) (search rules);
      input = search rules;
      terminal = search rules;
      printer = search rules;
    })
    (record { drive = search rules; input = search rules; terminal = search rules; printer = search rules })
    (λ s t. IsLogOf text (fresh s) c.args.bound c.args.choices.now.source (watched_in c.args.points.now) c.watch_execution-ending.new.log.bytes)
    (λ x y. IsLogOf text (system_on x) c.args.bound c.args.choices.now.source (watched_in c.args.points.now) c.watch_execution-ending.new.log.bytes)
    (λ x x' y y' z z' w w' is. is)
    (told_map Ends _ _ _
    (λ s t ended. logged text c.args.watched.now is c.args.points.now c.requires.points (fresh s) c.args.bound c.args.choices.now c.args.log.now
    c.watch_execution-ending.result _ t _ c.watch_execution-ending.new.log none empty unfailed (ended is.whole))
    (c.watch_execution-ending.ensures.exact (omega (arith, none, few))))

pub returns-clause-told : goal.returns-clause-told
returns-clause-told g c =
    told_due g.D.Drive.contents g.S.Source.left g.T.Sink.taken g.P.Sink.taken c.new-system.result c.watch_execution-ending.new.system _ _
    (record {
      drive = only_read g.D.Drive.contents (drive_of c.attach-disk.result) (drive_of c.check.new.disk) _ _ _ c.in-Ok-check.ensures.leaves
          (search rules) (search rules);
      input = search rules;
      terminal = search rules;
      printer = search rules;
    })
    (record { drive = search rules; input = search rules; terminal = search rules; printer = search rules }) c.due.result
    c.new-system.ensures.begins c.due.ensures.exact c.watch_execution-ending.ensures.told c.watch_execution-ending.ensures.due

pub returns-clause-mounted : goal.returns-clause-mounted
returns-clause-mounted g c =
    mounted_run g.D.Drive.contents g.S.Source.left g.T.Sink.taken g.P.Sink.taken c.new-system.result c.watch_execution-ending.new.system g.D.Drive.count _ _
    c.new-system.ensures.ready
    (only_read g.D.Drive.contents (drive_of c.attach-disk.result) (drive_of c.check.new.disk) _ _ _ c.in-Ok-check.ensures.leaves (search rules)
    (search rules)) (search rules)
    c.watch_execution-ending.ensures.told

pub returns-clause-later : goal.returns-clause-later
returns-clause-later g c =
    none_falls _ _ _ _ c.new-system.result c.watch_execution-ending.new.system _ _ (search rules) (search rules) (search rules) (search rules)
    (record { drive = search rules; input = search rules; terminal = search rules; printer = search rules })
    c.watch_execution-ending.ensures.keeps.later

pub returns-clause-least : goal.returns-clause-least
returns-clause-least g c = λ some few.
    let same : c.args.drive.now ≡ drive_of c.attach-disk.result = search rules in
    let never = c.in-Ok-check.ensures.short (subst (λ d. 0 < g.D.Drive.count d) same some) (subst (λ d. g.D.Drive.count d < 64) same few) in absurd (cc)

pub returns-clause-most : goal.returns-clause-most
returns-clause-most g c =
    let same : c.args.drive.now ≡ drive_of c.attach-disk.result = search rules in
    omega (arith, c.in-Ok-check.ensures.checked.most, c.check.ensures.count, ap g.D.Drive.count same)
