use Rattle.std.proofs.Common.{◌≡◌, ◌<◌, ap, arith, rules, subst, sym, ◌∙◌}
use Rattle.edi_calls.specs.State.{State, fresh}
use Rattle.edi_disk.specs.Shown.{drive_of}
use Rattle.edi_system.specs.State.{drive_in, failed_in}
use Rattle.edi_system.proofs.Told.{told_map}
use Rattle.edi_execute.specs.Execution.{is_fault_ending}
use Rattle.edi_execute.specs.Objects.{objects, system_on}
use Rattle.edi_execute.proofs.Runs.{call_leaves, mounted_run, none_falls, on_objects, only_read, run_leaves}
use Rattle.edi_timed.specs.Timed.{Timed}
use Rattle.edi_timed.specs.on.Timelines.{IsTimelineOf}
use Rattle.edi_timed.proofs.on.Blamed.{failed_is}
use Rattle.edi_timed.proofs.on.Ended.{is_timeline}
use Rattle.edi_timed.proofs.on.run.time_on.Goals as goal

pub returns-clause-leaves : goal.returns-clause-leaves
returns-clause-leaves g c =
    let Ends : State → State → Type 0 = λ s t.
    Timed c.args.code.now (fresh s) c.args.bound c.args.choices.now c.time_execution-ending.result c.time_execution-ending.new.kernel t
    c.time_execution-ending.new.choices c.time_execution-ending.new.timeline in
    run_leaves g.D.Drive.contents g.S.Source.left g.T.Sink.taken g.P.Sink.taken c.new-system.result c.time_execution-ending.new.system _ _
    (record {
      drive = only_read g.D.Drive.contents (drive_of c.attach-disk.result) (drive_of c.check.new.disk) _ _ _ c.in-Ok-check.ensures.leaves
          (search rules) (search rules);
      input = search rules;
      terminal = search rules;
      printer = search rules;
    })
    (record { drive = search rules; input = search rules; terminal = search rules; printer = search rules })
    c.args.code.now c.args.bound c.args.choices.now
    (record { ending = c.time_execution-ending.result; failed = c.failed.result; due = c.due.result }) _ _ _
    c.new-system.ensures.begins
    (λ few. told_map Ends _ _ _ (λ s t ended. ended.ran) (c.time_execution-ending.ensures.exact few)) c.time_execution-ending.ensures.moment
    c.due.ensures.exact c.time_execution-ending.ensures.told c.time_execution-ending.ensures.due

pub returns-clause-stints : goal.returns-clause-stints
returns-clause-stints g c = λ unfailed none program is.
    let Ends : State → State → Type 0 = λ s t.
    Timed c.args.code.now (fresh s) c.args.bound c.args.choices.now c.time_execution-ending.result c.time_execution-ending.new.kernel t
    c.time_execution-ending.new.choices c.time_execution-ending.new.timeline in
    on_objects g.D.Drive.contents g.S.Source.left g.T.Sink.taken g.P.Sink.taken c.new-system.result c.time_execution-ending.new.system _ _
    (record {
      drive = only_read g.D.Drive.contents (drive_of c.attach-disk.result) (drive_of c.check.new.disk) _ _ _ c.in-Ok-check.ensures.leaves
          (search rules) (search rules);
      input = search rules;
      terminal = search rules;
      printer = search rules;
    })
    (record { drive = search rules; input = search rules; terminal = search rules; printer = search rules })
    (λ s t. IsTimelineOf program (fresh s) c.args.bound c.args.choices.now.source c.time_execution-ending.new.timeline)
    (λ x y. IsTimelineOf program (system_on x) c.args.bound c.args.choices.now.source c.time_execution-ending.new.timeline)
    (λ x x' y y' z z' w w' is. is)
    (told_map Ends _ _ _
    (λ s t ended. is_timeline (fresh s) c.args.bound c.args.choices.now none c.time_execution-ending.new.timeline program c.args.code.now is
    (ended.all unfailed))
    (c.time_execution-ending.ensures.exact (omega (arith, none, c.ranges.bound.fits))))

pub returns-clause-valid : goal.returns-clause-valid
returns-clause-valid g c = (returns-clause-leaves g c).told.valid

pub returns-clause-size : goal.returns-clause-size
returns-clause-size g c =
    let last : _ ≡ drive_in c.time_execution-ending.new.system = search rules in
    let begun : drive_in c.new-system.result ≡ drive_of c.check.new.disk = search rules in
    let first : c.args.drive.now ≡ drive_of c.attach-disk.result = search rules in
    ap g.D.Drive.count last ∙ c.time_execution-ending.ensures.size ∙ ap g.D.Drive.count begun ∙ c.check.ensures.count ∙ sym (ap g.D.Drive.count first)

pub returns-clause-mounted : goal.returns-clause-mounted
returns-clause-mounted g c =
    mounted_run g.D.Drive.contents g.S.Source.left g.T.Sink.taken g.P.Sink.taken c.new-system.result c.time_execution-ending.new.system g.D.Drive.count _ _
    c.new-system.ensures.ready
    (only_read g.D.Drive.contents (drive_of c.attach-disk.result) (drive_of c.check.new.disk) _ _ _ c.in-Ok-check.ensures.leaves (search rules)
    (search rules)) (search rules)
    c.time_execution-ending.ensures.told

pub returns-clause-blame : goal.returns-clause-blame
returns-clause-blame g c =
    failed_is g.D.Drive.faults g.S.Source.faults g.T.Sink.faults g.P.Sink.faults c.new-system.result c.time_execution-ending.new.system
    (objects c.args.drive.now c.args.input.now c.args.terminal.now c.args.printer.now) _ (search rules) (search rules) (search rules) (search rules)
    (record { drive = search rules; input = search rules; terminal = search rules; printer = search rules })
    (is_fault_ending c.time_execution-ending.result) (failed_in c.time_execution-ending.new.system) c.failed.result c.failed.ensures.exact
    c.time_execution-ending.ensures.keeps.blame

pub returns-clause-later : goal.returns-clause-later
returns-clause-later g c =
    none_falls _ _ _ _ c.new-system.result c.time_execution-ending.new.system _ _ (search rules) (search rules) (search rules) (search rules)
    (record { drive = search rules; input = search rules; terminal = search rules; printer = search rules })
    c.time_execution-ending.ensures.keeps.later

pub returns-clause-least : goal.returns-clause-least
returns-clause-least g c = λ some few.
    let same : c.args.drive.now ≡ drive_of c.attach-disk.result = search rules in
    let never = c.in-Ok-check.ensures.short (subst (λ d. 0 < g.D.Drive.count d) same some) (subst (λ d. g.D.Drive.count d < 64) same few) in absurd (cc)

pub returns-clause-most : goal.returns-clause-most
returns-clause-most g c =
    let same : c.args.drive.now ≡ drive_of c.attach-disk.result = search rules in
    omega (arith, c.in-Ok-check.ensures.checked.most, c.check.ensures.count, ap g.D.Drive.count same)

pub returns-clause-call : goal.returns-clause-call
returns-clause-call g c = λ outside is few.
    call_leaves g.D.Drive.contents g.S.Source.left g.T.Sink.taken g.P.Sink.taken c.new-system.result c.time_execution-ending.new.system _ _
    (record {
      drive = only_read g.D.Drive.contents (drive_of c.attach-disk.result) (drive_of c.check.new.disk) _ _ _ c.in-Ok-check.ensures.leaves
          (search rules) (search rules);
      input = search rules;
      terminal = search rules;
      printer = search rules;
    })
    (record { drive = search rules; input = search rules; terminal = search rules; printer = search rules })
    c.args.code.now c.args.bound c.args.choices.now outside (c.time_execution-ending.ensures.call outside (sym c.failed.ensures.exact ∙ is) few)
