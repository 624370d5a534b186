use Rattle.std.proofs.Common.{◌≡◌, ◌∙◌, ◌<◌, ap, arith, option_map, rules, subst, sym}
use Rattle.std.proofs.lemmas.Option.{IfSome_then}
use Rattle.edi_calls.specs.State.{State, fresh}
use Rattle.edi_disk.specs.Shown.{drive_of}
use Rattle.edi_dumped.specs.Dumps.{IsDumpOf}
use Rattle.edi_dumped.specs.Given.{program_given}
use Rattle.edi_dumped.proofs.Ended.{is_dump}
use Rattle.edi_execute.specs.Objects.{system_on}
use Rattle.edi_system.proofs.Told.{told_map}
use Rattle.edi_waits.specs.Runs.{EndsNamed}
use Rattle.edi_execute.proofs.Runs.{call_leaves, mounted_run, none_falls, on_objects, only_read, run_leaves}
use Rattle.edi_dumped.proofs.run.dump_on.Goals as goal

pub returns-clause-leaves : goal.returns-clause-leaves
returns-clause-leaves g c =
    run_leaves g.D.Drive.contents g.S.Source.left g.T.Sink.taken g.P.Sink.taken c.new-system.result c.execute_named-end.new.system _ _
    (record {
      drive = only_read g.D.Drive.contents (drive_of c.attach-disk.result) (drive_of c.check.new.disk) _ _ _ c.in-Ok-check.ensures.leaves
          (search rules) (search rules);
      input = search rules;
      terminal = search rules;
      printer = search rules;
    })
    (record { drive = search rules; input = search rules; terminal = search rules; printer = search rules })
    c.args.code.now c.args.bound c.args.choices.now (record { ending = c.execute_named-end.result.0; failed = c.failed.result; due = c.due.result }) _ _ _
    c.new-system.ensures.begins c.execute_named-end.ensures.exact c.execute_named-end.ensures.moment c.due.ensures.exact c.execute_named-end.ensures.told
    c.execute_named-end.ensures.due

pub returns-clause-dump : goal.returns-clause-dump
returns-clause-dump g c =
    let given = option_map (λ bytes. bytes.now) c.args.text in
    IfSome_then c.dump_at-dump.result c.dump_at-dump.ensures.tells
    (λ told tells unfailed none is.
    let Ends : State → State → Type 0 = λ s t.
    EndsNamed c.args.code.now (fresh s) c.args.bound c.args.choices.now c.execute_named-end.result.0 c.execute_named-end.new.kernel
    c.execute_named-end.new.choices c.execute_named-end.result.1 in
    on_objects g.D.Drive.contents g.S.Source.left g.T.Sink.taken g.P.Sink.taken c.new-system.result c.execute_named-end.new.system _ _
    (record {
      drive = only_read g.D.Drive.contents (drive_of c.attach-disk.result) (drive_of c.check.new.disk) _ _ _ c.in-Ok-check.ensures.leaves
          (search rules) (search rules);
      input = search rules;
      terminal = search rules;
      printer = search rules;
    })
    (record { drive = search rules; input = search rules; terminal = search rules; printer = search rules })
    (λ s t. IsDumpOf (program_given given c.args.code.now) (fresh s) c.args.bound c.args.choices.now.source told.items)
    (λ x y. IsDumpOf (program_given given c.args.code.now) (system_on x) c.args.bound c.args.choices.now.source told.items)
    (λ x x' y y' z z' w w' is. is)
    (told_map Ends _ _ _
    (λ s t named. is_dump given c.args.code.now tells.0 tells.1 is (fresh s) c.args.bound c.args.choices.now none c.execute_named-end.result.0 unfailed told.items
    (tells.2 (fresh s) c.args.bound c.args.choices.now c.execute_named-end.new.choices named))
    (c.execute_named-end.ensures.named (omega (arith, none, c.requires.small)))))

pub returns-clause-call : goal.returns-clause-call
returns-clause-call g c = λ outside is few.
    call_leaves g.D.Drive.contents g.S.Source.left g.T.Sink.taken g.P.Sink.taken c.new-system.result c.execute_named-end.new.system _ _
    (record {
      drive = only_read g.D.Drive.contents (drive_of c.attach-disk.result) (drive_of c.check.new.disk) _ _ _ c.in-Ok-check.ensures.leaves
          (search rules) (search rules);
      input = search rules;
      terminal = search rules;
      printer = search rules;
    })
    (record { drive = search rules; input = search rules; terminal = search rules; printer = search rules })
    c.args.code.now c.args.bound c.args.choices.now outside (c.execute_named-end.ensures.call outside (sym c.failed.ensures.exact ∙ is) few)

pub returns-clause-mounted : goal.returns-clause-mounted
returns-clause-mounted g c =
    mounted_run g.D.Drive.contents g.S.Source.left g.T.Sink.taken g.P.Sink.taken c.new-system.result c.execute_named-end.new.system g.D.Drive.count _ _
    c.new-system.ensures.ready
    (only_read g.D.Drive.contents (drive_of c.attach-disk.result) (drive_of c.check.new.disk) _ _ _ c.in-Ok-check.ensures.leaves (search rules)
    (search rules)) (search rules)
    c.execute_named-end.ensures.told

pub returns-clause-valid : goal.returns-clause-valid
returns-clause-valid g c = (returns-clause-leaves g c).told.valid

pub returns-clause-later : goal.returns-clause-later
returns-clause-later g c =
    none_falls _ _ _ _ c.new-system.result c.execute_named-end.new.system _ _ (search rules) (search rules) (search rules) (search rules)
    (record { drive = search rules; input = search rules; terminal = search rules; printer = search rules })
    c.execute_named-end.ensures.keeps.later

pub returns-clause-least : goal.returns-clause-least
returns-clause-least g c = λ some few.
    let same : c.args.drive.now ≡ drive_of c.attach-disk.result = search rules in
    let never = c.in-Ok-check.ensures.short (subst (λ d. 0 < g.D.Drive.count d) same some) (subst (λ d. g.D.Drive.count d < 64) same few) in absurd (cc)

pub returns-clause-most : goal.returns-clause-most
returns-clause-most g c =
    let same : c.args.drive.now ≡ drive_of c.attach-disk.result = search rules in
    omega (arith, c.in-Ok-check.ensures.checked.most, c.check.ensures.count, ap g.D.Drive.count same)
