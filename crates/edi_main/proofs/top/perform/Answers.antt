use Rattle.std.proofs.Common.{◌∙◌, Some, ap, false, option_map, refl, rules, sym, true≢false}
use Rattle.edi_words.specs.Words as words
use Rattle.edi_words.specs.View.{account_of, exploring_of, options_of, view}
use Rattle.edi_words.specs.declared.commands.Command.{Command}
use Rattle.edi_words.specs.declared.commands.Command.TheVariants as command
use Rattle.edi_statuses.specs.EachObject.{command_does, is_exploration, uses_devices}
use Rattle.edi_statuses.specs.Outside.{kernel_of}
use Rattle.edi_statuses.proofs.EachLeft.{same_valid, untouched, untouched_alone, untouched_but_input, untouched_but_kernel, untouched_drive}
use Rattle.edi_statuses.proofs.Silent.{on_files}
use Rattle.edi_statuses.proofs.Told.{told_so}
use Rattle.edi_main.proofs.Obeyed.{counts_so, obeyed, obeyed_demo, obeyed_replay, obeyed_so, obeyed_demo_with, on_disk, unmounted_last, unmounted_never}
use Rattle.edi_main.proofs.Obeyed.{came_else, came_run, never_on_disk, never_on_files, run_so, terminal_rose, unmounted_so, untouched_so}
use Rattle.edi_main.proofs.top.perform.Goals as goal

pub returns-in-Compile-clause-came : goal.returns-in-Compile-clause-came
returns-in-Compile-clause-came g c =
    came_else (Some (view c.args.command)) c.silent.result.status c.silent.result.due _ _ _ _ _ _ (ap (λ x. command_does uses_devices (Some (view x))) c.in-Compile.is)
    (never_on_files c.compile_file.result c.silent.result.status _ _ c.silent.ensures.status c.compile_file.ensures.kind)
    (obeyed c.args.command (command.Compile c.in-Compile.file c.in-Compile.out) c.compile_file.result c.silent.result.status c.silent.result.due _ _ _ c.in-Compile.is c.silent.ensures.status c.silent.ensures.due
    (on_files (words.compile c.in-Compile.file.now c.in-Compile.out.now) c.compile_file.result false _ _ _ refl c.compile_file.ensures.means))

pub returns-in-NewDisk-clause-came : goal.returns-in-NewDisk-clause-came
returns-in-NewDisk-clause-came g c =
    came_else (Some (view c.args.command)) c.silent-in-NewDisk.result.status c.silent-in-NewDisk.result.due _ _ _ _ _ _ (ap (λ x. command_does uses_devices (Some (view x))) c.in-NewDisk.is)
    (never_on_disk c.new_by.result c.silent-in-NewDisk.result.status _ _ c.silent-in-NewDisk.ensures.status c.new_by.ensures.cause.kind)
    (obeyed c.args.command (command.NewDisk c.in-NewDisk.blocks c.in-NewDisk.old) c.new_by.result c.silent-in-NewDisk.result.status
    c.silent-in-NewDisk.result.due _ _ _ c.in-NewDisk.is c.silent-in-NewDisk.ensures.status c.silent-in-NewDisk.ensures.due
    (on_disk (words.newdisk c.in-NewDisk.blocks (option_map (λ name. name.now) c.in-NewDisk.old)) c.new_by.result _ _ _ _ c.new_by.ensures.means
    (λ never. absurd (true≢false never))))

pub returns-in-NewDisk-clause-size : goal.returns-in-NewDisk-clause-size
returns-in-NewDisk-clause-size g c =
    counts_so c.args.command (command.NewDisk c.in-NewDisk.blocks c.in-NewDisk.old) c.new_by.result c.silent-in-NewDisk.result.status _ _ _ _ c.in-NewDisk.is c.silent-in-NewDisk.ensures.status c.new_by.ensures.size

pub returns-in-Put-clause-came : goal.returns-in-Put-clause-came
returns-in-Put-clause-came g c =
    came_else (Some (view c.args.command)) c.silent-in-Put.result.status c.silent-in-Put.result.due _ _ _ _ _ _ (ap (λ x. command_does uses_devices (Some (view x))) c.in-Put.is)
    (never_on_disk c.put.result c.silent-in-Put.result.status _ _ c.silent-in-Put.ensures.status c.put.ensures.cause.kind)
    (obeyed c.args.command (command.Put c.in-Put.file c.in-Put.title) c.put.result c.silent-in-Put.result.status c.silent-in-Put.result.due _ _ _ c.in-Put.is c.silent-in-Put.ensures.status c.silent-in-Put.ensures.due
    (on_disk (words.put c.in-Put.file.now c.in-Put.title.now) c.put.result _ _ _ _ c.put.ensures.means (λ stays. c.put.ensures.valid)))

pub returns-in-Get-clause-came : goal.returns-in-Get-clause-came
returns-in-Get-clause-came g c =
    came_else (Some (view c.args.command)) c.silent-in-Get.result.status c.silent-in-Get.result.due _ _ _ _ _ _ (ap (λ x. command_does uses_devices (Some (view x))) c.in-Get.is)
    (never_on_disk c.get.result c.silent-in-Get.result.status _ _ c.silent-in-Get.ensures.status c.get.ensures.cause.kind)
    (obeyed c.args.command (command.Get c.in-Get.title c.in-Get.file) c.get.result c.silent-in-Get.result.status c.silent-in-Get.result.due _ _ _ c.in-Get.is c.silent-in-Get.ensures.status c.silent-in-Get.ensures.due
    (on_disk (words.get c.in-Get.title.now c.in-Get.file.now) c.get.result _ _ _ _ c.get.ensures.means
    (λ stays. told_so _ _ _ _ same_valid c.get.ensures.same)))

pub returns-in-List-clause-came : goal.returns-in-List-clause-came
returns-in-List-clause-came g c =
    came_else (Some (view c.args.command)) c.list.result.status c.list.result.due _ _ _ _ _ _ (ap (λ x. command_does uses_devices (Some (view x))) c.in-List.is)
    (terminal_rose c.list.result.status _ _ refl (c.list.ensures.cause 0 0 0))
    (obeyed_so c.args.command (command.List c.in-List.file) c.list.result.status c.list.result.due _ _ _ c.in-List.is
    (c.list.ensures.came (g.D.Drive.contents c.args.drive.now) (g.S.Source.left c.args.input.now) (g.P.Sink.taken c.args.printer.now)
    (kernel_of c.args.kernel.now.store c.args.kernel.now.used)))

pub returns-in-List-clause-cause : goal.returns-in-List-clause-cause
returns-in-List-clause-cause g c =
    c.list.ensures.cause (g.D.Drive.faults c.args.drive.now) (g.S.Source.faults c.args.input.now) (g.P.Sink.faults c.args.printer.now)

pub returns-in-Demo-clause-came : goal.returns-in-Demo-clause-came
returns-in-Demo-clause-came g c =
    came_run (Some (view c.args.command)) c.demonstrate.result.status c.demonstrate.result.due _ _ _ _ _ _ (ap (λ x. command_does uses_devices (Some (view x))) c.in-Demo.is) (c.demonstrate.ensures.cause (g.D.Drive.faults c.args.drive.now) (g.S.Source.faults c.args.input.now)) c.demonstrate.ensures.came.0 c.demonstrate.ensures.came.1
    (obeyed_demo c.args.command c.in-Demo.n c.from.result c.in-Demo.options c.demonstrate.result.status c.demonstrate.result.due _ _ _ c.in-Demo.is
    c.from.ensures (c.demonstrate.ensures.came.2 (g.D.Drive.contents c.args.drive.now) (g.S.Source.left c.args.input.now)))

pub returns-in-Demo-clause-cause : goal.returns-in-Demo-clause-cause
returns-in-Demo-clause-cause g c = c.demonstrate.ensures.cause (g.D.Drive.faults c.args.drive.now) (g.S.Source.faults c.args.input.now)

pub returns-in-Walk-clause-came : goal.returns-in-Walk-clause-came
returns-in-Walk-clause-came g c =
    run_so c.args.command (command.Walk c.in-Walk.file c.in-Walk.choices c.in-Walk.turns) c.walk_file.result.status c.walk_file.result.due _ _ _ _ _ _
    c.in-Walk.is refl c.walk_file.ensures.cause (c.walk_file.ensures.came (kernel_of c.args.kernel.now.store c.args.kernel.now.used))

pub returns-in-Walk-clause-size : goal.returns-in-Walk-clause-size
returns-in-Walk-clause-size g c =
    counts_so c.args.command (command.Walk c.in-Walk.file c.in-Walk.choices c.in-Walk.turns) c.walk_file.result.status c.walk_file.result.status _ _ _ _
    c.in-Walk.is refl (c.walk_file.ensures.size, c.walk_file.ensures.fits)

pub returns-in-Walk-clause-untouched : goal.returns-in-Walk-clause-untouched
returns-in-Walk-clause-untouched g c =
    untouched_so c.args.command (command.Walk c.in-Walk.file c.in-Walk.choices c.in-Walk.turns) c.walk_file.result.status c.walk_file.result.status
    _ _ c.in-Walk.is refl
    (untouched_but_kernel _ _ (words.walk c.in-Walk.file.now c.in-Walk.choices.now c.in-Walk.turns) c.walk_file.result.status refl refl refl (λ e. e)
    (λ none. absurd (true≢false none))
    (λ early.
    let none = c.walk_file.ensures.early early in
    record { drive = none.drive; input = none.input; terminal = none.terminal; printer = none.printer; kernel = refl }) refl)

pub returns-in-Run-clause-size : goal.returns-in-Run-clause-size
returns-in-Run-clause-size g c =
    counts_so c.args.command (command.Run c.in-Run.file c.in-Run.options) c.run_file.result.status c.run_file.result.status _ _ _ _ c.in-Run.is refl
    (c.run_file.ensures.size, c.run_file.ensures.fits)

pub returns-in-Run-clause-untouched : goal.returns-in-Run-clause-untouched
returns-in-Run-clause-untouched g c =
    untouched_so c.args.command (command.Run c.in-Run.file c.in-Run.options) c.run_file.result.status c.run_file.result.status _ _ c.in-Run.is refl
    (untouched _ _ (words.run c.in-Run.file.now (options_of c.in-Run.options)) c.run_file.result.status refl refl refl refl (λ e. e)
    (λ none. absurd (true≢false none)) c.run_file.ensures.early)

pub returns-in-Replay-clause-came : goal.returns-in-Replay-clause-came
returns-in-Replay-clause-came g c =
    came_run (Some (view c.args.command)) c.run_file-in-Replay.result.status c.run_file-in-Replay.result.due _ _ _ _ _ _ (ap (λ x. command_does uses_devices (Some (view x))) c.in-Replay.is) c.run_file-in-Replay.ensures.cause c.run_file-in-Replay.ensures.came.0 c.run_file-in-Replay.ensures.came.1
    (obeyed_replay c.args.command c.in-Replay.file c.in-Replay.choices c.in-Replay.turns c.replaying-options.result c.run_file-in-Replay.result.status
    c.run_file-in-Replay.result.due _ _ _ c.in-Replay.is c.replaying-options.ensures.exact c.run_file-in-Replay.ensures.came.2)

pub returns-in-Replay-clause-size : goal.returns-in-Replay-clause-size
returns-in-Replay-clause-size g c =
    counts_so c.args.command (command.Replay c.in-Replay.file c.in-Replay.choices c.in-Replay.turns) c.run_file-in-Replay.result.status c.run_file-in-Replay.result.status _ _ _ _ c.in-Replay.is refl
    (c.run_file-in-Replay.ensures.size, c.run_file-in-Replay.ensures.fits)

pub returns-in-Replay-clause-untouched : goal.returns-in-Replay-clause-untouched
returns-in-Replay-clause-untouched g c =
    untouched_so c.args.command (command.Replay c.in-Replay.file c.in-Replay.choices c.in-Replay.turns) c.run_file-in-Replay.result.status c.run_file-in-Replay.result.status
    _ _ c.in-Replay.is refl
    (untouched _ _ (words.replay c.in-Replay.file.now c.in-Replay.choices.now c.in-Replay.turns) c.run_file-in-Replay.result.status refl refl refl refl (λ e. e)
    (λ none. absurd (true≢false none)) c.run_file-in-Replay.ensures.early)

pub returns-in-Exec-clause-size : goal.returns-in-Exec-clause-size
returns-in-Exec-clause-size g c =
    counts_so c.args.command (command.Exec c.in-Exec.file c.in-Exec.options) c.run_file-in-Exec.result.status c.run_file-in-Exec.result.status _ _ _ _ c.in-Exec.is refl
    (c.run_file-in-Exec.ensures.size, c.run_file-in-Exec.ensures.fits)

pub returns-in-Exec-clause-untouched : goal.returns-in-Exec-clause-untouched
returns-in-Exec-clause-untouched g c =
    untouched_so c.args.command (command.Exec c.in-Exec.file c.in-Exec.options) c.run_file-in-Exec.result.status c.run_file-in-Exec.result.status _ _ c.in-Exec.is refl
    (untouched _ _ (words.exec c.in-Exec.file.now (options_of c.in-Exec.options)) c.run_file-in-Exec.result.status refl refl refl refl (λ e. e)
    (λ none. absurd (true≢false none)) c.run_file-in-Exec.ensures.early)

pub returns-in-RunWith-clause-size : goal.returns-in-RunWith-clause-size
returns-in-RunWith-clause-size g c =
    counts_so c.args.command (command.RunWith c.in-RunWith.file c.in-RunWith.account c.in-RunWith.options) c.run_file_with.result.status c.run_file_with.result.status _ _ _ _
    c.in-RunWith.is refl (c.run_file_with.ensures.size, c.run_file_with.ensures.fits)

pub returns-in-RunWith-clause-untouched : goal.returns-in-RunWith-clause-untouched
returns-in-RunWith-clause-untouched g c =
    untouched_so c.args.command (command.RunWith c.in-RunWith.file c.in-RunWith.account c.in-RunWith.options) c.run_file_with.result.status c.run_file_with.result.status _ _
    c.in-RunWith.is refl
    (untouched _ _ (words.run_with c.in-RunWith.file.now (account_of c.in-RunWith.account) (options_of c.in-RunWith.options)) c.run_file_with.result.status refl refl refl refl (λ e. e)
    (λ none. absurd (true≢false none)) c.run_file_with.ensures.early)

pub returns-in-ExecWith-clause-size : goal.returns-in-ExecWith-clause-size
returns-in-ExecWith-clause-size g c =
    counts_so c.args.command (command.ExecWith c.in-ExecWith.file c.in-ExecWith.account c.in-ExecWith.options) c.run_file_with-in-ExecWith.result.status c.run_file_with-in-ExecWith.result.status _ _ _ _
    c.in-ExecWith.is refl (c.run_file_with-in-ExecWith.ensures.size, c.run_file_with-in-ExecWith.ensures.fits)

pub returns-in-ExecWith-clause-untouched : goal.returns-in-ExecWith-clause-untouched
returns-in-ExecWith-clause-untouched g c =
    untouched_so c.args.command (command.ExecWith c.in-ExecWith.file c.in-ExecWith.account c.in-ExecWith.options) c.run_file_with-in-ExecWith.result.status c.run_file_with-in-ExecWith.result.status _ _
    c.in-ExecWith.is refl
    (untouched _ _ (words.exec_with c.in-ExecWith.file.now (account_of c.in-ExecWith.account) (options_of c.in-ExecWith.options)) c.run_file_with-in-ExecWith.result.status refl refl refl refl (λ e. e)
    (λ none. absurd (true≢false none)) c.run_file_with-in-ExecWith.ensures.early)

pub returns-in-Watch-clause-size : goal.returns-in-Watch-clause-size
returns-in-Watch-clause-size g c =
    counts_so c.args.command (command.Watch c.in-Watch.file c.in-Watch.stops c.in-Watch.out c.in-Watch.options) c.watch_file.result.status
    c.watch_file.result.status _ _ _ _ c.in-Watch.is refl (c.watch_file.ensures.size, c.watch_file.ensures.fits)

pub returns-in-Watch-clause-untouched : goal.returns-in-Watch-clause-untouched
returns-in-Watch-clause-untouched g c =
    untouched_so c.args.command (command.Watch c.in-Watch.file c.in-Watch.stops c.in-Watch.out c.in-Watch.options) c.watch_file.result.status
    c.watch_file.result.status _ _ c.in-Watch.is refl
    (untouched _ _ (words.watch c.in-Watch.file.now c.in-Watch.stops.now c.in-Watch.out.now (options_of c.in-Watch.options)) c.watch_file.result.status
    refl refl refl refl (λ e. e) (λ none. absurd (true≢false none)) c.watch_file.ensures.early)

pub returns-in-Boot-clause-size : goal.returns-in-Boot-clause-size
returns-in-Boot-clause-size g c =
    counts_so c.args.command (command.Boot c.in-Boot.options) c.boot.result.status c.boot.result.status _ _ _ _ c.in-Boot.is refl
    (c.boot.ensures.size, c.boot.ensures.fits)

pub returns-in-Boot-clause-untouched : goal.returns-in-Boot-clause-untouched
returns-in-Boot-clause-untouched g c =
    untouched_so c.args.command (command.Boot c.in-Boot.options) c.boot.result.status c.boot.result.status _ _ c.in-Boot.is refl
    (untouched _ _ (words.boot (options_of c.in-Boot.options)) c.boot.result.status refl refl refl refl (λ e. e)
    c.boot.ensures.no_files c.boot.ensures.early)

pub returns-in-Compile-clause-untouched : goal.returns-in-Compile-clause-untouched
returns-in-Compile-clause-untouched g c =
    untouched_so c.args.command (command.Compile c.in-Compile.file c.in-Compile.out) c.silent.result.status c.silent.result.status _ _ c.in-Compile.is refl
    (record { files = λ none. absurd (true≢false none); drive = λ e. refl; input = λ e. refl; printer = λ e. refl; kernel = λ e. refl })

pub returns-in-NewDisk-clause-untouched : goal.returns-in-NewDisk-clause-untouched
returns-in-NewDisk-clause-untouched g c =
    untouched_so c.args.command (command.NewDisk c.in-NewDisk.blocks c.in-NewDisk.old) c.new_by.result c.silent-in-NewDisk.result.status
    _ _ c.in-NewDisk.is c.silent-in-NewDisk.ensures.status
    (untouched_drive _ _ (words.newdisk c.in-NewDisk.blocks (option_map (λ name. name.now) c.in-NewDisk.old)) c.new_by.result refl
    c.new_by.ensures.no_files c.new_by.ensures.early refl refl refl)

pub returns-in-Put-clause-untouched : goal.returns-in-Put-clause-untouched
returns-in-Put-clause-untouched g c =
    untouched_so c.args.command (command.Put c.in-Put.file c.in-Put.title) c.put.result c.silent-in-Put.result.status
    _ _ c.in-Put.is c.silent-in-Put.ensures.status
    (untouched_drive _ _ (words.put c.in-Put.file.now c.in-Put.title.now) c.put.result refl (λ none. absurd (true≢false none))
    c.put.ensures.early refl refl refl)

pub returns-in-Put-clause-size : goal.returns-in-Put-clause-size
returns-in-Put-clause-size g c = rw (c.in-Put.is, c.silent-in-Put.ensures.status) (c.put.ensures.size, c.put.ensures.fits)

pub returns-in-Get-clause-untouched : goal.returns-in-Get-clause-untouched
returns-in-Get-clause-untouched g c =
    untouched_so c.args.command (command.Get c.in-Get.title c.in-Get.file) c.get.result c.silent-in-Get.result.status
    _ _ c.in-Get.is c.silent-in-Get.ensures.status
    (untouched_drive _ _ (words.get c.in-Get.title.now c.in-Get.file.now) c.get.result refl (λ none. absurd (true≢false none))
    (λ never. absurd (true≢false (sym never))) refl refl refl)

pub returns-in-Get-clause-size : goal.returns-in-Get-clause-size
returns-in-Get-clause-size g c = rw (c.in-Get.is, c.silent-in-Get.ensures.status) (c.get.ensures.size, c.get.ensures.fits)

pub returns-in-List-clause-untouched : goal.returns-in-List-clause-untouched
returns-in-List-clause-untouched g c =
    untouched_so c.args.command (command.List c.in-List.file) c.list.result.status c.list.result.status _ _ c.in-List.is refl
    (record { files = λ none. absurd (true≢false none); drive = λ e. refl; input = λ e. refl; printer = λ e. refl; kernel = λ e. refl })

pub returns-in-Demo-clause-untouched : goal.returns-in-Demo-clause-untouched
returns-in-Demo-clause-untouched g c =
    untouched_so c.args.command (command.Demo c.in-Demo.n c.in-Demo.options) c.demonstrate.result.status c.demonstrate.result.status _ _ c.in-Demo.is refl
    (untouched_alone _ _ (words.demo c.in-Demo.n (options_of c.in-Demo.options)) c.demonstrate.result.status refl refl (λ e. e)
    c.demonstrate.ensures.no_files refl refl
    (λ early.
    let none = c.demonstrate.ensures.early early in
    record { drive = refl; input = refl; terminal = none.0; printer = none.1; kernel = none.2 }))

pub returns-in-Check-clause-came : goal.returns-in-Check-clause-came
returns-in-Check-clause-came g c =
    came_else (Some (view c.args.command)) c.check.result.status c.check.result.due _ _ _ _ _ _ (ap (λ x. command_does uses_devices (Some (view x))) c.in-Check.is)
    (terminal_rose c.check.result.status _ _ refl (c.check.ensures.cause 0 0 0))
    (obeyed_so c.args.command (command.Check c.in-Check.file) c.check.result.status c.check.result.due _ _ _ c.in-Check.is
    (c.check.ensures.came (g.D.Drive.contents c.args.drive.now) (g.S.Source.left c.args.input.now) (g.P.Sink.taken c.args.printer.now)
    (kernel_of c.args.kernel.now.store c.args.kernel.now.used)))

pub returns-in-Check-clause-cause : goal.returns-in-Check-clause-cause
returns-in-Check-clause-cause g c =
    c.check.ensures.cause (g.D.Drive.faults c.args.drive.now) (g.S.Source.faults c.args.input.now) (g.P.Sink.faults c.args.printer.now)

pub returns-in-Check-clause-untouched : goal.returns-in-Check-clause-untouched
returns-in-Check-clause-untouched g c =
    untouched_so c.args.command (command.Check c.in-Check.file) c.check.result.status c.check.result.status _ _ c.in-Check.is refl
    (record { files = λ none. absurd (true≢false none); drive = λ e. refl; input = λ e. refl; printer = λ e. refl; kernel = λ e. refl })

pub returns-in-Explain-clause-came : goal.returns-in-Explain-clause-came
returns-in-Explain-clause-came g c =
    came_else (Some (view c.args.command)) c.explain_file.result.status c.explain_file.result.due _ _ _ _ _ _ (ap (λ x. command_does uses_devices (Some (view x))) c.in-Explain.is)
    (terminal_rose c.explain_file.result.status _ _ refl (c.explain_file.ensures.cause 0 0 0))
    (obeyed_so c.args.command (command.Explain c.in-Explain.file) c.explain_file.result.status c.explain_file.result.due _ _ _ c.in-Explain.is
    (c.explain_file.ensures.came (g.D.Drive.contents c.args.drive.now) (g.S.Source.left c.args.input.now) (g.P.Sink.taken c.args.printer.now)
    (kernel_of c.args.kernel.now.store c.args.kernel.now.used)))

pub returns-in-Explain-clause-cause : goal.returns-in-Explain-clause-cause
returns-in-Explain-clause-cause g c =
    c.explain_file.ensures.cause (g.D.Drive.faults c.args.drive.now) (g.S.Source.faults c.args.input.now) (g.P.Sink.faults c.args.printer.now)

pub returns-in-Explain-clause-untouched : goal.returns-in-Explain-clause-untouched
returns-in-Explain-clause-untouched g c =
    untouched_so c.args.command (command.Explain c.in-Explain.file) c.explain_file.result.status c.explain_file.result.status _ _ c.in-Explain.is refl
    (record { files = λ none. absurd (true≢false none); drive = λ e. refl; input = λ e. refl; printer = λ e. refl; kernel = λ e. refl })

pub returns-in-Explore-clause-came : goal.returns-in-Explore-clause-came
returns-in-Explore-clause-came g c =
    came_else (Some (view c.args.command)) c.explore_file.result.status c.explore_file.result.due _ _ _ _ _ _ (ap (λ x. command_does uses_devices (Some (view x))) c.in-Explore.is)
    (terminal_rose c.explore_file.result.status _ _ refl (c.explore_file.ensures.cause 0 0))
    (obeyed_so c.args.command (command.Explore c.in-Explore.file c.in-Explore.options) c.explore_file.result.status c.explore_file.result.due _ _ _
    c.in-Explore.is (c.explore_file.ensures.came (g.D.Drive.contents c.args.drive.now) (g.P.Sink.taken c.args.printer.now)))

pub returns-in-Explore-clause-cause : goal.returns-in-Explore-clause-cause
returns-in-Explore-clause-cause g c = c.explore_file.ensures.cause (g.D.Drive.faults c.args.drive.now) (g.P.Sink.faults c.args.printer.now)

pub returns-in-Explore-clause-untouched : goal.returns-in-Explore-clause-untouched
returns-in-Explore-clause-untouched g c =
    untouched_so c.args.command (command.Explore c.in-Explore.file c.in-Explore.options) c.explore_file.result.status c.explore_file.result.status
    _ _ c.in-Explore.is refl
    (untouched_but_input _ _ (words.explore c.in-Explore.file.now (exploring_of c.in-Explore.options)) c.explore_file.result.status refl refl (λ e. e)
    (λ none. absurd (true≢false none)) refl refl
    (λ early.
    let none = c.explore_file.ensures.early early in
    (none.0, none.2)))

pub returns-in-Explore-clause-unwatched : goal.returns-in-Explore-clause-unwatched
returns-in-Explore-clause-unwatched g c = λ other.
    absurd (true≢false (ap (λ (x : Command). command_does is_exploration (Some (view x))) (sym c.in-Explore.is) ∙ other))

pub returns-in-Run-clause-unmounted : goal.returns-in-Run-clause-unmounted
returns-in-Run-clause-unmounted g c =
    unmounted_so c.args.command (command.Run c.in-Run.file c.in-Run.options) c.run_file.result.status c.run_file.result.status _ _ c.in-Run.is refl
    (unmounted_last (words.run c.in-Run.file.now (options_of c.in-Run.options)) c.run_file.result.status _ _ refl c.run_file.ensures.unmounted)

pub returns-in-Replay-clause-unmounted : goal.returns-in-Replay-clause-unmounted
returns-in-Replay-clause-unmounted g c =
    unmounted_so c.args.command (command.Replay c.in-Replay.file c.in-Replay.choices c.in-Replay.turns) c.run_file-in-Replay.result.status c.run_file-in-Replay.result.status _ _ c.in-Replay.is refl
    (unmounted_last (words.replay c.in-Replay.file.now c.in-Replay.choices.now c.in-Replay.turns) c.run_file-in-Replay.result.status _ _ refl c.run_file-in-Replay.ensures.unmounted)

pub returns-in-Exec-clause-unmounted : goal.returns-in-Exec-clause-unmounted
returns-in-Exec-clause-unmounted g c =
    unmounted_so c.args.command (command.Exec c.in-Exec.file c.in-Exec.options) c.run_file-in-Exec.result.status c.run_file-in-Exec.result.status _ _ c.in-Exec.is refl
    (unmounted_last (words.exec c.in-Exec.file.now (options_of c.in-Exec.options)) c.run_file-in-Exec.result.status _ _ refl c.run_file-in-Exec.ensures.unmounted)

pub returns-in-Boot-clause-unmounted : goal.returns-in-Boot-clause-unmounted
returns-in-Boot-clause-unmounted g c =
    unmounted_so c.args.command (command.Boot c.in-Boot.options) c.boot.result.status c.boot.result.status _ _ c.in-Boot.is refl
    (unmounted_last (words.boot (options_of c.in-Boot.options)) c.boot.result.status _ _ refl c.boot.ensures.unmounted)

pub returns-in-Walk-clause-unmounted : goal.returns-in-Walk-clause-unmounted
returns-in-Walk-clause-unmounted g c =
    unmounted_so c.args.command (command.Walk c.in-Walk.file c.in-Walk.choices c.in-Walk.turns) c.walk_file.result.status c.walk_file.result.status _ _ c.in-Walk.is refl
    (unmounted_last (words.walk c.in-Walk.file.now c.in-Walk.choices.now c.in-Walk.turns) c.walk_file.result.status _ _ refl (λ at. let stays = c.walk_file.ensures.unmounted at in record { input = stays.0; printer = stays.1; kernel = refl }))

pub returns-in-Watch-clause-unmounted : goal.returns-in-Watch-clause-unmounted
returns-in-Watch-clause-unmounted g c =
    unmounted_so c.args.command (command.Watch c.in-Watch.file c.in-Watch.stops c.in-Watch.out c.in-Watch.options) c.watch_file.result.status c.watch_file.result.status _ _ c.in-Watch.is refl
    (unmounted_last (words.watch c.in-Watch.file.now c.in-Watch.stops.now c.in-Watch.out.now (options_of c.in-Watch.options)) c.watch_file.result.status _ _ refl c.watch_file.ensures.unmounted)

pub returns-in-Put-clause-unmounted : goal.returns-in-Put-clause-unmounted
returns-in-Put-clause-unmounted g c =
    unmounted_so c.args.command (command.Put c.in-Put.file c.in-Put.title) c.put.result c.silent-in-Put.result.status _ _ c.in-Put.is c.silent-in-Put.ensures.status
    (unmounted_last (words.put c.in-Put.file.now c.in-Put.title.now) c.put.result _ _ refl (λ at. record { input = refl; printer = refl; kernel = refl }))

pub returns-in-Get-clause-unmounted : goal.returns-in-Get-clause-unmounted
returns-in-Get-clause-unmounted g c =
    unmounted_so c.args.command (command.Get c.in-Get.title c.in-Get.file) c.get.result c.silent-in-Get.result.status _ _ c.in-Get.is
    c.silent-in-Get.ensures.status
    (record { last = λ asks at. absurd (true≢false (sym asks)); first = λ asks at. c.get.ensures.unread at })

pub returns-in-Compile-clause-unmounted : goal.returns-in-Compile-clause-unmounted
returns-in-Compile-clause-unmounted g c =
    unmounted_so c.args.command (command.Compile c.in-Compile.file c.in-Compile.out) c.silent.result.status c.silent.result.status _ _ c.in-Compile.is refl
    (unmounted_never (words.compile c.in-Compile.file.now c.in-Compile.out.now) c.silent.result.status _ _ refl refl)

pub returns-in-List-clause-unmounted : goal.returns-in-List-clause-unmounted
returns-in-List-clause-unmounted g c =
    unmounted_so c.args.command (command.List c.in-List.file) c.list.result.status c.list.result.status _ _ c.in-List.is refl
    (unmounted_never (words.list c.in-List.file.now) c.list.result.status _ _ refl refl)

pub returns-in-Demo-clause-unmounted : goal.returns-in-Demo-clause-unmounted
returns-in-Demo-clause-unmounted g c =
    unmounted_so c.args.command (command.Demo c.in-Demo.n c.in-Demo.options) c.demonstrate.result.status c.demonstrate.result.status _ _ c.in-Demo.is refl
    (unmounted_never (words.demo c.in-Demo.n (options_of c.in-Demo.options)) c.demonstrate.result.status _ _ refl refl)

pub returns-in-Check-clause-unmounted : goal.returns-in-Check-clause-unmounted
returns-in-Check-clause-unmounted g c =
    unmounted_so c.args.command (command.Check c.in-Check.file) c.check.result.status c.check.result.status _ _ c.in-Check.is refl
    (unmounted_never (words.check c.in-Check.file.now) c.check.result.status _ _ refl refl)

pub returns-in-Explain-clause-unmounted : goal.returns-in-Explain-clause-unmounted
returns-in-Explain-clause-unmounted g c =
    unmounted_so c.args.command (command.Explain c.in-Explain.file) c.explain_file.result.status c.explain_file.result.status _ _ c.in-Explain.is refl
    (unmounted_never (words.explain c.in-Explain.file.now) c.explain_file.result.status _ _ refl refl)

pub returns-in-Explore-clause-unmounted : goal.returns-in-Explore-clause-unmounted
returns-in-Explore-clause-unmounted g c =
    unmounted_so c.args.command (command.Explore c.in-Explore.file c.in-Explore.options) c.explore_file.result.status c.explore_file.result.status _ _ c.in-Explore.is refl
    (unmounted_never (words.explore c.in-Explore.file.now (exploring_of c.in-Explore.options)) c.explore_file.result.status _ _ refl refl)

pub returns-in-NewDisk-clause-unmounted : goal.returns-in-NewDisk-clause-unmounted
returns-in-NewDisk-clause-unmounted g c =
    unmounted_so c.args.command (command.NewDisk c.in-NewDisk.blocks c.in-NewDisk.old) c.new_by.result c.silent-in-NewDisk.result.status
    _ _ c.in-NewDisk.is c.silent-in-NewDisk.ensures.status
    (unmounted_never (words.newdisk c.in-NewDisk.blocks (option_map (λ name. name.now) c.in-NewDisk.old)) c.new_by.result _ _ refl refl)

pub returns-in-RunWith-clause-unmounted : goal.returns-in-RunWith-clause-unmounted
returns-in-RunWith-clause-unmounted g c =
    unmounted_so c.args.command (command.RunWith c.in-RunWith.file c.in-RunWith.account c.in-RunWith.options) c.run_file_with.result.status c.run_file_with.result.status _ _ c.in-RunWith.is refl
    (unmounted_last (words.run_with c.in-RunWith.file.now (account_of c.in-RunWith.account) (options_of c.in-RunWith.options)) c.run_file_with.result.status _ _ refl c.run_file_with.ensures.unmounted)

pub returns-in-ExecWith-clause-unmounted : goal.returns-in-ExecWith-clause-unmounted
returns-in-ExecWith-clause-unmounted g c =
    unmounted_so c.args.command (command.ExecWith c.in-ExecWith.file c.in-ExecWith.account c.in-ExecWith.options) c.run_file_with-in-ExecWith.result.status c.run_file_with-in-ExecWith.result.status _ _ c.in-ExecWith.is refl
    (unmounted_last (words.exec_with c.in-ExecWith.file.now (account_of c.in-ExecWith.account) (options_of c.in-ExecWith.options)) c.run_file_with-in-ExecWith.result.status _ _ refl c.run_file_with-in-ExecWith.ensures.unmounted)

pub returns-in-DemoWith-clause-came : goal.returns-in-DemoWith-clause-came
returns-in-DemoWith-clause-came g c =
    let came = c.demonstrate-in-DemoWith.ensures.came in
    came_run (Some (view c.args.command)) c.demonstrate-in-DemoWith.result.status c.demonstrate-in-DemoWith.result.due _ _ _ _ _ _
    (ap (λ x. command_does uses_devices (Some (view x))) c.in-DemoWith.is)
    (c.demonstrate-in-DemoWith.ensures.cause (g.D.Drive.faults c.args.drive.now) (g.S.Source.faults c.args.input.now)) came.0 came.1
    (obeyed_demo_with c.args.command c.in-DemoWith.n c.from-in-DemoWith.result c.in-DemoWith.account c.in-DemoWith.options
    c.demonstrate-in-DemoWith.result.status c.demonstrate-in-DemoWith.result.due _ _ _ c.in-DemoWith.is c.from-in-DemoWith.ensures
    (came.2 (g.D.Drive.contents c.args.drive.now) (g.S.Source.left c.args.input.now)))

pub returns-in-DemoWith-clause-cause : goal.returns-in-DemoWith-clause-cause
returns-in-DemoWith-clause-cause g c =
    c.demonstrate-in-DemoWith.ensures.cause (g.D.Drive.faults c.args.drive.now) (g.S.Source.faults c.args.input.now)

pub returns-in-DemoWith-clause-untouched : goal.returns-in-DemoWith-clause-untouched
returns-in-DemoWith-clause-untouched g c =
    let s = c.demonstrate-in-DemoWith.result.status in
    let named : Command = command.DemoWith c.in-DemoWith.n c.in-DemoWith.account c.in-DemoWith.options in
    untouched_so c.args.command named s s _ _ c.in-DemoWith.is refl
    (untouched_alone _ _ (view named) s refl refl (λ e. e) c.demonstrate-in-DemoWith.ensures.no_files refl refl
    (λ early.
    let none = c.demonstrate-in-DemoWith.ensures.early early in
    record { drive = refl; input = refl; terminal = none.0; printer = none.1; kernel = none.2 }))

pub returns-in-DemoWith-clause-unmounted : goal.returns-in-DemoWith-clause-unmounted
returns-in-DemoWith-clause-unmounted g c =
    let s = c.demonstrate-in-DemoWith.result.status in
    let named : Command = command.DemoWith c.in-DemoWith.n c.in-DemoWith.account c.in-DemoWith.options in
    unmounted_so c.args.command named s s _ _ c.in-DemoWith.is refl (unmounted_never (view named) s _ _ refl refl)

pub returns-in-Run-clause-came : goal.returns-in-Run-clause-came
returns-in-Run-clause-came g c =
    run_so c.args.command (command.Run c.in-Run.file c.in-Run.options) c.run_file.result.status c.run_file.result.due _ _ _ _ _ _
    c.in-Run.is refl c.run_file.ensures.cause c.run_file.ensures.came

pub returns-in-Exec-clause-came : goal.returns-in-Exec-clause-came
returns-in-Exec-clause-came g c =
    run_so c.args.command (command.Exec c.in-Exec.file c.in-Exec.options) c.run_file-in-Exec.result.status c.run_file-in-Exec.result.due _ _ _ _ _ _
    c.in-Exec.is refl c.run_file-in-Exec.ensures.cause c.run_file-in-Exec.ensures.came

pub returns-in-Watch-clause-came : goal.returns-in-Watch-clause-came
returns-in-Watch-clause-came g c =
    run_so c.args.command (command.Watch c.in-Watch.file c.in-Watch.stops c.in-Watch.out c.in-Watch.options) c.watch_file.result.status c.watch_file.result.due _ _ _ _ _ _
    c.in-Watch.is refl c.watch_file.ensures.cause c.watch_file.ensures.came

pub returns-in-RunWith-clause-came : goal.returns-in-RunWith-clause-came
returns-in-RunWith-clause-came g c =
    run_so c.args.command (command.RunWith c.in-RunWith.file c.in-RunWith.account c.in-RunWith.options) c.run_file_with.result.status c.run_file_with.result.due _ _ _ _ _ _
    c.in-RunWith.is refl c.run_file_with.ensures.cause c.run_file_with.ensures.came

pub returns-in-ExecWith-clause-came : goal.returns-in-ExecWith-clause-came
returns-in-ExecWith-clause-came g c =
    run_so c.args.command (command.ExecWith c.in-ExecWith.file c.in-ExecWith.account c.in-ExecWith.options) c.run_file_with-in-ExecWith.result.status c.run_file_with-in-ExecWith.result.due _ _ _ _ _ _
    c.in-ExecWith.is refl c.run_file_with-in-ExecWith.ensures.cause c.run_file_with-in-ExecWith.ensures.came

pub returns-in-Boot-clause-came : goal.returns-in-Boot-clause-came
returns-in-Boot-clause-came g c =
    run_so c.args.command (command.Boot c.in-Boot.options) c.boot.result.status c.boot.result.due _ _ _ _ _ _
    c.in-Boot.is refl c.boot.ensures.cause c.boot.ensures.came
