-- The exits of `walk`.
use Rattle.std.proofs.Common.{◌∙◌, None, refl}
use Rattle.edi_words.specs.Words as words
use Rattle.edi_statuses.specs.Outside.{Outside, blaming, idle, outside_of, still_told}
use Rattle.edi_statuses.specs.Steps.{Accepts}
use Rattle.edi_main.specs.steps.OnFiles.{files_only}
use Rattle.edi_main.proofs.run.Asked.{never_early}
use Rattle.edi_main.proofs.run.Stopping.{opening_came, opening_cause, opening_fits, text_unread, text_unread_all, unread_came, unread_cause, unread_fits}
use Rattle.edi_main.proofs.run.WalkExits.{Steps, command, stops_as, unit_all, walk_came}
use Rattle.edi_main.proofs.run.walking.walk_file.Goals as goal

pub returns-in-Err-clause-came : goal.returns-in-Err-clause-came
returns-in-Err-clause-came g c = λ kernel.
    let before : Outside = outside_of g.F.Files.contents g.D.Drive.contents g.S.Source.left g.T.Sink.taken g.P.Sink.taken c.args.files.now
    c.args.drive.now c.args.input.now c.args.terminal.now c.args.printer.now in
    let new = g.F.Files.contents c.open_program.new.files in
    let from = words.file c.args.choices.now in
    let by = stops_as c.args.file.now c.args.choices.now c.args.turns in (
      None,
      tt,
      opening_came Accepts (Steps c.args.file.now c.args.choices.now c.args.turns) (command c.args.file.now c.args.choices.now c.args.turns) c.args.file.now from by
          before (blaming None (idle kernel)) new refl c.in-Err.ensures.only.unchanged 262145 c.in-Err.status _ _ c.stopped.ensures.status_is c.stopped.ensures.due c.in-Err.ensures.opened,
    )

pub returns-in-Err-unit_of_text-clause-came : goal.returns-in-Err-unit_of_text-clause-came
returns-in-Err-unit_of_text-clause-came g c = λ kernel.
    let before : Outside = outside_of g.F.Files.contents g.D.Drive.contents g.S.Source.left g.T.Sink.taken g.P.Sink.taken c.args.files.now
    c.args.drive.now c.args.input.now c.args.terminal.now c.args.printer.now in
    let new = g.F.Files.contents c.open_program.new.files in
    let from = words.file c.args.choices.now in
    let by = stops_as c.args.file.now c.args.choices.now c.args.turns in
    let read = c.in-Ok.ensures.opened in
    let s = c.in-Err-unit_of_text.status in (
      None,
      tt,
      unread_came Accepts (Steps c.args.file.now c.args.choices.now c.args.turns) (command c.args.file.now c.args.choices.now c.args.turns) c.args.file.now from by
          before (blaming None (idle kernel)) new refl
          c.in-Ok.ensures.only.unchanged
          read.0.0 c.in-Ok.opened.choices.source read.0.1 read.2 s _ _ c.stopped-in-Err-unit_of_text.ensures.status_is c.stopped-in-Err-unit_of_text.ensures.due
          (text_unread_all read.0.0 c.deref.result.now (c.deref.ensures.value ∙ read.0.2) s
          (text_unread c.deref.result.now s c.in-Err-unit_of_text.ensures.reads)),
    )

pub returns-clause-came : goal.returns-clause-came
returns-clause-came g c = λ kernel.
    let before : Outside = outside_of g.F.Files.contents g.D.Drive.contents g.S.Source.left g.T.Sink.taken g.P.Sink.taken c.args.files.now
    c.args.drive.now c.args.input.now c.args.terminal.now c.args.printer.now in
    let after : Outside = outside_of g.F.Files.contents g.D.Drive.contents g.S.Source.left g.T.Sink.taken g.P.Sink.taken c.open_program.new.files
    c.walk_unit.new.drive c.walk_unit.new.input c.walk_unit.new.terminal c.walk_unit.new.printer in
    let new = g.F.Files.contents c.open_program.new.files in
    let blamed = c.walk_unit.ensures.ran new kernel in
    let read = c.in-Ok.ensures.opened in
    let unit_is = unit_all read.0.0 c.deref.result.now c.in-Ok-unit_of_text.unit (c.deref.ensures.value ∙ read.0.2) c.in-Ok-unit_of_text.ensures.reads in (
      blamed.0,
      blamed.1,
      walk_came c.args.file.now c.args.choices.now c.args.turns before kernel blamed.0 read.0.0 new read.0.1 c.in-Ok.opened.choices.source read.2
          c.in-Ok.ensures.only.unchanged c.in-Ok-unit_of_text.unit unit_is after refl c.walk_unit.result.status c.walk_unit.result.due blamed.2,
    )

pub returns-in-Err-clause-fits : goal.returns-in-Err-clause-fits
returns-in-Err-clause-fits g c =
    opening_fits (files_only (still_told (g.F.Files.contents c.args.files.now) (g.F.Files.contents c.open_program.new.files))) c.args.file.now 262145
    (words.file c.args.choices.now) _ c.in-Err.status _ c.stopped.ensures.status_is c.in-Err.ensures.opened

pub returns-in-Err-clause-cause : goal.returns-in-Err-clause-cause
returns-in-Err-clause-cause g c =
    opening_cause (files_only (still_told (g.F.Files.contents c.args.files.now) (g.F.Files.contents c.open_program.new.files))) c.args.file.now
    262145 (words.file c.args.choices.now) _ _ c.in-Err.status _ c.stopped.ensures.status_is c.in-Err.ensures.opened c.in-Err.ensures.only.cause

pub returns-in-Err-unit_of_text-clause-fits : goal.returns-in-Err-unit_of_text-clause-fits
returns-in-Err-unit_of_text-clause-fits g c =
    unread_fits Accepts c.deref.result.now _ c.in-Err-unit_of_text.status _ c.stopped-in-Err-unit_of_text.ensures.status_is
    (text_unread c.deref.result.now c.in-Err-unit_of_text.status c.in-Err-unit_of_text.ensures.reads)

pub returns-in-Err-unit_of_text-clause-cause : goal.returns-in-Err-unit_of_text-clause-cause
returns-in-Err-unit_of_text-clause-cause g c =
    unread_cause Accepts c.deref.result.now _ _ c.in-Err-unit_of_text.status _ c.stopped-in-Err-unit_of_text.ensures.status_is
    (text_unread c.deref.result.now c.in-Err-unit_of_text.status c.in-Err-unit_of_text.ensures.reads)

pub returns-clause-cause : goal.returns-clause-cause
returns-clause-cause g c = c.walk_unit.ensures.cause (g.F.Files.faults c.args.files.now) (g.F.Files.faults c.open_program.new.files)

pub returns-clause-fits : goal.returns-clause-fits
returns-clause-fits g c = c.walk_unit.ensures.asked.fits

pub returns-clause-early : goal.returns-clause-early
returns-clause-early g c = λ early. absurd (never_early c.walk_unit.result.status c.walk_unit.ensures.asked.behind_steps early)

pub returns-clause-later : goal.returns-clause-later
returns-clause-later g c = record {
  files = c.in-Ok.ensures.only.later;
  drive = c.walk_unit.ensures.later_drive;
  input = c.walk_unit.ensures.later_input;
  terminal = c.walk_unit.ensures.later_terminal;
  printer = c.walk_unit.ensures.later_printer;
}
