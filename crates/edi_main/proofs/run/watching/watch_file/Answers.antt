-- The exits of `watch`.
use Rattle.std.proofs.Common.{◌∙◌, None, refl, sym, subst}
use Rattle.edi_runs.specs.watch.Watchable.{program_in}
use Rattle.edi_words.specs.Words.{Options}
use Rattle.edi_words.specs.View.{choices_from, options_of}
use Rattle.edi_statuses.specs.EachObject.{FitsCount}
use Rattle.edi_statuses.specs.Outside.{Outside, Lent, blaming, outside_of, lent, still_told}
use Rattle.edi_statuses.specs.Steps.{Accepts}
use Rattle.edi_statuses.proofs.Told.{in_turn}
use Rattle.edi_main.specs.steps.OnFiles.{files_only}
use Rattle.edi_main.proofs.run.Asked.{never_early}
use Rattle.edi_main.proofs.run.Stopping.{came_early, opening_came, opening_cause, opening_fits, text_unread, text_unread_all, unread_came, unread_cause, unread_fits}
use Rattle.edi_main.proofs.run.WatchedExits.{Pointed, command, points_fit, points_stop, stops_as, watched_came}
use Rattle.edi_main.proofs.run.watching.watch_file.Goals as goal

pub returns-in-Err-clause-came : goal.returns-in-Err-clause-came
returns-in-Err-clause-came g c =
    let before : Outside = outside_of g.F.Files.contents g.D.Drive.contents g.S.Source.left g.T.Sink.taken g.P.Sink.taken c.args.files.now
    c.args.drive.now c.args.input.now c.args.terminal.now c.args.printer.now in
    let kernel : Lent = lent c.args.kernel.now.store c.args.kernel.now.used c.args.kernel.now.store c.args.kernel.now.used in
    let o : Options = options_of c.args.options in
    let new = g.F.Files.contents c.open_program.new.files in
    let by = stops_as c.args.file.now c.args.stops.now c.args.out.now o in (
      None,
      tt,
      opening_came Accepts (Pointed c.args.file.now c.args.stops.now c.args.out.now o)
          (command c.args.file.now c.args.stops.now c.args.out.now o) c.args.file.now o.choices by before kernel new refl c.in-Err.ensures.only.unchanged 262145 c.in-Err.status _ _ c.stopped.ensures.status_is c.stopped.ensures.due c.in-Err.ensures.opened,
    )

pub returns-in-Err-watchable_text-clause-came : goal.returns-in-Err-watchable_text-clause-came
returns-in-Err-watchable_text-clause-came g c =
    let before : Outside = outside_of g.F.Files.contents g.D.Drive.contents g.S.Source.left g.T.Sink.taken g.P.Sink.taken c.args.files.now
    c.args.drive.now c.args.input.now c.args.terminal.now c.args.printer.now in
    let kernel : Lent = lent c.args.kernel.now.store c.args.kernel.now.used c.args.kernel.now.store c.args.kernel.now.used in
    let o : Options = options_of c.args.options in
    let new = g.F.Files.contents c.open_program.new.files in
    let by = stops_as c.args.file.now c.args.stops.now c.args.out.now o in
    let read = c.in-Ok.ensures.opened in
    let s = c.in-Err-watchable_text.status in (
      None,
      tt,
      unread_came Accepts (Pointed c.args.file.now c.args.stops.now c.args.out.now o)
          (command c.args.file.now c.args.stops.now c.args.out.now o) c.args.file.now o.choices by before kernel new refl
          c.in-Ok.ensures.only.unchanged
          read.0.0 c.in-Ok.opened.choices.source read.0.1 read.2 s _ _ c.stopped-in-Err-watchable_text.ensures.status_is c.stopped-in-Err-watchable_text.ensures.due
          (text_unread_all read.0.0 c.deref.result.now (c.deref.ensures.value ∙ read.0.2) s
          (text_unread c.deref.result.now s c.in-Err-watchable_text.ensures.reads)),
    )

pub returns-in-Err-points_from-clause-came : goal.returns-in-Err-points_from-clause-came
returns-in-Err-points_from-clause-came g c =
    let before : Outside = outside_of g.F.Files.contents g.D.Drive.contents g.S.Source.left g.T.Sink.taken g.P.Sink.taken c.args.files.now
    c.args.drive.now c.args.input.now c.args.terminal.now c.args.printer.now in
    let kernel : Lent = lent c.args.kernel.now.store c.args.kernel.now.used c.args.kernel.now.store c.args.kernel.now.used in
    let o : Options = options_of c.args.options in
    let opened = g.F.Files.contents c.open_program.new.files in
    let new = g.F.Files.contents c.points_from.new.files in
    let first = c.in-Ok.ensures.only.unchanged in
    let second = c.in-Err-points_from.ensures.only.unchanged in
    let by = stops_as c.args.file.now c.args.stops.now c.args.out.now o in
    let read = c.in-Ok.ensures.opened in (
      None,
      tt,
      came_early Accepts (Pointed c.args.file.now c.args.stops.now c.args.out.now o)
          (command c.args.file.now c.args.stops.now c.args.out.now o) c.args.file.now o.choices by before kernel new refl
          (in_turn before.files opened new first second) c.in-Err-points_from.status _ _ c.stopped-in-Err-points_from.ensures.status_is
          c.stopped-in-Err-points_from.ensures.due
          (points_stop c.args.file.now c.args.stops.now c.args.out.now o before kernel read.0.0 opened read.0.1 c.in-Ok.opened.choices.source read.2 first
          c.deref.result.now c.in-Ok-watchable_text.watched (c.deref.ensures.value ∙ read.0.2) c.in-Ok-watchable_text.ensures.reads new second
          c.in-Err-points_from.status c.in-Err-points_from.ensures.reads),
    )

pub returns-clause-came : goal.returns-clause-came
returns-clause-came g c =
    let before : Outside = outside_of g.F.Files.contents g.D.Drive.contents g.S.Source.left g.T.Sink.taken g.P.Sink.taken c.args.files.now
    c.args.drive.now c.args.input.now c.args.terminal.now c.args.printer.now in
    let after : Outside = outside_of g.F.Files.contents g.D.Drive.contents g.S.Source.left g.T.Sink.taken g.P.Sink.taken c.watch_program.new.files
    c.watch_program.new.drive c.watch_program.new.input c.watch_program.new.terminal c.watch_program.new.printer in
    let kernel : Lent = blaming c.watch_program.ensures.ran.0
    (lent c.args.kernel.now.store c.args.kernel.now.used c.watch_program.new.kernel.store c.watch_program.new.kernel.used) in
    let o : Options = options_of c.args.options in
    let opened = g.F.Files.contents c.open_program.new.files in
    let new = g.F.Files.contents c.points_from.new.files in
    let read = c.in-Ok.ensures.opened in (
      c.watch_program.ensures.ran.0,
      c.watch_program.ensures.ran.1,
      watched_came c.args.file.now c.args.stops.now c.args.out.now o before kernel read.0.0 opened read.0.1 c.in-Ok.opened.choices.source read.2
          c.in-Ok.ensures.only.unchanged c.deref.result.now c.in-Ok-watchable_text.watched (c.deref.ensures.value ∙ read.0.2)
          c.in-Ok-watchable_text.ensures.reads new c.in-Ok-points_from.ensures.only.unchanged c.in-Ok-points_from.points
          c.in-Ok-points_from.ensures.reads after c.watch_program.ensures.tells c.watch_program.result.status c.watch_program.result.due
          c.watch_program.ensures.ran.2,
    )

pub returns-in-Err-clause-fits : goal.returns-in-Err-clause-fits
returns-in-Err-clause-fits g c =
    opening_fits (files_only (still_told (g.F.Files.contents c.args.files.now) (g.F.Files.contents c.open_program.new.files))) c.args.file.now 262145
    (choices_from c.args.options.choices) _ c.in-Err.status _ c.stopped.ensures.status_is c.in-Err.ensures.opened

pub returns-in-Err-clause-cause : goal.returns-in-Err-clause-cause
returns-in-Err-clause-cause g c =
    opening_cause (files_only (still_told (g.F.Files.contents c.args.files.now) (g.F.Files.contents c.open_program.new.files))) c.args.file.now
    262145 (choices_from c.args.options.choices) _ _ c.in-Err.status _ c.stopped.ensures.status_is c.in-Err.ensures.opened c.in-Err.ensures.only.cause

pub returns-in-Err-watchable_text-clause-fits : goal.returns-in-Err-watchable_text-clause-fits
returns-in-Err-watchable_text-clause-fits g c =
    unread_fits Accepts c.deref.result.now _ c.in-Err-watchable_text.status _ c.stopped-in-Err-watchable_text.ensures.status_is
    (text_unread c.deref.result.now c.in-Err-watchable_text.status c.in-Err-watchable_text.ensures.reads)

pub returns-in-Err-points_from-clause-fits : goal.returns-in-Err-points_from-clause-fits
returns-in-Err-points_from-clause-fits g c =
    let o = files_only (still_told (g.F.Files.contents c.open_program.new.files) (g.F.Files.contents c.points_from.new.files)) in
    subst (λ s. FitsCount s (g.D.Drive.count c.args.drive.now)) (sym c.stopped-in-Err-points_from.ensures.status_is)
    (points_fit o (program_in c.in-Ok-watchable_text.watched) c.args.stops.now c.in-Err-points_from.status _ c.in-Err-points_from.ensures.reads)

pub returns-in-Err-watchable_text-clause-cause : goal.returns-in-Err-watchable_text-clause-cause
returns-in-Err-watchable_text-clause-cause g c =
    unread_cause Accepts c.deref.result.now _ _ c.in-Err-watchable_text.status _ c.stopped-in-Err-watchable_text.ensures.status_is
    (text_unread c.deref.result.now c.in-Err-watchable_text.status c.in-Err-watchable_text.ensures.reads)

pub returns-clause-fits : goal.returns-clause-fits
returns-clause-fits g c = c.watch_program.ensures.asked.fits

pub returns-clause-early : goal.returns-clause-early
returns-clause-early g c = λ early. absurd (never_early c.watch_program.result.status c.watch_program.ensures.asked.behind_steps early)
