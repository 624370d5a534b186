-- The exits of a command that runs the program of a file.
use Rattle.std.proofs.Common.{◌∙◌, ℕ, List, Option, None, option_map, refl, sym, ap, take}
use Rattle.edi_words.specs.Words.{Account, Options}
use Rattle.edi_words.specs.View.{account_of, choices_from, options_of}
use Rattle.edi_statuses.specs.Outside.{Outside, Lent, blaming, outside_of, lent, still_told}
use Rattle.edi_main.specs.steps.OnFiles.{files_only}
use Rattle.edi_main.specs.run.FileSteps.{command_for, text_given}
use Rattle.edi_main.proofs.run.Asked.{never_early}
use Rattle.edi_main.proofs.run.OfFiles.{Steps, file_ran, stops_as, third, unread, unread_all}
use Rattle.edi_main.proofs.run.Stopping.{opening_came, opening_cause, opening_fits, unread_came, unread_cause, unread_fits}
use Rattle.edi_main.proofs.run.files.run_form.Goals as goal

pub returns-in-Err-clause-came : goal.returns-in-Err-clause-came
returns-in-Err-clause-came g c =
    let before : Outside = outside_of g.F.Files.contents g.D.Drive.contents g.S.Source.left g.T.Sink.taken g.P.Sink.taken c.args.files.now
    c.args.drive.now c.args.input.now c.args.terminal.now c.args.printer.now in
    let kernel : Lent = lent c.args.kernel.now.store c.args.kernel.now.used c.args.kernel.now.store c.args.kernel.now.used in
    let new = g.F.Files.contents c.open_program.new.files in
    let f = c.args.form in
    let o : Options = options_of c.args.options in
    let t : Option Account = option_map account_of c.args.account in
    let by = stops_as f t c.args.file.now o in (
      None,
      tt,
      opening_came (third f) (Steps f c.args.file.now o) (command_for f t c.args.file.now o) c.args.file.now o.choices by before kernel new refl c.in-Err.ensures.only.unchanged c.limit_of.result c.in-Err.status _ _ c.stopped.ensures.status_is c.stopped.ensures.due c.in-Err.ensures.opened,
    )

pub returns-in-Err-code_of-clause-came : goal.returns-in-Err-code_of-clause-came
returns-in-Err-code_of-clause-came g c =
    let before : Outside = outside_of g.F.Files.contents g.D.Drive.contents g.S.Source.left g.T.Sink.taken g.P.Sink.taken c.args.files.now
    c.args.drive.now c.args.input.now c.args.terminal.now c.args.printer.now in
    let kernel : Lent = lent c.args.kernel.now.store c.args.kernel.now.used c.args.kernel.now.store c.args.kernel.now.used in
    let new = g.F.Files.contents c.open_program.new.files in
    let f = c.args.form in
    let o : Options = options_of c.args.options in
    let t : Option Account = option_map account_of c.args.account in
    let by = stops_as f t c.args.file.now o in
    let read = c.in-Ok.ensures.opened in (
      None,
      tt,
      unread_came (third f) (Steps f c.args.file.now o) (command_for f t c.args.file.now o) c.args.file.now o.choices by before kernel new refl c.in-Ok.ensures.only.unchanged
          read.0.0 c.in-Ok.opened.choices.source read.0.1 read.2 c.in-Err-code_of.status _ _ c.stopped-in-Err-code_of.ensures.status_is c.stopped-in-Err-code_of.ensures.due
          (unread_all f read.0.0 c.deref.result.now (c.deref.ensures.value ∙ (read.0.2 ∙ ap (λ n. take n read.0.0) c.limit_of.ensures.exact))
          c.in-Err-code_of.status c.in-Err-code_of.ensures.gives),
    )

pub returns-clause-came : goal.returns-clause-came
returns-clause-came g c =
    let before : Outside = outside_of g.F.Files.contents g.D.Drive.contents g.S.Source.left g.T.Sink.taken g.P.Sink.taken c.args.files.now
    c.args.drive.now c.args.input.now c.args.terminal.now c.args.printer.now in
    let after : Outside = outside_of g.F.Files.contents g.D.Drive.contents g.S.Source.left g.T.Sink.taken g.P.Sink.taken c.run_with.new.files
    c.run_with.new.drive c.run_with.new.input c.run_with.new.terminal c.run_with.new.printer in
    let kernel : Lent = blaming c.run_with.ensures.ran.0
    (lent c.args.kernel.now.store c.args.kernel.now.used c.run_with.new.kernel.store c.run_with.new.kernel.used) in
    let new = g.F.Files.contents c.open_program.new.files in
    let o : Options = options_of c.args.options in
    let read = c.in-Ok.ensures.opened in (
      c.run_with.ensures.ran.0,
      c.run_with.ensures.ran.1,
      file_ran (option_map account_of c.args.account) c.args.file.now o before kernel read.0.0 new c.in-Ok.opened.choices.source read.0.1 read.2
          c.in-Ok.ensures.only.unchanged after c.run_with.ensures.tells c.run_with.result.status c.run_with.result.due c.args.form c.deref.result.now
          (option_map (λ bytes. bytes.now) c.text_given.result) c.in-Ok-code_of.code
          (c.text_given.ensures.exact ∙ ap (text_given c.args.form) (c.deref-2.ensures.value ∙ sym c.deref.ensures.value)) c.run_with.ensures.ran.2
          (c.deref.ensures.value ∙ (read.0.2 ∙ ap (λ n. take n read.0.0) c.limit_of.ensures.exact)) c.in-Ok-code_of.ensures.gives,
    )

pub returns-in-Err-clause-fits : goal.returns-in-Err-clause-fits
returns-in-Err-clause-fits g c =
    opening_fits (files_only (still_told (g.F.Files.contents c.args.files.now) (g.F.Files.contents c.open_program.new.files))) c.args.file.now
    c.limit_of.result (choices_from c.args.options.choices) _ c.in-Err.status _ c.stopped.ensures.status_is c.in-Err.ensures.opened

pub returns-in-Err-clause-cause : goal.returns-in-Err-clause-cause
returns-in-Err-clause-cause g c =
    opening_cause (files_only (still_told (g.F.Files.contents c.args.files.now) (g.F.Files.contents c.open_program.new.files))) c.args.file.now
    c.limit_of.result (choices_from c.args.options.choices) _ _ c.in-Err.status _ c.stopped.ensures.status_is c.in-Err.ensures.opened c.in-Err.ensures.only.cause

pub returns-in-Err-code_of-clause-fits : goal.returns-in-Err-code_of-clause-fits
returns-in-Err-code_of-clause-fits g c =
    unread_fits (third c.args.form) c.deref.result.now _ c.in-Err-code_of.status _ c.stopped-in-Err-code_of.ensures.status_is
    (unread c.args.form c.deref.result.now c.in-Err-code_of.status c.in-Err-code_of.ensures.gives)

pub returns-in-Err-code_of-clause-cause : goal.returns-in-Err-code_of-clause-cause
returns-in-Err-code_of-clause-cause g c =
    unread_cause (third c.args.form) c.deref.result.now _ _ c.in-Err-code_of.status _ c.stopped-in-Err-code_of.ensures.status_is
    (unread c.args.form c.deref.result.now c.in-Err-code_of.status c.in-Err-code_of.ensures.gives)

pub returns-clause-fits : goal.returns-clause-fits
returns-clause-fits g c = c.run_with.ensures.asked.fits

pub returns-clause-early : goal.returns-clause-early
returns-clause-early g c = λ early. absurd (never_early c.run_with.result.status c.run_with.ensures.asked.behind_steps early)
