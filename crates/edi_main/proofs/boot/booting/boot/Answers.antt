-- The exits of `boot`.
use Rattle.std.proofs.Common.{None, refl, sym, subst}
use Rattle.edi_words.specs.View.{choices_from, options_of}
use Rattle.edi_statuses.specs.Outside.{Outside, Lent, blaming, outside_of, lent, still_told}
use Rattle.edi_main.specs.steps.OnFiles.{files_only}
use Rattle.edi_statuses.specs.EachObject.{FitsCount}
use Rattle.edi_main.proofs.steps.OnFilesLemmas.{choices_fit}
use Rattle.edi_main.proofs.run.Asked.{never_early}
use Rattle.edi_main.proofs.boot.Exits.{boot_came, unread}
use Rattle.edi_main.proofs.boot.booting.boot.Goals as goal

pub returns-in-Err-clause-came : goal.returns-in-Err-clause-came
returns-in-Err-clause-came g c =
    let before : Outside = outside_of g.F.Files.contents g.D.Drive.contents g.S.Source.left g.T.Sink.taken g.P.Sink.taken c.args.files.now
    c.args.drive.now c.args.input.now c.args.terminal.now c.args.printer.now in
    let kernel : Lent = lent c.args.kernel.now.store c.args.kernel.now.used c.args.kernel.now.store c.args.kernel.now.used in (
      None,
      tt,
      unread (options_of c.args.options) before (g.F.Files.contents c.read_from.new.files) kernel refl c.in-Err.ensures.only.unchanged c.in-Err.status
          c.stopped.result.status c.stopped.result.due c.stopped.ensures.status_is c.stopped.ensures.due c.in-Err.ensures.reads,
    )

pub returns-clause-came : goal.returns-clause-came
returns-clause-came g c =
    let h = c.hold_session.ensures.came in (
      h.0,
      h.1,
      boot_came (options_of c.args.options)
          (outside_of g.F.Files.contents g.D.Drive.contents g.S.Source.left g.T.Sink.taken g.P.Sink.taken c.args.files.now c.args.drive.now c.args.input.now
          c.args.terminal.now c.args.printer.now) (g.F.Files.contents c.read_from.new.files)
          (blaming h.0 (lent c.args.kernel.now.store c.args.kernel.now.used c.hold_session.new.kernel.store c.hold_session.new.kernel.used))
          c.in-Ok.choices.source
          c.in-Ok.ensures.reads.1 c.in-Ok.ensures.only.unchanged c.hold_session.result.status c.hold_session.result.due
          (outside_of g.F.Files.contents g.D.Drive.contents g.S.Source.left g.T.Sink.taken g.P.Sink.taken c.hold_session.new.files c.hold_session.new.drive
          c.hold_session.new.input c.hold_session.new.terminal c.hold_session.new.printer) c.hold_session.ensures.tells h.2,
    )

pub returns-in-Err-clause-fits : goal.returns-in-Err-clause-fits
returns-in-Err-clause-fits g c =
    let o : Outside = files_only (still_told (g.F.Files.contents c.args.files.now) (g.F.Files.contents c.read_from.new.files)) in
    subst (λ s. FitsCount s (g.D.Drive.count c.args.drive.now)) (sym c.stopped.ensures.status_is)
    (choices_fit o (choices_from c.args.options.choices) c.in-Err.status _ c.in-Err.ensures.reads)

pub returns-clause-fits : goal.returns-clause-fits
returns-clause-fits g c = c.hold_session.ensures.asked.fits

pub returns-clause-early : goal.returns-clause-early
returns-clause-early g c = λ early. absurd (never_early c.hold_session.result.status c.hold_session.ensures.asked.behind_steps early)
