-- The exits of a session on the objects of a command.
use Rattle.std.proofs.Common.{rules, ◌≡◌, ◌∙◌, ◌+◌, ◌*◌, ◌<◌, ◌^◌, true, false, None, option_map, arith, refl, sym, subst, ap}
use Rattle.edi_execute.specs.Objects.{objects}
use Rattle.edi_shell.specs.sessions.Ends.{ends_by_fault}
use Rattle.edi_shell_io.specs.calls.Standing.{failed_by}
use Rattle.edi_statuses.specs.Counts.{Counts, HasCause, counts_of}
use Rattle.edi_statuses.specs.Outside.{kernel_of, lent}
use Rattle.edi_main.proofs.run.Counted.{none_falls, record_cause}
use Rattle.edi_main.specs.steps.NotMounted.{mount_status}
use Rattle.edi_statuses.specs.Sessions.{session_status}
use Rattle.edi_main.proofs.run.Mounting.{left_on}
use Rattle.edi_main.proofs.run.Past.{never_at, past_so, record_past, session_past}
use Rattle.edi_main.proofs.run.Asked.{asked_so, record_asked, unmounted_asked}
use Rattle.edi_main.proofs.boot.Exits.{blamed_end, broke, ended_asked, ended_cause, ended_so, unmounted, with_bound}
use Rattle.edi_main.proofs.boot.booting.hold_session.Goals as goal

pub returns-in-Err-clause-came : goal.returns-in-Err-clause-came
returns-in-Err-clause-came g c =
    let n = c.in-Err.ensures.nothing_begun in (
      None,
      tt,
      unmounted c.args.turns c.args.choices.now.source (option_map (λ name. name.now) c.args.record_file) c.stopped.result.status c.stopped.result.due _ _ _
          c.in-Err.why (c.stopped.ensures.status_is ∙ c.mount_status.ensures.exact) c.stopped.ensures.due
          (record {
            files = refl;
            blocks = c.in-Err.ensures.not_mounted;
            input = ap g.S.Source.left n.0;
            shown = ap g.T.Sink.taken n.1;
            printed = ap g.P.Sink.taken n.2;
            kernel_same = ap (λ k. kernel_of k.store k.used) n.3;
          }),
    )

pub returns-in-Err-clause-later : goal.returns-in-Err-clause-later
returns-in-Err-clause-later g c =
    none_falls g.F.Files.faults g.D.Drive.faults g.S.Source.faults g.T.Sink.faults g.P.Sink.faults c.args.files.now c.args.files.now _ _ (omega arith)
    c.hold_on.ensures.later

pub returns-then-ends_by_fault-clause-came : goal.returns-then-ends_by_fault-clause-came
returns-then-ends_by_fault-clause-came g c =
    let l = c.in-Ok.ensures.leaves in
    let few : c.args.choices.now.drawn + 4194304 * c.from.result < 2 ^ 64 = search rules in
    let failed : ends_by_fault c.in-Ok.exit.end ≡ true = search rules in (
      failed_by c.in-Ok.exit.end,
      blamed_end g.D.Drive.faults g.S.Source.faults g.T.Sink.faults g.P.Sink.faults
          (objects c.args.drive.now c.args.input.now c.args.terminal.now c.args.printer.now)
          (objects c.hold_on.new.drive c.hold_on.new.input c.hold_on.new.terminal c.hold_on.new.printer) c.session_status.result
          (failed_by c.in-Ok.exit.end) c.in-Ok.ensures.blame,
      with_bound c.from.result c.args.turns (search rules) _ _ _ _ _ _ _
          (broke c.from.result c.args.choices.now c.requires.none_drawn c.in-Ok.exit.due c.in-Ok.exit.end _ _
          (left_on _ _ _ c.in-Ok.ensures.mounted l.told l.due)
          (lent c.args.kernel.now.store c.args.kernel.now.used c.hold_on.new.kernel.store c.hold_on.new.kernel.used) c.hold_on.new.choices (l.ends few)
          (option_map (λ name. name.now) c.args.record_file) c.session_status.result c.session_status.ensures.exact failed refl),
    )

pub returns-then-ends_by_fault-clause-later : goal.returns-then-ends_by_fault-clause-later
returns-then-ends_by_fault-clause-later g c =
    none_falls g.F.Files.faults g.D.Drive.faults g.S.Source.faults g.T.Sink.faults g.P.Sink.faults c.args.files.now c.args.files.now _ _ (omega arith)
    c.hold_on.ensures.later

pub returns-clause-came : goal.returns-clause-came
returns-clause-came g c =
    let l = c.in-Ok.ensures.leaves in
    let few : c.args.choices.now.drawn + 4194304 * c.from.result < 2 ^ 64 = search rules in
    let unfailed : ends_by_fault c.in-Ok.exit.end ≡ false = search rules in (
      None,
      tt,
      rw c.end_with_record.ensures.due
          (with_bound c.from.result c.args.turns (search rules) _ _ _ _ _ _ _
          (ended_so c.from.result c.args.choices.now c.requires.none_drawn c.in-Ok.exit.due c.in-Ok.exit.end _ _
          (left_on _ _ _ c.in-Ok.ensures.mounted l.told l.due) _ c.hold_on.new.choices (l.ends few)
          unfailed (omega (arith, c.hold_on.ensures.drawn, c.requires.none_drawn)) (option_map (λ name. name.now) c.args.record_file)
          c.session_status.result c.end_with_record.result.status c.session_status.ensures.exact c.hold_on.ensures.source c.end_with_record.ensures.keeps)),
    )

pub returns-clause-later : goal.returns-clause-later
returns-clause-later g c =
    none_falls g.F.Files.faults g.D.Drive.faults g.S.Source.faults g.T.Sink.faults g.P.Sink.faults _ _ _ _ c.end_with_record.ensures.later
    c.hold_on.ensures.later

pub returns-clause-cause : goal.returns-clause-cause
returns-clause-cause g c =
    let unfailed : ends_by_fault c.in-Ok.exit.end ≡ false = search rules in
    let had : Counts = counts_of g.F.Files.faults g.D.Drive.faults g.S.Source.faults g.T.Sink.faults g.P.Sink.faults c.args.files.now
    c.args.drive.now c.args.input.now c.args.terminal.now c.args.printer.now in
    let has : Counts = counts_of g.F.Files.faults g.D.Drive.faults g.S.Source.faults g.T.Sink.faults g.P.Sink.faults c.end_with_record.new.files
    c.hold_on.new.drive c.hold_on.new.input c.hold_on.new.terminal c.hold_on.new.printer in
    record_cause (option_map (λ name. name.now) c.args.record_file) c.hold_on.new.choices c.session_status.result c.end_with_record.result.status _ _ had has
    (subst (λ s. HasCause s had has) (sym c.session_status.ensures.exact) (ended_cause c.in-Ok.exit.end had has unfailed))
    c.end_with_record.ensures.cause c.end_with_record.ensures.keeps

pub returns-in-Err-clause-asked : goal.returns-in-Err-clause-asked
returns-in-Err-clause-asked g c =
    asked_so (mount_status c.in-Err.why) c.stopped.result.status _ (c.stopped.ensures.status_is ∙ c.mount_status.ensures.exact)
    (unmounted_asked c.in-Err.why _ c.in-Err.ensures.faults)

pub returns-then-ends_by_fault-clause-asked : goal.returns-then-ends_by_fault-clause-asked
returns-then-ends_by_fault-clause-asked g c =
    asked_so (session_status c.in-Ok.exit.end) c.session_status.result _ c.session_status.ensures.exact
    (ended_asked _ c.in-Ok.ensures.image c.in-Ok.exit.end)

pub returns-clause-asked : goal.returns-clause-asked
returns-clause-asked g c =
    record_asked _ (option_map (λ name. name.now) c.args.record_file) c.hold_on.new.choices c.session_status.result c.end_with_record.result.status _ _
    (asked_so (session_status c.in-Ok.exit.end) c.session_status.result _ c.session_status.ensures.exact
    (ended_asked _ c.in-Ok.ensures.image c.in-Ok.exit.end))
    c.end_with_record.ensures.keeps

pub returns-in-Err-clause-unmounted : goal.returns-in-Err-clause-unmounted
returns-in-Err-clause-unmounted g c = λ at.
    let n = c.in-Err.ensures.nothing_begun in
    record { input = n.0; printer = n.2; kernel = n.3 }

pub returns-then-ends_by_fault-clause-unmounted : goal.returns-then-ends_by_fault-clause-unmounted
returns-then-ends_by_fault-clause-unmounted g c = λ at.
    never_at c.session_status.result
    (past_so (session_status c.in-Ok.exit.end) c.session_status.result c.session_status.ensures.exact (session_past c.in-Ok.exit.end)) at

pub returns-clause-unmounted : goal.returns-clause-unmounted
returns-clause-unmounted g c = λ at.
    never_at c.end_with_record.result.status
    (record_past (option_map (λ name. name.now) c.args.record_file) c.hold_on.new.choices c.session_status.result c.end_with_record.result.status _ _
    (past_so (session_status c.in-Ok.exit.end) c.session_status.result c.session_status.ensures.exact (session_past c.in-Ok.exit.end))
    c.end_with_record.ensures.keeps) at
