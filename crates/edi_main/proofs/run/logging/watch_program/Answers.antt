-- The exits of a watched run.
use Rattle.std.proofs.Common.{rules, ◌≡◌, ◌∙◌, ◌+◌, ◌<◌, ◌^◌, option_map, arith, None, Some, refl, sym, subst, ap}
use Rattle.edi_kernel.specs.declared.ends.Ending.TheVariants as ending
use Rattle.edi_debug.specs.Points.{watched_in}
use Rattle.edi_statuses.specs.Counts.{Counts, HasCause, counts_of}
use Rattle.edi_statuses.specs.Executions.{status_of}
use Rattle.edi_statuses.specs.declared.status.Status.TheVariants as status
use Rattle.edi_statuses.specs.Outside.{Outside, kernel_of, outside_of}
use Rattle.edi_statuses.proofs.Silent.{nothing_seen}
use Rattle.edi_main.specs.steps.NotMounted.{mount_status}
use Rattle.edi_statuses.specs.Executions.{object_status}
use Rattle.edi_execute.specs.Objects.{objects}
use Rattle.edi_main.proofs.run.Blamed.{blamed_by}
use Rattle.edi_main.proofs.run.Asked.{asked_so, ended_asked, failed_asked, unmounted_asked}
use Rattle.edi_main.proofs.run.Left.{ending_of}
use Rattle.edi_main.proofs.run.LogKept.{log_asked, log_cause}
use Rattle.edi_main.proofs.run.Counted.{none_falls}
use Rattle.edi_main.proofs.run.Endings.{ended_cause, status_is}
use Rattle.edi_main.proofs.run.Mounting.{left_on}
use Rattle.edi_main.proofs.run.Past.{ended_past, failed_past, log_past, never_at, past_so}
use Rattle.edi_main.proofs.run.WatchedEnds.{failed_so, no_log, not_mounted, watched_so, with_bound}
use Rattle.edi_main.proofs.run.logging.watch_program.Goals as goal

pub returns-in_default-clause-ran : goal.returns-in_default-clause-ran
returns-in_default-clause-ran g c =
    let before : Outside = outside_of g.F.Files.contents g.D.Drive.contents g.S.Source.left g.T.Sink.taken g.P.Sink.taken c.args.files.now
    c.args.drive.now c.args.input.now c.args.terminal.now c.args.printer.now in (
      None,
      tt,
      no_log c.args.watched.now (watched_in c.args.points.now) c.args.turns c.args.out.now (option_map (λ name. name.now) c.args.record_file) before before
          c.args.choices.now.source c.stopped.result.status c.stopped.result.due _ c.stopped.ensures.status_is c.stopped.ensures.due
          (nothing_seen before (kernel_of c.args.kernel.now.store c.args.kernel.now.used)),
    )

pub returns-in_default-clause-asked : goal.returns-in_default-clause-asked
returns-in_default-clause-asked g c =
    asked_so status.NoMemory c.stopped.result.status _ c.stopped.ensures.status_is (record { behind_steps = refl; fits = tt })

pub returns-in-Err-clause-ran : goal.returns-in-Err-clause-ran
returns-in-Err-clause-ran g c =
    let n = c.in-Err.ensures.nothing_run in (
      None,
      tt,
      not_mounted c.args.watched.now (watched_in c.args.points.now) c.args.turns c.args.out.now (option_map (λ name. name.now) c.args.record_file) _ _
          c.args.choices.now.source c.stopped-in-Err.result.status c.stopped-in-Err.result.due _ c.in-Err.why
          (c.stopped-in-Err.ensures.status_is ∙ c.mount_status.ensures.exact) c.stopped-in-Err.ensures.due
          (record {
            files = refl;
            blocks = c.in-Err.ensures.not_mounted;
            input = ap g.S.Source.left n.0;
            shown = ap g.T.Sink.taken n.1;
            printed = ap g.P.Sink.taken n.2;
            kernel_same = ap (λ k. kernel_of k.store k.used) n.3;
          }),
    )

pub returns-in-Err-clause-later : goal.returns-in-Err-clause-later
returns-in-Err-clause-later g c =
    none_falls g.F.Files.faults g.D.Drive.faults g.S.Source.faults g.T.Sink.faults g.P.Sink.faults c.args.files.now c.args.files.now _ _ (omega arith)
    c.watch_on.ensures.later

pub returns-in-Some-clause-ran : goal.returns-in-Some-clause-ran
returns-in-Some-clause-ran g c =
    let few : c.args.choices.now.drawn + c.from.result < 2 ^ 64 = search rules in (
      Some c.in-Some.object,
      blamed_by g.D.Drive.faults g.S.Source.faults g.T.Sink.faults g.P.Sink.faults
          (objects c.args.drive.now c.args.input.now c.args.terminal.now c.args.printer.now)
          (objects c.watch_on.new.drive c.watch_on.new.input c.watch_on.new.terminal c.watch_on.new.printer) c.object_status.result c.in-Some.object _ c.in-Some.is
          c.in-Ok-watch_on.ensures.blame,
      with_bound c.from.result c.args.turns (search rules) _ _ _ _ _ _ _ _ _ _
          (failed_so c.args.watched.now (watched_in c.args.points.now) c.from.result c.args.out.now (option_map (λ name. name.now) c.args.record_file) _ _
          c.args.choices.now c.requires.none_drawn c.in-Ok-watch_on.ran.due (left_on _ _ _ c.in-Ok-watch_on.ensures.mounted c.in-Ok-watch_on.ensures.told.0 c.in-Ok-watch_on.ensures.told.1)
          c.object_status.result c.in-Some.object _ refl c.object_status.ensures.exact refl
          (λ v. c.in-Ok-watch_on.ensures.call v c.in-Some.object c.in-Some.is few)),
    )

pub returns-in-Some-clause-later : goal.returns-in-Some-clause-later
returns-in-Some-clause-later g c =
    none_falls g.F.Files.faults g.D.Drive.faults g.S.Source.faults g.T.Sink.faults g.P.Sink.faults c.args.files.now c.args.files.now _ _ (omega arith)
    c.watch_on.ensures.later

pub returns-clause-ran : goal.returns-clause-ran
returns-clause-ran g c =
    let few : c.args.choices.now.drawn + c.from.result < 2 ^ 64 = search rules in
    let small : c.from.result < 2 ^ 64 = search rules in
    let unfailed : c.in-Ok-watch_on.ran.ending ≡ ending.Fault → ⊥ = search rules in (
      None,
      tt,
      rw c.end_with_log.ensures.due
          (with_bound c.from.result c.args.turns (search rules) _ _ _ _ _ _ _ _ _ _
          (watched_so c.args.watched.now (watched_in c.args.points.now) c.from.result c.args.out.now (option_map (λ name. name.now) c.args.record_file) _ _
          c.args.choices.now c.requires.none_drawn c.in-Ok-watch_on.ran.due (left_on _ _ _ c.in-Ok-watch_on.ensures.mounted c.in-Ok-watch_on.ensures.told.0 c.in-Ok-watch_on.ensures.told.1)
          c.in-Ok-watch_on.ran.ending unfailed c.watch_on.new.choices (omega (arith, c.watch_on.ensures.drawn, c.requires.none_drawn)) _ c.in-Ok-watch_on.ensures.used
          (λ v. (c.in-Ok-watch_on.ensures.leaves v).runs few) c.watch_on.new.log.bytes
          (λ bytes is. c.in-Ok-watch_on.ensures.logs unfailed c.requires.none_drawn c.in-Ok.ensures.empty small bytes is)
          c.ending_status.result c.end_with_log.result.status c.ending_status.ensures.exact c.watch_on.ensures.source c.end_with_log.ensures.keeps)),
    )

pub returns-clause-later : goal.returns-clause-later
returns-clause-later g c =
    none_falls g.F.Files.faults g.D.Drive.faults g.S.Source.faults g.T.Sink.faults g.P.Sink.faults _ _ _ _ c.end_with_log.ensures.later
    c.watch_on.ensures.later

pub returns-clause-cause : goal.returns-clause-cause
returns-clause-cause g c =
    let had : Counts = counts_of g.F.Files.faults g.D.Drive.faults g.S.Source.faults g.T.Sink.faults g.P.Sink.faults c.args.files.now
    c.args.drive.now c.args.input.now c.args.terminal.now c.args.printer.now in
    let has : Counts = counts_of g.F.Files.faults g.D.Drive.faults g.S.Source.faults g.T.Sink.faults g.P.Sink.faults c.end_with_log.new.files
    c.watch_on.new.drive c.watch_on.new.input c.watch_on.new.terminal c.watch_on.new.printer in
    log_cause c.args.out.now _ (option_map (λ name. name.now) c.args.record_file) c.watch_on.new.choices c.ending_status.result
    c.end_with_log.result.status _ _ had has
    (subst (λ s. HasCause s had has) (sym (status_is c.in-Ok-watch_on.ran.ending c.ending_status.result c.ending_status.ensures.exact))
    (ended_cause (ending_of c.in-Ok-watch_on.ran.ending) had has))
    c.end_with_log.ensures.cause c.end_with_log.ensures.keeps

pub returns-in-Err-clause-asked : goal.returns-in-Err-clause-asked
returns-in-Err-clause-asked g c =
    asked_so (mount_status c.in-Err.why) c.stopped-in-Err.result.status _ (c.stopped-in-Err.ensures.status_is ∙ c.mount_status.ensures.exact)
    (unmounted_asked c.in-Err.why _ c.in-Err.ensures.faults)

pub returns-in-Some-clause-asked : goal.returns-in-Some-clause-asked
returns-in-Some-clause-asked g c =
    asked_so (object_status c.in-Some.object) c.object_status.result _ c.object_status.ensures.exact
    (failed_asked _ (record { least = c.in-Ok-watch_on.ensures.least; most = c.in-Ok-watch_on.ensures.most }) c.in-Some.object)

pub returns-clause-asked : goal.returns-clause-asked
returns-clause-asked g c =
    log_asked c.args.out.now _ (option_map (λ name. name.now) c.args.record_file) c.watch_on.new.choices c.ending_status.result _
    c.end_with_log.result.status _ _
    (asked_so (status_of (ending_of c.in-Ok-watch_on.ran.ending)) c.ending_status.result _
    (status_is c.in-Ok-watch_on.ran.ending c.ending_status.result c.ending_status.ensures.exact)
    (ended_asked _ (record { least = c.in-Ok-watch_on.ensures.least; most = c.in-Ok-watch_on.ensures.most }) (ending_of c.in-Ok-watch_on.ran.ending)))
    c.end_with_log.ensures.keeps

pub returns-in_default-clause-unmounted : goal.returns-in_default-clause-unmounted
returns-in_default-clause-unmounted g c = λ at. record { input = refl; printer = refl; kernel = refl }

pub returns-in-Err-clause-unmounted : goal.returns-in-Err-clause-unmounted
returns-in-Err-clause-unmounted g c = λ at.
    let n = c.in-Err.ensures.nothing_run in
    record { input = n.0; printer = n.2; kernel = n.3 }

pub returns-in-Some-clause-unmounted : goal.returns-in-Some-clause-unmounted
returns-in-Some-clause-unmounted g c = λ at.
    never_at c.object_status.result
    (past_so (object_status c.in-Some.object) c.object_status.result c.object_status.ensures.exact (failed_past c.in-Some.object)) at

pub returns-clause-unmounted : goal.returns-clause-unmounted
returns-clause-unmounted g c = λ at.
    never_at c.end_with_log.result.status
    (log_past c.args.out.now _ (option_map (λ name. name.now) c.args.record_file) c.watch_on.new.choices c.ending_status.result
    c.end_with_log.result.status _ _
    (past_so (status_of (ending_of c.in-Ok-watch_on.ran.ending)) c.ending_status.result
    (status_is c.in-Ok-watch_on.ran.ending c.ending_status.result c.ending_status.ensures.exact) (ended_past (ending_of c.in-Ok-watch_on.ran.ending)))
    c.end_with_log.ensures.keeps) at
