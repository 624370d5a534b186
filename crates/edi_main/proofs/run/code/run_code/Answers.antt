-- The exits of a run of a code.
use Rattle.std.proofs.Common.{rules, ◌≡◌, ◌∙◌, ◌+◌, ◌<◌, ◌^◌, option_map, arith, None, Some, refl, sym, subst, ap}
use Rattle.edi_kernel.specs.declared.ends.Ending.TheVariants as ending
use Rattle.edi_statuses.specs.Counts.{Counts, HasCause, counts_of}
use Rattle.edi_statuses.specs.Executions.{status_of}
use Rattle.edi_statuses.specs.Outside.{kernel_of}
use Rattle.edi_main.specs.steps.NotMounted.{mount_status}
use Rattle.edi_statuses.specs.Executions.{object_status}
use Rattle.edi_execute.specs.Objects.{objects}
use Rattle.edi_main.proofs.run.Blamed.{blamed_by}
use Rattle.edi_main.proofs.run.Asked.{asked_so, ended_asked, failed_asked, record_asked, unmounted_asked}
use Rattle.edi_main.proofs.run.Left.{ending_of}
use Rattle.edi_main.proofs.run.Counted.{none_falls, record_cause}
use Rattle.edi_main.proofs.run.Endings.{unmounted, broke, ended_cause, ended_so, status_is, with_bound}
use Rattle.edi_main.proofs.run.Mounting.{left_on}
use Rattle.edi_main.proofs.run.Past.{ended_past, failed_past, never_at, past_so, record_past}
use Rattle.edi_main.proofs.run.code.run_code.Goals as goal

pub returns-in-Err-clause-ran : goal.returns-in-Err-clause-ran
returns-in-Err-clause-ran g c =
    let n = c.in-Err.ensures.nothing_run in (
      None,
      tt,
      unmounted c.args.code.now c.args.turns c.args.choices.now.source (option_map (λ name. name.now) c.args.record_file) c.stopped.result.status
          c.stopped.result.due _ _ _ c.in-Err.why (c.stopped.ensures.status_is ∙ c.mount_status.ensures.exact) c.stopped.ensures.due
          (record {
            files = refl;
            blocks = c.in-Err.ensures.not_mounted;
            input = ap g.S.Source.left n.0;
            shown = ap g.T.Sink.taken n.1;
            printed = ap g.P.Sink.taken n.2;
            kernel_same = ap (λ k. kernel_of k.store k.used) n.3;
          }),
    )

pub returns-in-Err-clause-later : goal.returns-in-Err-clause-later
returns-in-Err-clause-later g c =
    none_falls g.F.Files.faults g.D.Drive.faults g.S.Source.faults g.T.Sink.faults g.P.Sink.faults c.args.files.now c.args.files.now _ _ (omega arith)
    c.run_on.ensures.later

pub returns-in-Some-clause-ran : goal.returns-in-Some-clause-ran
returns-in-Some-clause-ran g c =
    let l = c.in-Ok.ensures.leaves in
    let few : c.args.choices.now.drawn + c.from.result < 2 ^ 64 = search rules in (
      Some c.in-Some.object,
      blamed_by g.D.Drive.faults g.S.Source.faults g.T.Sink.faults g.P.Sink.faults
          (objects c.args.drive.now c.args.input.now c.args.terminal.now c.args.printer.now)
          (objects c.run_on.new.drive c.run_on.new.input c.run_on.new.terminal c.run_on.new.printer) c.object_status.result c.in-Some.object _ c.in-Some.is
          c.in-Ok.ensures.blame,
      with_bound c.from.result c.args.turns (search rules) _ _ _ _ _ _ _ _
          (broke c.args.code.now c.from.result c.args.choices.now c.requires.none_drawn c.in-Ok.ran.due _ _
          (left_on _ _ _ c.in-Ok.ensures.mounted l.told l.due)
          (option_map (λ name. name.now) c.args.record_file) c.object_status.result c.in-Some.object _ refl c.object_status.ensures.exact refl
          (c.in-Ok.ensures.call c.in-Some.object c.in-Some.is few)),
    )

pub returns-in-Some-clause-later : goal.returns-in-Some-clause-later
returns-in-Some-clause-later g c =
    none_falls g.F.Files.faults g.D.Drive.faults g.S.Source.faults g.T.Sink.faults g.P.Sink.faults c.args.files.now c.args.files.now _ _ (omega arith)
    c.run_on.ensures.later

pub returns-clause-ran : goal.returns-clause-ran
returns-clause-ran g c =
    let l = c.in-Ok.ensures.leaves in
    let few : c.args.choices.now.drawn + c.from.result < 2 ^ 64 = search rules in
    let unfailed : c.in-Ok.ran.ending ≡ ending.Fault → ⊥ = search rules in (
      None,
      tt,
      rw c.end_with_record.ensures.due
          (with_bound c.from.result c.args.turns (search rules) _ _ _ _ _ _ _ _
          (ended_so c.args.code.now c.from.result c.args.choices.now c.requires.none_drawn c.in-Ok.ran.due _ _
          (left_on _ _ _ c.in-Ok.ensures.mounted l.told l.due)
          c.in-Ok.ran.ending unfailed c.run_on.new.choices (omega (arith, c.run_on.ensures.drawn, c.requires.none_drawn)) _ c.in-Ok.ensures.used (l.runs few)
          (option_map (λ name. name.now) c.args.record_file) c.ending_status.result c.end_with_record.result.status c.ending_status.ensures.exact
          c.run_on.ensures.source c.end_with_record.ensures.keeps)),
    )

pub returns-clause-later : goal.returns-clause-later
returns-clause-later g c =
    none_falls g.F.Files.faults g.D.Drive.faults g.S.Source.faults g.T.Sink.faults g.P.Sink.faults _ _ _ _ c.end_with_record.ensures.later
    c.run_on.ensures.later

pub returns-clause-cause : goal.returns-clause-cause
returns-clause-cause g c =
    let had : Counts = counts_of g.F.Files.faults g.D.Drive.faults g.S.Source.faults g.T.Sink.faults g.P.Sink.faults c.args.files.now
    c.args.drive.now c.args.input.now c.args.terminal.now c.args.printer.now in
    let has : Counts = counts_of g.F.Files.faults g.D.Drive.faults g.S.Source.faults g.T.Sink.faults g.P.Sink.faults c.end_with_record.new.files
    c.run_on.new.drive c.run_on.new.input c.run_on.new.terminal c.run_on.new.printer in
    record_cause (option_map (λ name. name.now) c.args.record_file) c.run_on.new.choices c.ending_status.result c.end_with_record.result.status _ _ had has
    (subst (λ s. HasCause s had has) (sym (status_is c.in-Ok.ran.ending c.ending_status.result c.ending_status.ensures.exact))
    (ended_cause (ending_of c.in-Ok.ran.ending) had has))
    c.end_with_record.ensures.cause c.end_with_record.ensures.keeps

pub returns-in-Err-clause-asked : goal.returns-in-Err-clause-asked
returns-in-Err-clause-asked g c =
    asked_so (mount_status c.in-Err.why) c.stopped.result.status _ (c.stopped.ensures.status_is ∙ c.mount_status.ensures.exact)
    (unmounted_asked c.in-Err.why _ c.in-Err.ensures.faults)

pub returns-in-Some-clause-asked : goal.returns-in-Some-clause-asked
returns-in-Some-clause-asked g c =
    asked_so (object_status c.in-Some.object) c.object_status.result _ c.object_status.ensures.exact
    (failed_asked _ (record { least = c.in-Ok.ensures.least; most = c.in-Ok.ensures.most }) c.in-Some.object)

pub returns-clause-asked : goal.returns-clause-asked
returns-clause-asked g c =
    record_asked _ (option_map (λ name. name.now) c.args.record_file) c.run_on.new.choices c.ending_status.result c.end_with_record.result.status _ _
    (asked_so (status_of (ending_of c.in-Ok.ran.ending)) c.ending_status.result _
    (status_is c.in-Ok.ran.ending c.ending_status.result c.ending_status.ensures.exact)
    (ended_asked _ (record { least = c.in-Ok.ensures.least; most = c.in-Ok.ensures.most }) (ending_of c.in-Ok.ran.ending)))
    c.end_with_record.ensures.keeps

pub returns-in-Err-clause-unmounted : goal.returns-in-Err-clause-unmounted
returns-in-Err-clause-unmounted g c = λ at.
    let n = c.in-Err.ensures.nothing_run in
    record { input = n.0; printer = n.2; kernel = n.3 }

pub returns-in-Some-clause-unmounted : goal.returns-in-Some-clause-unmounted
returns-in-Some-clause-unmounted g c = λ at.
    never_at c.object_status.result
    (past_so (object_status c.in-Some.object) c.object_status.result c.object_status.ensures.exact (failed_past c.in-Some.object)) at

pub returns-clause-unmounted : goal.returns-clause-unmounted
returns-clause-unmounted g c = λ at.
    never_at c.end_with_record.result.status
    (record_past (option_map (λ name. name.now) c.args.record_file) c.run_on.new.choices c.ending_status.result c.end_with_record.result.status _ _
    (past_so (status_of (ending_of c.in-Ok.ran.ending)) c.ending_status.result
    (status_is c.in-Ok.ran.ending c.ending_status.result c.ending_status.ensures.exact) (ended_past (ending_of c.in-Ok.ran.ending)))
    c.end_with_record.ensures.keeps) at
