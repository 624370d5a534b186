-- The exits of a run of a code with a dump.
use Rattle.std.proofs.Common.{rules, ◌≡◌, ◌∙◌, ◌+◌, ◌<◌, ◌^◌, option_map, arith, [], ◌∷◌, ◌++◌, None, Some, refl, sym, subst, ap}
use Rattle.std.proofs.lemmas.Option.{IfSome_then}
use Rattle.edi_kernel.specs.declared.ends.Ending.TheVariants as ending
use Rattle.edi_statuses.specs.Counts.{Counts, HasCause, counts_of}
use Rattle.edi_runs.specs.explore.Keeping.{KeepsInTurn}
use Rattle.edi_statuses.specs.Executions.{object_status, record_of, status_of}
use Rattle.edi_words.specs.Words.{dump}
use Rattle.edi_statuses.specs.declared.status.Status.TheVariants as status
use Rattle.edi_statuses.specs.Outside.{Outside, kernel_of, outside_of}
use Rattle.edi_statuses.proofs.Silent.{nothing_seen}
use Rattle.edi_main.specs.run.OnAccounts.{IsGiven}
use Rattle.edi_main.specs.steps.NotMounted.{mount_status}
use Rattle.edi_execute.specs.Objects.{contents_of, objects}
use Rattle.edi_main.proofs.run.Blamed.{blamed_by}
use Rattle.edi_main.proofs.run.Asked.{asked_so, ended_asked, failed_asked, unmounted_asked}
use Rattle.edi_main.proofs.run.Left.{ending_of}
use Rattle.edi_main.proofs.run.Counted.{none_falls}
use Rattle.edi_main.proofs.run.Endings.{ended_cause, status_is}
use Rattle.edi_main.proofs.run.Mounting.{left_on}
use Rattle.edi_main.proofs.run.Past.{ended_past, failed_past, never_at, past_so}
use Rattle.edi_main.proofs.run.AccountEnds.{account_so, dump_are, dump_tells, failed_so, given_dump, kept_asked, kept_cause, kept_past, not_mounted, some_dump, with_bound}
use Rattle.edi_main.proofs.run.dumping.dump_code.Goals as goal

pub returns-in-Err-clause-ran : goal.returns-in-Err-clause-ran
returns-in-Err-clause-ran g c =
    let n = c.in-Err.ensures.nothing_run in (
      None,
      tt,
      not_mounted (IsGiven (option_map (λ bytes. bytes.now) c.args.text) c.args.code.now) c.args.code.now (λ program is. is.0) c.args.turns (dump c.args.out.now) (option_map (λ name. name.now) c.args.record_file) _ _
          c.args.choices.now.source c.stopped.result.status c.stopped.result.due _ c.in-Err.why
          (c.stopped.ensures.status_is ∙ c.mount_status.ensures.exact) c.stopped.ensures.due
          (record {
            files = refl;
            blocks = c.in-Err.ensures.not_mounted;
            input = ap g.S.Source.left n.0;
            shown = ap g.T.Sink.taken n.1;
            printed = ap g.P.Sink.taken n.2;
            kernel_same = ap (λ k. kernel_of k.store k.used) n.3;
          }),
    )

pub returns-in-Err-clause-later : goal.returns-in-Err-clause-later
returns-in-Err-clause-later g c =
    none_falls g.F.Files.faults g.D.Drive.faults g.S.Source.faults g.T.Sink.faults g.P.Sink.faults c.args.files.now c.args.files.now _ _ (omega arith)
    c.dump_on.ensures.later

pub returns-in-Some-clause-ran : goal.returns-in-Some-clause-ran
returns-in-Some-clause-ran g c =
    let l = c.in-Ok.ensures.leaves in
    let few : c.args.choices.now.drawn + c.from.result < 2 ^ 64 = search rules in (
      Some c.in-Some.object,
      blamed_by g.D.Drive.faults g.S.Source.faults g.T.Sink.faults g.P.Sink.faults
          (objects c.args.drive.now c.args.input.now c.args.terminal.now c.args.printer.now)
          (objects c.dump_on.new.drive c.dump_on.new.input c.dump_on.new.terminal c.dump_on.new.printer) c.object_status.result c.in-Some.object _ c.in-Some.is
          c.in-Ok.ensures.blame,
      with_bound c.from.result c.args.turns (search rules) _ _ _ _ _ _ _ _ _
          (failed_so (IsGiven (option_map (λ bytes. bytes.now) c.args.text) c.args.code.now) c.args.code.now (λ program is. is.0) c.from.result (dump c.args.out.now) (option_map (λ name. name.now) c.args.record_file) _ _ c.args.choices.now c.requires.none_drawn
          c.in-Ok.end.ran.due (left_on _ _ _ c.in-Ok.ensures.mounted l.told l.due) c.object_status.result c.in-Some.object _
          refl c.object_status.ensures.exact refl (c.in-Ok.ensures.call c.in-Some.object c.in-Some.is few)),
    )

pub returns-in-Some-clause-later : goal.returns-in-Some-clause-later
returns-in-Some-clause-later g c =
    none_falls g.F.Files.faults g.D.Drive.faults g.S.Source.faults g.T.Sink.faults g.P.Sink.faults c.args.files.now c.args.files.now _ _ (omega arith)
    c.dump_on.ensures.later

pub returns-clause-ran : goal.returns-clause-ran
returns-clause-ran g c =
    let before : Outside = outside_of g.F.Files.contents g.D.Drive.contents g.S.Source.left g.T.Sink.taken g.P.Sink.taken c.args.files.now
    c.args.drive.now c.args.input.now c.args.terminal.now c.args.printer.now in
    let after : Outside = outside_of g.F.Files.contents g.D.Drive.contents g.S.Source.left g.T.Sink.taken g.P.Sink.taken c.keep_dumped-kept.new.files
    c.dump_on.new.drive c.dump_on.new.input c.dump_on.new.terminal c.dump_on.new.printer in
    let l = c.in-Ok.ensures.leaves in
    let few : c.args.choices.now.drawn + c.from.result < 2 ^ 64 = search rules in
    let unfailed : c.in-Ok.end.ran.ending ≡ ending.Fault → ⊥ = search rules in
    let text = option_map (λ bytes. bytes.now) c.args.text in
    let left = left_on _ before after c.in-Ok.ensures.mounted l.told l.due in (
      None,
      tt,
      with_bound c.from.result c.args.turns (search rules) _ _ _ _ _ _ _ _ _
          (account_so (IsGiven text c.args.code.now) c.args.code.now (λ program is. is.0) c.from.result (dump c.args.out.now)
          (option_map (λ name. name.now) c.args.record_file) before after c.args.choices.now c.requires.none_drawn c.in-Ok.end.ran.due left
          c.in-Ok.end.ran.ending unfailed c.dump_on.new.choices (omega (arith, c.dump_on.ensures.drawn, c.requires.none_drawn)) _ c.in-Ok.ensures.used
          (l.runs few) c.keep_dumped-kept.result c.ending_status-came.result c.kept_status.result c.ending_status-came.ensures.exact
          c.kept_status.ensures.exact c.dump_on.ensures.source
          (λ program is.
          let dumped = some_dump program c.args.code.now is.0 c.from.result c.args.choices.now.source
          (contents_of g.D.Drive.contents g.S.Source.left g.T.Sink.taken g.P.Sink.taken
          (objects c.args.drive.now c.args.input.now c.args.terminal.now c.args.printer.now))
          (contents_of g.D.Drive.contents g.S.Source.left g.T.Sink.taken g.P.Sink.taken
          (objects c.dump_on.new.drive c.dump_on.new.input c.dump_on.new.terminal c.dump_on.new.printer)) _ (l.runs few) c.in-Ok.end.dump
          (IfSome_then c.in-Ok.end.dump c.in-Ok.ensures.dump (λ told tells. given_dump text c.args.code.now program is c.from.result
          c.args.choices.now.source _ _ told.items (tells unfailed c.requires.none_drawn))) in (
            (c.args.out.now, dumped.0) ∷ [],
            dump_are (IsGiven text c.args.code.now) c.args.code.now (λ p its. its.0) c.from.result (dump c.args.out.now)
                (option_map (λ name. name.now) c.args.record_file) before after c.args.choices.now c.requires.none_drawn c.in-Ok.end.ran.due left
                program dumped.0 c.args.out.now dumped.2,
            c.keep_dumped-kept.ensures.keeps dumped.0 dumped.1,
          ))),
    )

pub returns-clause-tells : goal.returns-clause-tells
returns-clause-tells g c =
    let now = c.dump_on.new.choices in
    dump_tells c.in-Ok.end.dump _ _
    (λ told. KeepsInTurn c.keep_dumped-kept.result (record_of (option_map (λ name. name.now) c.args.record_file) now.source now.drawn
    ++ (c.args.out.now, told) ∷ [])) c.keep_dumped-kept.ensures.keeps

pub returns-clause-later : goal.returns-clause-later
returns-clause-later g c =
    none_falls g.F.Files.faults g.D.Drive.faults g.S.Source.faults g.T.Sink.faults g.P.Sink.faults _ _ _ _ c.keep_dumped-kept.ensures.later
    c.dump_on.ensures.later

pub returns-clause-cause : goal.returns-clause-cause
returns-clause-cause g c =
    let had : Counts = counts_of g.F.Files.faults g.D.Drive.faults g.S.Source.faults g.T.Sink.faults g.P.Sink.faults c.args.files.now
    c.args.drive.now c.args.input.now c.args.terminal.now c.args.printer.now in
    let has : Counts = counts_of g.F.Files.faults g.D.Drive.faults g.S.Source.faults g.T.Sink.faults g.P.Sink.faults c.keep_dumped-kept.new.files
    c.dump_on.new.drive c.dump_on.new.input c.dump_on.new.terminal c.dump_on.new.printer in
    kept_cause had has c.keep_dumped-kept.result c.ending_status-came.result c.kept_status.result c.kept_status.ensures.exact
    (subst (λ s. HasCause s had has) (sym (status_is c.in-Ok.end.ran.ending c.ending_status-came.result c.ending_status-came.ensures.exact))
    (ended_cause (ending_of c.in-Ok.end.ran.ending) had has)) c.keep_dumped-kept.ensures.cause

pub returns-in-Err-clause-asked : goal.returns-in-Err-clause-asked
returns-in-Err-clause-asked g c =
    asked_so (mount_status c.in-Err.why) c.stopped.result.status _ (c.stopped.ensures.status_is ∙ c.mount_status.ensures.exact)
    (unmounted_asked c.in-Err.why _ c.in-Err.ensures.faults)

pub returns-in-Some-clause-asked : goal.returns-in-Some-clause-asked
returns-in-Some-clause-asked g c =
    asked_so (object_status c.in-Some.object) c.object_status.result _ c.object_status.ensures.exact
    (failed_asked _ (record { least = c.in-Ok.ensures.least; most = c.in-Ok.ensures.most }) c.in-Some.object)

pub returns-clause-asked : goal.returns-clause-asked
returns-clause-asked g c =
    kept_asked _ c.keep_dumped-kept.result c.ending_status-came.result c.kept_status.result c.kept_status.ensures.exact
    (asked_so (status_of (ending_of c.in-Ok.end.ran.ending)) c.ending_status-came.result _
    (status_is c.in-Ok.end.ran.ending c.ending_status-came.result c.ending_status-came.ensures.exact)
    (ended_asked _ (record { least = c.in-Ok.ensures.least; most = c.in-Ok.ensures.most }) (ending_of c.in-Ok.end.ran.ending)))

pub returns-in-Err-clause-unmounted : goal.returns-in-Err-clause-unmounted
returns-in-Err-clause-unmounted g c = λ at.
    let n = c.in-Err.ensures.nothing_run in
    record { input = n.0; printer = n.2; kernel = n.3 }

pub returns-in-Some-clause-unmounted : goal.returns-in-Some-clause-unmounted
returns-in-Some-clause-unmounted g c = λ at.
    never_at c.object_status.result
    (past_so (object_status c.in-Some.object) c.object_status.result c.object_status.ensures.exact (failed_past c.in-Some.object)) at

pub returns-clause-unmounted : goal.returns-clause-unmounted
returns-clause-unmounted g c = λ at.
    never_at c.kept_status.result
    (kept_past c.keep_dumped-kept.result c.ending_status-came.result c.kept_status.result c.kept_status.ensures.exact
    (past_so (status_of (ending_of c.in-Ok.end.ran.ending)) c.ending_status-came.result
    (status_is c.in-Ok.end.ran.ending c.ending_status-came.result c.ending_status-came.ensures.exact)
    (ended_past (ending_of c.in-Ok.end.ran.ending)))) at
