-- The exits of `explain`.
use Rattle.std.proofs.Common.{subst}
use Rattle.edi_words.specs.Words.{explain}
use Rattle.edi_statuses.specs.declared.status.Status.TheVariants as status
use Rattle.edi_statuses.specs.Commands.{IsShownOf}
use Rattle.edi_statuses.specs.Outside.{Outside, still_told}
use Rattle.edi_statuses.specs.Steps.{Fetches}
use Rattle.edi_main.specs.declared.text.explaining.Told.{Told}
use Rattle.edi_main.specs.steps.OnFiles.{files_only}
use Rattle.edi_main.specs.steps.OnTerminal.{EndsShowing}
use Rattle.edi_main.proofs.text.Explained.{explain_shows, tells_no_fault}
use Rattle.edi_main.proofs.steps.Shown.{ends_cause, shown, stopped, stopped_cause}
use Rattle.edi_main.proofs.text.explaining.explain_file.Goals as goal

pub returns-in-Ok-clause-came : goal.returns-in-Ok-clause-came
returns-in-Ok-clause-came g c =
    let file = c.args.file.now in
    let s = c.in-Ok.told.status in
    shown (explain file) file (λ o. Fetches o file) (λ text bytes. IsShownOf text s bytes) s (explain_shows file s) (λ (v : Told). v.bytes.items)
    (g.F.Files.contents c.args.files.now) (g.F.Files.contents c.told_of_file.new.files)
    (g.T.Sink.taken c.args.terminal.now) (g.T.Sink.taken c.show_and_end.new.terminal) c.in-Ok.told c.show_and_end.result c.in-Ok.ensures.only.unchanged
    c.in-Ok.ensures.explains
    (subst (λ b. EndsShowing s b c.show_and_end.result (g.T.Sink.taken c.args.terminal.now) (g.T.Sink.taken c.show_and_end.new.terminal))
    c.deref.ensures.value c.show_and_end.ensures.shows)

pub returns-in-Ok-clause-cause : goal.returns-in-Ok-clause-cause
returns-in-Ok-clause-cause g c =
    let e = c.in-Ok.ensures.explains in
    ends_cause c.in-Ok.told.status c.show_and_end.result.status _ _ _ _ (tells_no_fault e.0 c.in-Ok.told.status c.in-Ok.told.bytes.items e.2)
    c.show_and_end.ensures.cause

pub returns-in-Err-clause-came : goal.returns-in-Err-clause-came
returns-in-Err-clause-came g c =
    let file = c.args.file.now in
    stopped (explain file) file (λ o. Fetches o file) (λ text bytes. IsShownOf text status.Ok bytes) status.Ok (explain_shows file status.Ok)
    (λ (v : Told). v.bytes.items) (g.F.Files.contents c.args.files.now) (g.F.Files.contents c.told_of_file.new.files)
    (g.T.Sink.taken c.args.terminal.now) c.in-Err.status c.in-Err.ensures.only.unchanged c.in-Err.ensures.explains

pub returns-in-Err-clause-cause : goal.returns-in-Err-clause-cause
returns-in-Err-clause-cause g c =
    let file = c.args.file.now in
    let o : Outside = files_only (still_told (g.F.Files.contents c.args.files.now) (g.F.Files.contents c.told_of_file.new.files)) in
    stopped_cause (explain file) file (λ o. Fetches o file) (λ text bytes. IsShownOf text status.Ok bytes) status.Ok (explain_shows file status.Ok)
    (λ (v : Told). v.bytes.items) o c.in-Err.status _ _ _ c.in-Err.ensures.explains c.in-Err.ensures.only.cause
