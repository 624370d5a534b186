-- The exits of `check`.
use Rattle.std.proofs.Common.{ℕ, Vec, Global}
use Rattle.edi_words.specs.Words.{check}
use Rattle.edi_statuses.specs.Outside.{still_told}
use Rattle.edi_statuses.specs.Commands.{TextSteps}
use Rattle.edi_main.specs.steps.OnFiles.{files_only}
use Rattle.edi_main.specs.text.TextCommands.{IsReportOf}
use Rattle.edi_main.proofs.text.Checked.{check_shows}
use Rattle.edi_main.proofs.steps.Shown.{made_came, made_cause}
use Rattle.edi_main.proofs.text.checking.check.Goals as goal

pub returns-clause-came : goal.returns-clause-came
returns-clause-came g c =
    let file = c.args.file.now in
    made_came (check file) file (λ o. TextSteps o file) IsReportOf (check_shows file) (λ (v : Vec ℕ Global). v.items) _ _ _ _ c.show_made.result _ _
    c.report_of_file-made.result c.report_of_file-made.ensures.only.unchanged c.report_of_file-made.ensures.reports c.show_made.ensures.shows

pub returns-clause-cause : goal.returns-clause-cause
returns-clause-cause g c =
    let file = c.args.file.now in
    made_cause (check file) file (λ o. TextSteps o file) IsReportOf (check_shows file) (λ (v : Vec ℕ Global). v.items) _ _ _ _ c.show_made.result
    (files_only (still_told (g.F.Files.contents c.args.files.now) (g.F.Files.contents c.report_of_file-made.new.files))) _ _ c.report_of_file-made.result
    c.report_of_file-made.ensures.reports c.report_of_file-made.ensures.only.cause c.show_made.ensures.shows
