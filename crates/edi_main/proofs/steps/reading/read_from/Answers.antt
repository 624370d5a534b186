use Rattle.std.proofs.Common.{◌∙◌, rules, sym, subst}
use Rattle.edi_words.specs.View.{choices_from}
use Rattle.edi_statuses.specs.Outside.{Outside, still_told}
use Rattle.edi_main.specs.steps.OnFiles.{ChoicesStep, files_only}
use Rattle.edi_main.proofs.steps.OnFilesLemmas.{file_step, no_fault}
use Rattle.edi_main.proofs.steps.reading.read_from.Goals as goal

pub returns-in-File-clause-reads : goal.returns-in-File-clause-reads
returns-in-File-clause-reads g c =
    let f = c.in_ok-bytes-in-File.ensures.fetched in
    let o : Outside = files_only (still_told (g.F.Files.contents c.args.files.now) (g.F.Files.contents c.fetch.new.files)) in
    subst (λ from. ChoicesStep o (choices_from from) c.choices_of.result) (sym c.in-File.is)
    (file_step o c.in-File.name.now c.deref.result.now f.0 c.choices_of.result f.1 (c.deref.ensures.value ∙ f.2) c.choices_of.ensures.exact)

pub returns-in-File-clause-only : goal.returns-in-File-clause-only
returns-in-File-clause-only g c =
    let cause = no_fault c.deref.result.now c.choices_of.result _ c.choices_of.ensures.exact in
    record { unchanged = search rules; later = search rules; cause = cause }
